use Rattle.script_config.proofs.Words.{refl}
use Rattle.script_config.proofs.Scriptable.{shows_one}
use Rattle.script_config.proofs.heard.config_heard.Goals as goal

pub unwrap-requires : goal.unwrap-requires
unwrap-requires c =
    let shown = shows_one c.args.picture.now c.first_unscriptable.ensures.kept c.in-None.ensures.none in
    let is = c.config.ensures.every shown.0 shown.1 shown.2 in
    rw is refl
