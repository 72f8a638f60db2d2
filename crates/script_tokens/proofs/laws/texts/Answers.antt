use Rattle.script_tokens.proofs.Pieces.{texts_are_cut}
use Rattle.script_tokens.proofs.laws.texts.Goals as goal

pub returns : goal.returns
returns c = texts_are_cut
