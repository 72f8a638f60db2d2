use Rattle.script_front.proofs.Words.{rules}
use Rattle.script_front.specs.BlockReader.{script_at}
use Rattle.script_front.proofs.ReadingScripts.{script_given}
use Rattle.script_front.proofs.parser.script.Goals as goal

pub new-requires : goal.new-requires
unfolding script_at
new-requires c = (script_given c.args.reader.now _ (search rules)).0
