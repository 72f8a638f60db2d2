use Rattle.script_compiler.proofs.Words.{◌≡◌, contacts_in, drop, with_alternatives}
use Rattle.script_compiler.proofs.instructions.contacts_of.Given as goal

abbrev pub invariant-loop-alternative : goal.invariant-loop-alternative
invariant-loop-alternative l = with_alternatives l.closed (drop l.alternative-index l.alternatives) l.set
    ≡ contacts_in l.closed l.alternatives
