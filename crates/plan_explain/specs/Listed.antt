-- All warnings about a script and its code, as a list, each as often as its commit is in the code.
use Rattle.std.specs.Prelude.{List, [], ◌∷◌, ◌++◌, map, Option, Some, None}
use Rattle.plan_code.specs.Program.{Program}
use Rattle.plan_verifier.specs.Typing.{Known}
use Rattle.script_front.specs.Tree.{Tree}
use Rattle.plan_explain.specs.declared.beginning.FirstWait.{FirstWait}
use Rattle.plan_explain.specs.declared.warning.Warning.{Warning}
use Rattle.plan_explain.specs.declared.warning.Warning.TheVariants.{WaitsForTime, Unreached}
use Rattle.plan_explain.specs.Beginnings.{first_wait}
use Rattle.plan_explain.specs.Blocks.{unreached}
use Rattle.plan_explain.specs.DayTraps.{traps}
use Rattle.plan_explain.specs.Straight.{straight_warnings}
use Rattle.plan_explain.specs.ConfigurationChanges.{at_opening, at_commits}

abbrev pub at_wait : Option FirstWait → List Warning
at_wait None = []
at_wait (Some w) = WaitsForTime w ∷ []

abbrev pub warnings : Tree → Program → List Known → List Warning
warnings script code typing =
    (at_opening script.begin_line typing ++ at_commits code.lines typing)
    ++ at_wait (first_wait code.lines)
    ++ map Unreached (unreached code.lines script.blocks)
    ++ traps code.lines
    ++ straight_warnings script
