-- When the code of a script is within a limit on codes.
use Rattle.std.specs.Prelude.{◌≤◌, List, [], length}
use Rattle.mux_config.specs.Configuration.{Configuration}
use Rattle.plan_code.specs.declared.limits.TheConstants.{MOST_CONFIGURATIONS, MOST_LABELS, MOST_INSTRUCTIONS, COUNTERS}
use Rattle.script_front.specs.Tree.{Tree}
use Rattle.script_compiler.specs.Scheme.{unpriced_labels}
use Rattle.script_compiler.specs.Judged.{IsJudged}
use Rattle.script_compiler.specs.Compiled.{body_of, beginning, opening_of, placed_instrs, nested, Tabled}
use Rattle.script_compiler.specs.declared.fault.CodeLimit.{CodeLimit}
use Rattle.script_compiler.specs.declared.fault.CodeLimit.TheVariants.{Instructions, Labels, Configurations, Counters}

-- the code of the script is within this limit
abbrev pub IsWithin : CodeLimit → Tree → Type 0
IsWithin Instructions s = length (placed_instrs s) ≤ MOST_INSTRUCTIONS
IsWithin Labels s = length (unpriced_labels 0 (placed_instrs s)) ≤ MOST_LABELS
IsWithin Configurations s =
    (table : List Configuration) → Tabled [] (unpriced_labels 0 (placed_instrs s)) table
    → length table ≤ MOST_CONFIGURATIONS
IsWithin Counters s = nested (body_of s) ≤ COUNTERS

-- if each statement of the script is valid where it is, its code exceeds this limit
abbrev pub Passes : CodeLimit → Tree → Type 0
Passes limit s = IsJudged s.header (body_of s) (beginning (opening_of s)) → IsWithin limit s → ⊥
