-- Changes of a script's text, and what the changed text is.
use Rattle.std.specs.Prelude.{◌≡◌, ℕ, ◌≤◌, List, ◌++◌, length, take, drop, Option, Some, None, string_bytes}
use Rattle.script_front.specs.Tree.{Tree, IsScript}
use Rattle.script_front.specs.Denoting.{IsScriptOf, IsNoScript}
use Rattle.script_compiler.specs.declared.fault.CompileFault.{CompileFault}
use Rattle.script_compiler.specs.declared.fault.CompileFault.TheVariants.{Refused, Limit, Memory}
use Rattle.script_compiler.specs.Compiled.{IsAccepted}
use Rattle.script_compiler.specs.Refused.{IsRefused}
use Rattle.plan_explain.specs.declared.trial.TextPatch.{TextPatch}
use Rattle.plan_explain.specs.declared.trial.Change.{Change}
use Rattle.plan_explain.specs.declared.trial.Outcome.{Outcome}
use Rattle.plan_explain.specs.declared.trial.Outcome.TheVariants.{Accepted, NoScript, NoPlan}
use Rattle.plan_explain.specs.declared.trial.Refusal.{Refusal}
use Rattle.plan_explain.specs.declared.trial.Refusal.TheVariants.{Token, Plan}
use Rattle.plan_explain.specs.declared.trial.Verdict.{Verdict}
use Rattle.plan_explain.specs.declared.trial.Verdict.TheVariants.{Accepted as IsTaken, Passed, Same, Other}

-- the text with the part in the place of its bytes from `start` to `end`
pub record IsSpliced (start end : ℕ) (part text new : List ℕ) : Type 0 where
  pub ordered : start ≤ end
  pub within : end ≤ length text
  pub is : new ≡ take start text ++ part ++ drop end text

-- the text with a patch
abbrev pub IsWith : TextPatch → List ℕ → List ℕ → Type 0
IsWith s text new = IsSpliced s.start s.end (string_bytes s.part) text new

-- a change in two places is that of the later one and then that of the earlier one
abbrev pub IsBoth : TextPatch → Option TextPatch → List ℕ → List ℕ → Type 0
IsBoth first None text new = IsWith first text new
IsBoth first (Some second) text new = (between : List ℕ) × IsWith second text between × IsWith first between new

abbrev pub IsChanged : Change → List ℕ → List ℕ → Type 0
IsChanged c text new = IsBoth c.first c.second text new

-- ---- what a text is

-- the text denotes an accepted script
pub record IsAcceptedText (text : List ℕ) : Type 0 where
  pub tree : Tree
  pub script : IsScript tree
  pub denotes : IsScriptOf text tree
  pub accepted : IsAccepted tree

-- the script is refused with this fault: in its line for its cause
abbrev pub IsRefusedBy : Tree → CompileFault → Type 0
IsRefusedBy tree (Refused line cause) = IsRefused tree line cause
IsRefusedBy tree (Limit line limit) = Unit {0}
IsRefusedBy tree Memory = Unit {0}

-- it denotes a script that is refused with this fault
pub record IsRefusedText (text : List ℕ) (fault : CompileFault) : Type 0 where
  pub tree : Tree
  pub denotes : IsScriptOf text tree
  pub refused : IsRefusedBy tree fault

abbrev pub IsOutcome : List ℕ → Outcome → Type 0
IsOutcome text Accepted = IsAcceptedText text
IsOutcome text (NoScript fault) = IsNoScript text
IsOutcome text (NoPlan fault) = IsRefusedText text fault

-- ---- what a change is worth

-- a text that is no script for a token may be one then, or not; one that is refused as a plan is still a script
abbrev pub IsPassed : Refusal → Outcome → Type 0
IsPassed refusal Accepted = ⊥
IsPassed (Token at) (NoScript fault) = Unit {0}
IsPassed (Token at) (NoPlan fault) = Unit {0}
IsPassed (Plan line cause defined) (NoScript fault) = ⊥
IsPassed (Plan line cause defined) (NoPlan fault) = fault ≡ Refused line cause → ⊥

abbrev pub IsJudged : Verdict → Refusal → Outcome → Type 0
IsJudged IsTaken refusal outcome = outcome ≡ Accepted
IsJudged Passed refusal outcome = IsPassed refusal outcome
IsJudged Same refusal outcome = Unit {0}
IsJudged Other refusal outcome = Unit {0}

-- the text with the change is something that deserves this verdict
pub record IsTried (c : Change) (text : List ℕ) (refusal : Refusal) (verdict : Verdict) : Type 0 where
  pub new : List ℕ
  pub outcome : Outcome
  pub changed : IsChanged c text new
  pub is : IsOutcome new outcome
  pub judged : IsJudged verdict refusal outcome
