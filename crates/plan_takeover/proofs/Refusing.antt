-- Why a plan does not take over, from what its steps leave.
use Rattle.std.proofs.Common.{[], ◌++◌, ◌+◌, ◌<◌, ◌∙◌, ◌∷◌, ◌≡◌, List, ap, get_or, inr, length}
use Rattle.std.proofs.Common.{subst, sym, take, ℕ}
use Rattle.std.specs.Prelude.{Contains}
use Rattle.std.specs.List.{AllByRecursion}
use Rattle.std.proofs.lemmas.List.{take_more}
use Rattle.std.proofs.lemmas.List.Elements.{Contains-get_or}
use Rattle.fib_codec.proofs.Lengths.{AllByRecursion-append}
use Rattle.mux_types.specs.Configuration.{Configuration}
use Rattle.plan_code.specs.Program.{Program}
use Rattle.plan_code.specs.declared.instr.Line.{Line}
use Rattle.plan_code.specs.declared.label.Label.{Label}
use Rattle.plan_takeover.specs.Refusals.{AreTooMany, AreTooManyLabels, IsExceeded, IsLimit, IsNear, IsTakeoverRefused}
use Rattle.plan_takeover.specs.Refusals.{JumpsTooFar}
use Rattle.plan_takeover.specs.Takeover.{leading}
use Rattle.script_compiler.specs.declared.fault.CodeLimit.{CodeLimit}
use Rattle.script_compiler.specs.declared.fault.CompileFault.{CompileFault}
use Rattle.script_compiler.specs.declared.fault.CompileFault.TheVariants.{Refused, Limit, Memory}

pub limit_weaker : (P Q : CodeLimit → Type 0) → ((limit : CodeLimit) → P limit → Q limit) → (e : CompileFault)
    → IsLimit P e → IsLimit Q e
limit_weaker P Q more (Refused at cause) h = h
limit_weaker P Q more (Limit at limit) h = more limit h
limit_weaker P Q more Memory h = tt

pub refused_by_limit : (line : ℕ) (old : Program) (from to : Configuration) (e : CompileFault)
    → IsLimit (IsExceeded (length (leading old.plan line from to)) old) e → IsTakeoverRefused line old from to e
refused_by_limit line old from to (Refused at cause) h = absurd h
refused_by_limit line old from to (Limit at limit) h = h
refused_by_limit line old from to Memory h = tt

-- ---- one element of a list is at fault

-- the instruction at hand jumps too far; or there is no room for it
pub far_jump : (code : List Line) (by i : ℕ) (line : Line) → i < length code → line ≡ get_or code i line
    → JumpsTooFar by line.instr → AreTooMany by code
far_jump code by i line within is far =
    inr (line, subst (λ (l : Line). Contains code l) (sym is) (Contains-get_or code i line within), far)

pub far_label : (labels : List Label) (by i : ℕ) (label : Label) → i < length labels → label ≡ get_or labels i label
    → 65535 < label.pc + by → AreTooManyLabels by labels
far_label labels by i label within is far =
    inr (label, subst (λ (l : Label). Contains labels l) (sym is) (Contains-get_or labels i label within), far)

pub one_near : (labels : List Label) (by i : ℕ) (label : Label) → i < length labels → label ≡ get_or labels i label
    → AllByRecursion (IsNear by) (take i labels) → label.pc + by < 65536
    → AllByRecursion (IsNear by) (take (i + 1) labels)
one_near labels by i label within is near here =
    let more : take (i + 1) labels ≡ take i labels ++ label ∷ [] =
    take_more labels i label within ∙ ap (λ (l : Label). take i labels ++ l ∷ []) (sym is) in
    rw more (AllByRecursion-append (IsNear by) (take i labels) (label ∷ []) near (here, tt))
