-- Short configurations, codes and blocks, with what is to be said of them and what is not.
use Rattle.std.proofs.Common.{◌≡◌, true, inl, inr, [], ◌∷◌, Some, None, refl, sym, ap, ◌∙◌, arith}
use Rattle.mux_types.proofs.Elements.{contains_cases, contains_first, contains_later, contains_none}
use Rattle.mux_eep.specs.declared.sizes.EepSet.TheVariants.{A}
use Rattle.mux_types.specs.declared.parts.Sub.{Sub}
use Rattle.mux_types.specs.declared.parts.Service.{Service}
use Rattle.mux_types.specs.declared.parts.Component.TheVariants.{Sound, Stream}
use Rattle.mux_types.specs.declared.numbers.Sid.TheVariants.{Short, Long}
use Rattle.mux_types.specs.Configuration.{Configuration}
use Rattle.plan_code.specs.declared.instr.Instr.TheVariants.{Wait, Until, Edit}
use Rattle.mux_config.specs.declared.edit.Edit.TheVariants.{DropSub}
use Rattle.script_front.specs.declared.tree.Act.TheVariants.{Wait as Waits, WaitContact as WaitsContact}
use Rattle.script_front.specs.declared.tree.Act.TheVariants.{Until as WaitsUntil, Join as Joins}
use Rattle.script_front.specs.declared.tree.Statement.TheOpen.{Statement-F}
use Rattle.script_front.specs.declared.tree.Statement.TheVariants.{Act as Acts, rolls-Act}
use Rattle.script_front.specs.declared.tree.Statement.TheFolds.{fold-roll-Statement}
use Rattle.script_front.specs.declared.moment.MomentForm.{MomentForm as Moment}
use Rattle.script_front.specs.declared.moment.MomentForm.TheVariants.{At}
use Rattle.script_front.specs.Block.{Block, nothing, basic, Before, statement_step, before}
use Rattle.plan_explain.specs.declared.flaw.Flaw.TheVariants.{Unnamed, LongAudio}
use Rattle.plan_explain.specs.declared.primary.Primary.{Primary}
use Rattle.plan_explain.specs.declared.beginning.FirstWait.{FirstWait}
use Rattle.plan_explain.specs.Flaws.{HasFlaw}
use Rattle.plan_explain.specs.Primaries.{IsOtherPrimary}
use Rattle.plan_explain.specs.Beginnings.{WaitsFirst}
use Rattle.plan_explain.specs.Blocks.{line_of, own_line, IsUnreached}
use Rattle.plan_explain.specs.declared.late_until.LateUntil.{LateUntil}
use Rattle.plan_explain.specs.LateUntils.{HasLate}
use Rattle.plan_explain.specs.declared.warning.Warning.TheVariants.{Unreached}
use Rattle.plan_explain.specs.Repeats.{AreApart, AreEachOnce}
use Rattle.plan_explain.proofs.FlawLaws.{has_flaw, flaw_listed}
use Rattle.plan_explain.proofs.PrimaryLaws.{is_other, other_listed}
use Rattle.plan_explain.proofs.BeginningLaws.{waits_first, is_found}

-- ---- flaws

abbrev three : Sub
three = record { id = 3; start = 0; protection = record { set = A; level = 3 }; kbits = 8 }

abbrev alone : Configuration
alone = record { subs = three ∷ []; services = []; packets = [] }

abbrev with_service : Service → Configuration
with_service s = record { subs = three ∷ []; services = s ∷ []; packets = [] }

abbrev data_service : Service
data_service = record { sid = Long 5; components = Stream 5 3 ∷ [] }

abbrev long_service : Service
long_service = record { sid = Long 5; components = Sound 63 3 ∷ [] }

abbrev short_service : Service
short_service = record { sid = Short 5; components = Sound 63 3 ∷ [] }

is_not_named : HasFlaw alone (Unnamed 3)
is_not_named = has_flaw alone (Unnamed 3) (contains_first (Unnamed 3) [])

component_names_it : HasFlaw (with_service data_service) (Unnamed 3) → ⊥
component_names_it h = contains_none (Unnamed 3) (flaw_listed (with_service data_service) (Unnamed 3) h)

is_long_audio : HasFlaw (with_service long_service) (LongAudio (Long 5) 3)
is_long_audio = has_flaw (with_service long_service) (LongAudio (Long 5) 3) (contains_first (LongAudio (Long 5) 3) [])

is_short : HasFlaw (with_service short_service) (LongAudio (Short 5) 3) → ⊥
is_short h = contains_none (LongAudio (Short 5) 3) (flaw_listed (with_service short_service) (LongAudio (Short 5) 3) h)

-- ---- primary components

abbrev of_two : Configuration
of_two = record {
  subs = [];
  services = record { sid = Short 5; components = Sound 63 1 ∷ Stream 5 2 ∷ [] } ∷ [];
  packets = [];
}

abbrev turned : Configuration
turned = record {
  subs = [];
  services = record { sid = Short 5; components = Stream 5 2 ∷ Sound 63 1 ∷ [] } ∷ [];
  packets = [];
}

first_changes : IsOtherPrimary of_two turned (record { sid = Short 5; before = Sound 63 1; after = Stream 5 2 })
first_changes = is_other of_two turned _
    (contains_first (record { sid = Short 5; before = Sound 63 1; after = Stream 5 2 }) [])

first_stays : (p : Primary) → IsOtherPrimary of_two of_two p → ⊥
first_stays p h = contains_none p (other_listed of_two of_two p h)

-- ---- first waits

until_first : WaitsFirst (record { number = 8; instr = Edit (DropSub 3) } ∷ record { number = 9; instr = Until 5 } ∷ [])
    (record { line = 9; frame = 5 })
until_first = waits_first _ _ refl

wait_before : (w : FirstWait) → WaitsFirst (record { number = 8; instr = Wait 1 }
    ∷ record { number = 9; instr = Until 5 } ∷ []) w → ⊥
wait_before w h = let none : None ≡ Some w = is_found _ w h in absurd cc

-- ---- blocks

own_act : own_line (Acts 9 Joins) ≡ Some 9
own_act = ap line_of (ap (λ (f : Before). f nothing) (ap (before []) (sym (rolls-Act 9 Joins))
    ∙ fold-roll-Statement Before (statement_step []) (Statement-F.Act 9 Joins)))

nothing_of_it : IsUnreached [] ((Acts 9 Joins ∷ []) ∷ []) 9
nothing_of_it =
    record {
      block = Acts 9 Joins ∷ [];
      defined = contains_first _ [];
      front = [];
      statement = Acts 9 Joins;
      rest = [];
      is = refl;
      before = tt;
      first = own_act;
      absent = λ l there. absurd (contains_none l there);
    }

has_its_line : IsUnreached (record { number = 9; instr = Until 5 } ∷ []) ((Acts 9 Joins ∷ []) ∷ []) 9 → ⊥
has_its_line h = h.absent (record { number = 9; instr = Until 5 }) (contains_first _ []) refl

-- ---- `until` behind `wait contact`

abbrev ten : Moment
ten = At 79200

abbrev at_ten : LateUntil
at_ten = record { line = 9; contact = 3; closed = true; until = ten }

is_late : HasLate (basic 8 (WaitsContact 3 true) (basic 9 (WaitsUntil ten) nothing)) at_ten
is_late = inl (record { waits = refl; behind = nothing; follows = refl })

-- a statement between them
abbrev apart : Block
apart = basic 8 (WaitsContact 3 true) (basic 9 (Waits 1) (basic 10 (WaitsUntil ten) nothing))

is_not_late : (u : LateUntil) → HasLate apart u → ⊥
is_not_late u (inl h) = let no = h.follows in cc
is_not_late u (inr (inl h)) = let no = h.waits in cc
is_not_late u (inr (inr (inl h))) = let no = h.waits in cc
is_not_late u (inr (inr (inr h))) = h

-- ---- warnings, each once

two_lines : AreApart (Unreached 9 ∷ Unreached 10 ∷ [])
two_lines = (
  λ h. elim (contains_cases (Unreached 10) [] (Unreached 9) h)
      [ inl same ↦ cc | inr none ↦ contains_none (Unreached 9) none ],
  (contains_none (Unreached 10), tt),
)

one_line : AreApart (Unreached 9 ∷ Unreached 9 ∷ []) → ⊥
one_line h = h.0 (contains_first (Unreached 9) [])

kept_once : AreEachOnce (Unreached 9 ∷ Unreached 9 ∷ []) (Unreached 9 ∷ [])
kept_once =
    record {
      same = λ w. (
        λ h. contains_later (Unreached 9) (Unreached 9 ∷ []) w h,
        λ h. elim (contains_cases (Unreached 9) (Unreached 9 ∷ []) w h)
            [ inl same ↦ (0, omega arith, same) | inr later ↦ later ],
      );
      apart = (contains_none (Unreached 9), tt);
    }

nothing_is_lost : AreEachOnce (Unreached 9 ∷ []) [] → ⊥
nothing_is_lost h = contains_none (Unreached 9) ((h.same (Unreached 9)).1 (contains_first (Unreached 9) []))
