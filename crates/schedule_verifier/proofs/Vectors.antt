-- Certificates: for each definition, an example that holds and one that fails.
use Rattle.schedule_verifier.proofs.Words.{[], ◌∷◌, ◌<◌, ◌≡◌, ◌⊎◌, Ask, Contacts, Covers, Day, End, Overlay, inl}
use Rattle.schedule_verifier.proofs.Words.{slice_get, sym}
use Rattle.schedule_verifier.proofs.Words.{IsAway, IsBefore, Join, Jump, Leads, No, Program, Region, Some, Tree, Yes}
use Rattle.schedule_verifier.proofs.Words.{arith, both, earlier, either, false, first_part}
use Rattle.schedule_verifier.proofs.Words.{is_rest, moment, refl, second_part, suc, true, zero, ℕ}
use Rattle.mux_types.specs.Configuration.{nothing}
use Rattle.plan_code.specs.Flags.{any_closed, any_open}
use Rattle.plan_verifier.proofs.Samples.{plan}
use Rattle.schedule_front.specs.declared.tree.Test.TheVariants.{Contact as OfLevel}
use Rattle.schedule_verifier.specs.Combinations.{AreCombinations, CanHold, held_of}

abbrev set : ℕ → Contacts
set bits = record { 0 = bits }

-- ---- waits

join_is_rest : is_rest (Some Join) ≡ true
join_is_rest = refl

end_is_no_rest : is_rest (Some End) ≡ false
end_is_no_rest = refl

-- a wait for contact 0 to close and contact 1 to open
contacts_are_away : IsAway (set 1) (set 2) (set 2)
unfolding any_closed any_open
contacts_are_away = record { closed_none = refl; opened_none = refl }

contacts_are_here : IsAway (set 1) (set 2) (set 3) → ⊥
unfolding any_closed any_open
contacts_are_here h = let e = h.closed_none in absurd cc

frame_is_before : IsBefore 3599999 (Some 42) 41
frame_is_before = refl

frame_is_not_before : IsBefore 3599999 (Some 42) 42 → ⊥
frame_is_not_before e = absurd cc

-- ---- regions

-- contact 3 is closed, in the first hundred frames of the day
abbrev third : Region
third = record { closed = set 8; opened = set 0; from = 0; to = 100 }

moved_over_midnight : earlier 42 240 ≡ 3599802
moved_over_midnight = refl

halves : (first_part (Day 50) third).to ≡ (second_part (Day 50) third).from
halves = refl

fails_at_once : both (Ask (Day 50)) No ≡ No
fails_at_once = refl

holds_at_once : either (Ask (Day 50)) Yes ≡ Yes
holds_at_once = refl

after_the_region : Covers third (set 8) 100 → ⊥
after_the_region h = absurd (omega (arith, h.to))

open_contact : Covers third (set 0) 50 → ⊥
open_contact h = let e = h.closed 3 (omega arith) refl in absurd cc

-- ---- codes

abbrev no_overlays : Tree
no_overlays = record { header = plan; items = []; line = 6; names = []; overlays = []; last_line = 6 }

abbrev ends : Program
ends = record {
  plan = plan;
  configurations = nothing ∷ [];
  labels = [];
  lines = record { number = 6; instr = End } ∷ [];
}

abbrev turns : Program
turns = record {
  plan = plan;
  configurations = nothing ∷ [];
  labels = [];
  lines = record { number = 6; instr = Jump 0 } ∷ [];
}

end_stays : (contacts : Contacts) (day : ℕ) → Leads (moment no_overlays ends nothing contacts day) (suc zero) 0 nothing
end_stays contacts day = record { same = refl; always = λ others later low. refl }

-- a code that jumps for ever leads nowhere
turning_leads_nowhere : (contacts : Contacts) (day n : ℕ)
    → Leads (moment no_overlays turns nothing contacts day) n 0 nothing → ⊥
turning_leads_nowhere contacts day zero h = h
turning_leads_nowhere contacts day (suc n) h = turning_leads_nowhere contacts day n h

-- ---- combinations

abbrev while_closed : ℕ → Overlay
while_closed contact = record { line = 7; condition = (OfLevel contact true ∷ []) ∷ []; edits = [] }

both_hold : held_of (set 40) 0 (while_closed 3 ∷ while_closed 5 ∷ []) ≡ 3
both_hold = refl

second_holds : held_of (set 32) 0 (while_closed 3 ∷ while_closed 5 ∷ []) ≡ 2
second_holds = refl

items_can_hold : CanHold no_overlays 0
items_can_hold = record { contacts = set 0; day = 0; in_range = omega arith; holds = refl }

no_overlay_can_hold : CanHold no_overlays 1 → ⊥
no_overlay_can_hold h = let e = h.holds in absurd cc

only_items : AreCombinations no_overlays (0 ∷ [])
only_items = record {
  items = refl;
  ascending = only_one;
  each = only_none;
  all = λ contacts day low. (0, refl);
}
  where
    only_one : (i j a b : ℕ) → i < j → slice_get (0 ∷ []) i ≡ Some a → slice_get (0 ∷ []) j ≡ Some b → a < b
    only_one i zero a b lt here there = absurd (omega (arith, lt))
    only_one i (suc j) a b lt here there = absurd cc

    only_none : (i other : ℕ) → slice_get (0 ∷ []) i ≡ Some other → (other ≡ 0) ⊎ CanHold no_overlays other
    only_none zero other e = let is : 0 ≡ other = cc in inl (sym is)
    only_none (suc i) other e = absurd cc

not_without_items : AreCombinations no_overlays (1 ∷ []) → ⊥
not_without_items h = let e = h.items in absurd cc
