-- Refusals: for each definition, an example that holds and one that fails.
use Rattle.std.proofs.Common.{[], ◌∷◌, ◌<◌, ◌≡◌, None, Some, arith, inr, refl, true, ℕ}
use Rattle.mux_config.specs.declared.edit.Edit.TheVariants.{DropSub}
use Rattle.mux_config.specs.declared.fault.EditFault.TheVariants.{IdAbsent}
use Rattle.plan_code.specs.declared.flags.Contacts.{Contacts}
use Rattle.plan_verifier.proofs.Samples.{plan}
use Rattle.plan_verifier.specs.declared.cause.Cause.TheVariants.{Edit}
use Rattle.schedule_front.specs.declared.tree.Test.TheVariants.{Contact}
use Rattle.schedule_front.specs.Tree.{Overlay, Tree}
use Rattle.schedule_verifier.specs.Combinations.{CanHold}
use Rattle.schedule_compiler.specs.Refusals.{Blame, IsFirstToBlame, at_line, blame_of, has_first, last_line}

-- an overlay that drops a sub-channel which is not there, while contact 3 is closed
abbrev dropping : Overlay
dropping = record {
  line = 7;
  condition = (Contact 3 true ∷ []) ∷ [];
  edits = record { line = 8; edit = DropSub 1 } ∷ [];
}

abbrev one_overlay : Tree
one_overlay = record { header = plan; items = []; line = 6; names = []; overlays = dropping ∷ []; last_line = 9 }

-- it holds in sets with the lowest bit
first_is_in : has_first 5 ≡ true
first_is_in = refl

names_its_line : last_line 6 1 (dropping ∷ []) ≡ 7
names_its_line = refl

names_the_schedule : last_line 6 0 (dropping ∷ []) ≡ 6
names_the_schedule = refl

abbrev dropped : Blame
dropped = at_line 8 (Edit IdAbsent)

overlay_is_blamed : blame_of one_overlay 1 ≡ Some dropped
overlay_is_blamed = refl

items_are_not_blamed : blame_of one_overlay 0 ≡ None
items_are_not_blamed = refl

abbrev closed : Contacts
closed = record { 0 = 8 }

can_hold : CanHold one_overlay 1
can_hold = record { contacts = closed; day = 0; in_range = omega arith; holds = refl }

first_to_blame : IsFirstToBlame one_overlay dropped 1
first_to_blame = record {
  holds = inr can_hold;
  is = overlay_is_blamed;
  items = λ differ. refl;
  first = below;
}
  where
    below : (other : ℕ) → CanHold one_overlay other → other < 1 → blame_of one_overlay other ≡ None
    below other can lt = let none : other ≡ 0 = omega (arith, lt) in rw none refl

not_the_items : IsFirstToBlame one_overlay dropped 0 → ⊥
not_the_items h = let e = h.is in absurd cc
