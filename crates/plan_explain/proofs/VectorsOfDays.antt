-- Statements in a row that wait for the next day, and such that do not.
use Rattle.std.proofs.Common.{◌≡◌, ℕ, true, false, inl, [], ◌∷◌, Some, refl}
use Rattle.mux_config.specs.declared.edit.Edit.TheVariants.{DropSub}
use Rattle.script_front.specs.declared.tree.Act.TheVariants.{Edit as Edits, WaitAny, Until, CommitIn, Join}
use Rattle.script_front.specs.declared.moment.MomentForm.{MomentForm as Moment}
use Rattle.script_front.specs.declared.moment.MomentForm.TheVariants.{At}
use Rattle.script_front.specs.declared.alternatives.Alternative.TheVariants.{Contact, Until as OfMoment}
use Rattle.script_front.specs.Block.{Block, nothing, basic}
use Rattle.plan_explain.specs.declared.straight.Way.{Way}
use Rattle.plan_explain.specs.declared.day_wait.DayWait.{DayWait}
use Rattle.plan_explain.specs.declared.warning.Warning.TheVariants.{NextDay}
use Rattle.plan_explain.specs.DayWaits.{time_of, along, new_way, comes_late, HasDayWait}
use Rattle.plan_explain.specs.Straight.{nowhere, straight_from}

-- 22:00:00, and three seconds and six seconds later
abbrev at : ℕ → Moment
at second = At second

abbrev on_air : Way
on_air = record { from = 3300000; frames = 250; swap = Some 250 }

-- a commit in 250 frames, and its join
way_of_swap : along (new_way 3300000) ((2, Edits (DropSub 3)) ∷ (3, CommitIn 250) ∷ (4, Join) ∷ []) ≡ on_air
way_of_swap = refl

three_seconds : comes_late on_air (at 79203) ≡ true
three_seconds = refl

seven_seconds : comes_late on_air (at 79207) ≡ false
seven_seconds = refl

times : time_of (WaitAny (Contact 1 true ∷ OfMoment (at 79200) ∷ [])) ≡ Some 3300000
times = refl

abbrev late : DayWait
late = record { line = 5; until = at 79203; way = on_air }

abbrev swap_at_ten : Block → Block
swap_at_ten rest = basic 1 (Until (at 79200)) (basic 2 (Edits (DropSub 3)) (basic 3 (CommitIn 250) (basic 4 Join rest)))

waits_a_day : HasDayWait (swap_at_ten (basic 5 (Until (at 79203)) nothing)) late
waits_a_day =
    inl (record {
      from = 3300000;
      begins = refl;
      ahead = record {
        between = (2, Edits (DropSub 3)) ∷ (3, CommitIn 250) ∷ (4, Join) ∷ [];
        behind = nothing;
        follows = refl;
        untimed = (refl, (refl, (refl, tt)));
        takes = refl;
        late = refl;
      };
    })

is_listed : straight_from nowhere (swap_at_ten (basic 5 (Until (at 79203)) nothing)) ≡ NextDay late ∷ []
is_listed = refl

in_time : straight_from nowhere (swap_at_ten (basic 5 (Until (at 79207)) nothing)) ≡ []
in_time = refl
