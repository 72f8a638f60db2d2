-- The warnings about statements in a row, as a list.
use Rattle.std.specs.Prelude.{ℕ, if◌then◌else◌, List, [], ◌∷◌, ◌++◌, Option, Some, None}
use Rattle.std.specs.List.{flat_map}
use Rattle.script_front.specs.declared.tree.Act.{Act}
use Rattle.script_front.specs.declared.tree.Act.TheVariants.{Until}
use Rattle.script_front.specs.declared.tree.Statement.{Statement}
use Rattle.script_front.specs.declared.moment.MomentForm.{MomentForm as Moment}
use Rattle.script_front.specs.Block.{Block, nothing, basic, stop, when, either, repeat, forever, apply, block_of}
use Rattle.script_front.specs.Tree.{Tree}
use Rattle.plan_explain.specs.declared.straight.ContactWait.{ContactWait}
use Rattle.plan_explain.specs.declared.straight.Way.{Way}
use Rattle.plan_explain.specs.declared.warning.Warning.{Warning}
use Rattle.plan_explain.specs.declared.warning.Warning.TheVariants.{Late, NextDay}
use Rattle.plan_explain.specs.LateUntils.{contact_wait}
use Rattle.plan_explain.specs.DayWaits.{time_of, new_way, further, comes_late}

-- what is before a statement in its list: a wait for a contact, directly; and the way from the last wait for a time of
-- day, if acts alone lead from there
pub record Before : Type 0 where
  pub wait : Option ContactWait
  pub way : Option Way

abbrev pub nowhere : Before
nowhere = record { wait = None; way = None }

abbrev pub way_from : Option ℕ → Option Way → Act → Option Way
way_from (Some from) way act = Some (new_way from)
way_from None None act = None
way_from None (Some w) act = Some (further w act)

abbrev pub way_behind : Option Way → Act → Option Way
way_behind way act = way_from (time_of act) way act

abbrev pub behind : Before → Act → Before
behind before act = record { wait = contact_wait act; way = way_behind before.way act }

-- an `until` in a line
abbrev pub late_of : Option ContactWait → ℕ → Moment → List Warning
late_of None line m = []
late_of (Some w) line m = Late (record { line = line; contact = w.contact; closed = w.closed; until = m }) ∷ []

abbrev pub day_of : Option Way → ℕ → Moment → List Warning
day_of None line m = []
day_of (Some w) line m = if comes_late w m then NextDay (record { line = line; until = m; way = w }) ∷ [] else []

abbrev pub at_until : Before → ℕ → Moment → List Warning
at_until before line m = late_of before.wait line m ++ day_of before.way line m

abbrev pub at_act : Before → ℕ → Act → List Warning
at_act before line (Until m) = at_until before line m
at_act before line _ = []

-- statements, given what is before the first of them
abbrev pub straight_from : Before → Block → List Warning
straight_from before nothing = []
straight_from before (basic line act rest) = at_act before line act ++ straight_from (behind before act) rest
straight_from before (stop line rest) = straight_from nowhere rest
straight_from before (when line condition first rest) = straight_from nowhere first ++ straight_from nowhere rest
straight_from before (either line condition first second rest) =
    (straight_from nowhere first ++ straight_from nowhere second) ++ straight_from nowhere rest
straight_from before (repeat line times body rest) = straight_from nowhere body ++ straight_from nowhere rest
straight_from before (forever line body rest) = straight_from nowhere body ++ straight_from nowhere rest
straight_from before (apply line number named rest) = straight_from nowhere rest

abbrev pub straight_in : List Statement → List Warning
straight_in statements = straight_from nowhere (block_of [] statements)

abbrev pub straight_warnings : Tree → List Warning
straight_warnings script = flat_map straight_in script.blocks ++ straight_in script.statements
