-- What leads to a commit: the last statement before it that suspends or tests a contact, on every path there from
-- before.
use Rattle.std.specs.Prelude.{ℕ, ◌==◌, ◌&&◌, not, Bool, true, false, if◌then◌else◌, List, [], ◌∷◌, Option, Some, None}
use Rattle.plan_code.specs.declared.instr.Instr.{Instr}
use Rattle.plan_code.specs.declared.instr.Instr.TheVariants.{Wait, Until, WaitContact, WaitAny, Join, Settle, End, Test}
use Rattle.plan_code.specs.declared.instr.Instr.TheVariants.{TestTime, Jump}
use Rattle.plan_map.specs.declared.lead.AnyOf.{AnyOf}
use Rattle.plan_map.specs.declared.lead.Lead.{Lead}
use Rattle.plan_map.specs.declared.lead.Lead.TheVariants.{Begin, Wait as Waited, Until as IsTime, Contact, Any, Window}
use Rattle.plan_map.specs.declared.lead.Lead.TheVariants.{Join as Joined, Settle as Settled}
use Rattle.plan_map.specs.declared.lead.Ways.{Ways}
use Rattle.plan_map.specs.declared.lead.Ways.TheVariants.{Nothing, One, Others}
use Rattle.plan_map.specs.declared.lead.Reached.{Reached}

abbrev pub is_same_level : Bool → Bool → Bool
is_same_level true b = b
is_same_level false b = not b

abbrev pub is_same_number : Option ℕ → Option ℕ → Bool
is_same_number None None = true
is_same_number (Some m) (Some n) = m == n
is_same_number _ _ = false

abbrev pub is_same_any : AnyOf → AnyOf → Bool
is_same_any a b =
    (a.closed.0 == b.closed.0) && (a.opened.0 == b.opened.0) && is_same_number a.until b.until
    && is_same_number a.frames b.frames

abbrev pub is_same_lead : Lead → Lead → Bool
is_same_lead Begin Begin = true
is_same_lead (Waited m) (Waited n) = m == n
is_same_lead (IsTime s) (IsTime t) = s == t
is_same_lead (Contact j a) (Contact k b) = j == k && is_same_level a b
is_same_lead (Any a) (Any b) = is_same_any a b
is_same_lead (Window s t a) (Window v w b) = (s == v) && (t == w) && is_same_level a b
is_same_lead Joined Joined = true
is_same_lead Settled Settled = true
is_same_lead a b = false

-- on the paths of both
abbrev pub both : Ways → Ways → Ways
both Nothing b = b
both (One a) Nothing = One a
both (One a) (One b) = if is_same_lead a b then One a else Others
both (One a) Others = Others
both Others b = Others

-- on from an instruction to the one behind it: itself, if it suspends or tests; a test is passed where its contact is
-- closed, or inside its window of the day. There is no path on behind an `end` or a jump
abbrev pub after : Instr → Ways → Ways
after (Wait n) ways = One (Waited n)
after (Until t) ways = One (IsTime t)
after (WaitContact k b) ways = One (Contact k b)
after (WaitAny closed opened until frames) ways =
    One (Any (record { closed = closed; opened = opened; until = until; frames = frames }))
after Join ways = One Joined
after Settle ways = One Settled
after (Test k t) ways = One (Contact k true)
after (TestTime from to t) ways = One (Window from to true)
after End ways = Nothing
after (Jump t) ways = Nothing
after _ ways = ways

-- to a pc, with the jump of one more instruction: a test jumps where its contact is open, or outside its window; what
-- leads to a jump leads to its target
abbrev pub way_to : ℕ → Instr → Ways → Ways → Ways
way_to pc (Test k t) its ways = if t == pc then both ways (One (Contact k false)) else ways
way_to pc (TestTime from to t) its ways = if t == pc then both ways (One (Window from to false)) else ways
way_to pc (Jump t) its ways = if t == pc then both ways its else ways
way_to pc _ its ways = ways

-- to a pc: on from the instruction before it, and with the jumps of those before it
abbrev pub ways_from : ℕ → Ways → List Reached → Ways
ways_from pc ways [] = ways
ways_from pc ways (r ∷ rs) = ways_from pc (way_to pc r.instr r.ways ways) rs

-- the same on every path
abbrev pub lead_of : Ways → Option Lead
lead_of (One lead) = Some lead
lead_of _ = None
