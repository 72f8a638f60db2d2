-- The `until`s that are found to wait for the next day are those that a way leads to that takes longer.
use Rattle.std.proofs.Common.{◌≡◌, ◌⊎◌, ℕ, Bool, true, false, if◌then◌else◌, inl, inr, List, [], ◌∷◌, Contains, Option}
use Rattle.std.proofs.Common.{Some, None, refl, sym, ap, subst}
use Rattle.std.specs.List.{AllByRecursion}
use Rattle.std.proofs.lemmas.List.Elements.{Contains-append_left, Contains-append_right}
use Rattle.mux_types.proofs.Elements.{contains_first, contains_none}
use Rattle.script_front.specs.declared.tree.Act.{Act}
use Rattle.script_front.specs.declared.tree.Act.TheVariants.{Until}
use Rattle.script_front.specs.declared.moment.MomentForm.{MomentForm as Moment}
use Rattle.script_front.specs.Block.{Block, basic}
use Rattle.script_front.specs.Tree.{Tree}
use Rattle.plan_explain.specs.declared.straight.ContactWait.{ContactWait}
use Rattle.plan_explain.specs.declared.straight.Way.{Way}
use Rattle.plan_explain.specs.declared.day_wait.DayWait.{DayWait}
use Rattle.plan_explain.specs.declared.warning.Warning.TheVariants.{NextDay}
use Rattle.plan_explain.specs.LateUntils.{contact_wait}
use Rattle.plan_explain.specs.DayWaits.{time_of, new_way, further, straight, along, comes_late, IsAhead, WaitsADay}
use Rattle.plan_explain.specs.DayWaits.{HasDayWaitIn}
use Rattle.plan_explain.specs.Straight.{Before, way_from, behind, late_of, day_of, at_until, at_act, straight_from}
use Rattle.plan_explain.specs.Straight.{straight_warnings}
use Rattle.plan_explain.proofs.Lists.{from_one}
use Rattle.plan_explain.proofs.StraightLaws.{IsWalk, has_act, act_listed, at_until_only, late_kind}

-- ---- those found do

-- ahead on this way, if there is one
abbrev IsFrom : Option Way → Block → DayWait → Type 0
IsFrom None b d = ⊥
IsFrom (Some w) b d = IsAhead w b d

day_by : (w : Way) (line : ℕ) (m : Moment) (rest : Block) (d : DayWait) (b : Bool) → comes_late w m ≡ b
    → Contains (if b then NextDay (record { line = line; until = m; way = w }) ∷ [] else []) (NextDay d)
    → IsAhead w (basic line (Until m) rest) d
day_by w line m rest d true e h =
    let found : DayWait = record { line = line; until = m; way = w } in
    let warnings : NextDay found ≡ NextDay d = from_one (NextDay found) (NextDay d) h in
    let same : found ≡ d = cc in
    subst (λ (x : DayWait). IsAhead w (basic line (Until m) rest) x) same
    (record { between = []; behind = rest; follows = refl; untimed = tt; takes = refl; late = e })
day_by w line m rest d false e h = absurd (contains_none (NextDay d) h)

day_at : (way : Option Way) (line : ℕ) (m : Moment) (rest : Block) (d : DayWait)
    → Contains (day_of way line m) (NextDay d) → IsFrom way (basic line (Until m) rest) d
day_at None line m rest d h = absurd (contains_none (NextDay d) h)
day_at (Some w) line m rest d h = day_by w line m rest d (comes_late w m) refl h

here_of : (before : Before) (line : ℕ) (act : Act) (rest : Block) (d : DayWait)
    → Contains (at_act before line act) (NextDay d) → IsFrom before.way (basic line act rest) d
here_of before line act rest d h =
    let at = at_until_only before line act (NextDay d) h in
    let is : IsFrom before.way (basic line (Until at.until) rest) d = elim at.has [
      | inl late ↦ absurd (late_kind before.wait line at.until (NextDay d) late)
      | inr day ↦ day_at before.way line at.until rest d day
    ] in
    subst (λ (a : Act). IsFrom before.way (basic line a rest) d) (sym at.is) is

-- the same from one statement before
earlier : (line : ℕ) (act : Act) (rest : Block) (d : DayWait) (way : Option Way) (time : Option ℕ) → time_of act ≡ time
    → IsFrom (way_from time way act) rest d
    → IsFrom way (basic line act rest) d ⊎ WaitsADay act rest d
earlier line act rest d way (Some from) e ahead = inr (record { from = from; begins = e; ahead = ahead })
earlier line act rest d None None e h = absurd h
earlier line act rest d (Some w) None e ahead =
    inl (record {
      between = (line, act) ∷ ahead.between;
      behind = ahead.behind;
      follows = ap (λ (b : Block). basic line act b) ahead.follows;
      untimed = (e, ahead.untimed);
      takes = ahead.takes;
      late = ahead.late;
    })

pub has_day : (script : Tree) (d : DayWait) → Contains (straight_warnings script) (NextDay d) → HasDayWaitIn script d
has_day script d h =
    let walk : IsWalk (NextDay d) (λ act rest. WaitsADay act rest d) (λ before b. IsFrom before.way b d) = record {
      here = λ before line act rest at. inl (here_of before line act rest d at);
      earlier = λ before line act rest ahead. earlier line act rest d before.way (time_of act) refl ahead;
      none = λ b no. no;
    } in
    has_act (NextDay d) (λ act rest. WaitsADay act rest d) (λ before b. IsFrom before.way b d) walk script h

-- ---- and back

late_listed : (w : Way) (line : ℕ) (m : Moment) (b : Bool) → comes_late w m ≡ b → b ≡ true
    → Contains (if b then NextDay (record { line = line; until = m; way = w }) ∷ [] else [])
    (NextDay (record { line = line; until = m; way = w }))
late_listed w line m true e t = contains_first (NextDay (record { line = line; until = m; way = w })) []
late_listed w line m false e t = absurd cc

day_here : (wait : Option ContactWait) (behind : Block) (d : DayWait) → comes_late d.way d.until ≡ true
    → Contains (straight_from (record { wait = wait; way = Some d.way }) (basic d.line (Until d.until) behind))
    (NextDay d)
day_here wait rest d late =
    let here : Contains (day_of (Some d.way) d.line d.until) (NextDay d) =
    late_listed d.way d.line d.until (comes_late d.way d.until) refl late in
    let both : Contains (at_until (record { wait = wait; way = Some d.way }) d.line d.until) (NextDay d) =
    Contains-append_right (late_of wait d.line d.until) (day_of (Some d.way) d.line d.until) (NextDay d) here in
    Contains-append_left (at_until (record { wait = wait; way = Some d.way }) d.line d.until)
    (straight_from (behind (record { wait = wait; way = Some d.way }) (Until d.until)) rest) (NextDay d) both

ahead_by : (between : List (ℕ × Act)) (wait : Option ContactWait) (w : Way) (rest : Block) (d : DayWait)
    → AllByRecursion (λ a. time_of a.1 ≡ None) between → along w between ≡ d.way → comes_late d.way d.until ≡ true
    → Contains (straight_from (record { wait = wait; way = Some w })
    (straight between (basic d.line (Until d.until) rest))) (NextDay d)
ahead_by [] wait w rest d untimed takes late =
    subst (λ (x : Way). Contains
    (straight_from (record { wait = wait; way = Some x }) (basic d.line (Until d.until) rest)) (NextDay d))
    (sym takes) (day_here wait rest d late)
ahead_by (a ∷ more) wait w rest d untimed takes late =
    let on : Block = straight more (basic d.line (Until d.until) rest) in
    let later : Contains (straight_from (record { wait = contact_wait a.1; way = Some (further w a.1) }) on)
    (NextDay d) = ahead_by more (contact_wait a.1) (further w a.1) rest d untimed.1 takes late in
    let there : Contains (straight_from (behind (record { wait = wait; way = Some w }) a.1) on) (NextDay d) =
    subst (λ (o : Option ℕ). Contains (straight_from (record { wait = contact_wait a.1; way = way_from o (Some w) a.1 })
    on) (NextDay d)) (sym untimed.0) later in
    Contains-append_right (at_act (record { wait = wait; way = Some w }) a.0 a.1)
    (straight_from (behind (record { wait = wait; way = Some w }) a.1) on) (NextDay d) there

ahead_listed : (wait : Option ContactWait) (w : Way) (b : Block) (d : DayWait) → IsAhead w b d
    → Contains (straight_from (record { wait = wait; way = Some w }) b) (NextDay d)
ahead_listed wait w b d h =
    subst (λ (x : Block). Contains (straight_from (record { wait = wait; way = Some w }) x) (NextDay d)) (sym h.follows)
    (ahead_by h.between wait w h.behind d h.untimed h.takes h.late)

behind_time : (before : Before) (act : Act) (rest : Block) (d : DayWait) → WaitsADay act rest d
    → Contains (straight_from (behind before act) rest) (NextDay d)
behind_time before act rest d h =
    subst (λ (o : Option ℕ). Contains (straight_from (record {
      wait = contact_wait act;
      way = way_from o before.way act;
    }) rest) (NextDay d)) (sym h.begins)
    (ahead_listed (contact_wait act) (new_way h.from) rest d h.ahead)

pub day_listed : (script : Tree) (d : DayWait) → HasDayWaitIn script d → Contains (straight_warnings script) (NextDay d)
day_listed script d h = act_listed (NextDay d) (λ act rest. WaitsADay act rest d)
    (λ before act rest is. behind_time before act rest d is) script h
