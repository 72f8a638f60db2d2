-- The `until`s that are found late are those directly behind `wait contact`.
use Rattle.std.proofs.Common.{◌≡◌, ℕ, inl, inr, [], Contains, Option, Some, None, refl, sym, ap, subst}
use Rattle.std.proofs.lemmas.List.Elements.{Contains-append_left}
use Rattle.mux_types.proofs.Elements.{contains_first, contains_none}
use Rattle.script_front.specs.declared.tree.Act.{Act}
use Rattle.script_front.specs.declared.tree.Act.TheVariants.{Edit as Edits, Wait, WaitContact, WaitAny, Until, CommitIn}
use Rattle.script_front.specs.declared.tree.Act.TheVariants.{CommitAt, Join, Settle}
use Rattle.script_front.specs.declared.moment.MomentForm.{MomentForm as Moment}
use Rattle.script_front.specs.Block.{Block, basic}
use Rattle.script_front.specs.Tree.{Tree}
use Rattle.plan_explain.specs.declared.late_until.LateUntil.{LateUntil}
use Rattle.plan_explain.specs.declared.straight.ContactWait.{ContactWait}
use Rattle.plan_explain.specs.declared.straight.Way.{Way}
use Rattle.plan_explain.specs.declared.warning.Warning.TheVariants.{Late}
use Rattle.plan_explain.specs.LateUntils.{IsLate, HasLateUntil, contact_wait}
use Rattle.plan_explain.specs.Straight.{Before, way_behind, behind, late_of, day_of, at_until, at_act, straight_from}
use Rattle.plan_explain.specs.Straight.{straight_warnings}
use Rattle.plan_explain.proofs.Lists.{from_one}
use Rattle.plan_explain.proofs.StraightLaws.{IsWalk, has_act, act_listed, at_until_only, day_kind}

-- ---- those found are

-- the first of these statements is the `until`, behind this wait
pub record IsFirst (wait : Option ContactWait) (b : Block) (u : LateUntil) : Type 0 where
  pub waits : wait ≡ Some (record { contact = u.contact; closed = u.closed })
  pub behind : Block
  pub follows : b ≡ basic u.line (Until u.until) behind

first_at : (wait : Option ContactWait) (line : ℕ) (m : Moment) (rest : Block) (u : LateUntil)
    → Contains (late_of wait line m) (Late u) → IsFirst wait (basic line (Until m) rest) u
first_at None line m rest u h = absurd (contains_none (Late u) h)
first_at (Some w) line m rest u h =
    let found : LateUntil = record { line = line; contact = w.contact; closed = w.closed; until = m } in
    let warnings : Late found ≡ Late u = from_one (Late found) (Late u) h in
    let same : found ≡ u = cc in
    subst (λ (x : LateUntil). IsFirst (Some w) (basic line (Until m) rest) x) same
    (record { waits = refl; behind = rest; follows = refl })

first_of : (before : Before) (line : ℕ) (act : Act) (rest : Block) (u : LateUntil)
    → Contains (at_act before line act) (Late u) → IsFirst before.wait (basic line act rest) u
first_of before line act rest u h =
    let at = at_until_only before line act (Late u) h in
    let is : IsFirst before.wait (basic line (Until at.until) rest) u = elim at.has [
      | inl late ↦ first_at before.wait line at.until rest u late
      | inr day ↦ absurd (day_kind before.way line at.until (Late u) day)
    ] in
    subst (λ (a : Act). IsFirst before.wait (basic line a rest) u) (sym at.is) is

-- the statement before the first one is the wait
late_of_first : (act : Act) (rest : Block) (u : LateUntil) → IsFirst (contact_wait act) rest u → IsLate act rest u
late_of_first (WaitContact k b) rest u h =
    let same : record { contact = k; closed = b } ≡ record { contact = u.contact; closed = u.closed } = cc (h.waits) in
    let contact : k ≡ u.contact = ap (λ (w : ContactWait). w.contact) same in
    let closed : b ≡ u.closed = ap (λ (w : ContactWait). w.closed) same in
    record { waits = rw (contact, closed) refl; behind = h.behind; follows = h.follows }
late_of_first (Edits e) rest u h = let no = h.waits in absurd cc
late_of_first (Wait n) rest u h = let no = h.waits in absurd cc
late_of_first (WaitAny alternatives) rest u h = let no = h.waits in absurd cc
late_of_first (Until t) rest u h = let no = h.waits in absurd cc
late_of_first (CommitIn d) rest u h = let no = h.waits in absurd cc
late_of_first (CommitAt n) rest u h = let no = h.waits in absurd cc
late_of_first Join rest u h = let no = h.waits in absurd cc
late_of_first Settle rest u h = let no = h.waits in absurd cc

no_first : (b : Block) (u : LateUntil) → IsFirst None b u → ⊥
no_first b u h = let no = h.waits in cc

pub has_late : (script : Tree) (u : LateUntil) → Contains (straight_warnings script) (Late u) → HasLateUntil script u
has_late script u h =
    let walk : IsWalk (Late u) (λ act rest. IsLate act rest u) (λ before b. IsFirst before.wait b u) = record {
      here = λ before line act rest at. inl (first_of before line act rest u at);
      earlier = λ before line act rest first. inr (late_of_first act rest u first);
      none = λ b first. no_first b u first;
    } in
    has_act (Late u) (λ act rest. IsLate act rest u) (λ before b. IsFirst before.wait b u) walk script h

-- ---- and back

first_listed : (w : ContactWait) (way : Option Way) (b : Block) (u : LateUntil) → IsFirst (Some w) b u
    → Contains (straight_from (record { wait = Some w; way = way }) b) (Late u)
first_listed w way b u h =
    let is : w ≡ record { contact = u.contact; closed = u.closed } = cc (h.waits) in
    let meant : ContactWait = record { contact = u.contact; closed = u.closed } in
    let here : Contains (late_of (Some meant) u.line u.until) (Late u) = contains_first (Late u) [] in
    let first : Contains (at_until (record { wait = Some meant; way = way }) u.line u.until) (Late u) =
    Contains-append_left (late_of (Some meant) u.line u.until) (day_of way u.line u.until) (Late u) here in
    let moved : Contains (at_until (record { wait = Some w; way = way }) u.line u.until) (Late u) =
    subst (λ (x : ContactWait). Contains (at_until (record { wait = Some x; way = way }) u.line u.until) (Late u))
    (sym is) first in
    let whole : Contains (straight_from (record { wait = Some w; way = way }) (basic u.line (Until u.until) h.behind))
    (Late u) =
    Contains-append_left (at_until (record { wait = Some w; way = way }) u.line u.until)
    (straight_from (behind (record { wait = Some w; way = way }) (Until u.until)) h.behind) (Late u) moved in
    subst (λ (x : Block). Contains (straight_from (record { wait = Some w; way = way }) x) (Late u)) (sym h.follows)
    whole

behind_wait : (act : Act) (way : Option Way) (rest : Block) (u : LateUntil) → IsLate act rest u
    → Contains (straight_from (record { wait = contact_wait act; way = way }) rest) (Late u)
behind_wait act way rest u h =
    let w : ContactWait = record { contact = u.contact; closed = u.closed } in
    let at = first_listed w way rest u (record { waits = refl; behind = h.behind; follows = h.follows }) in
    subst (λ (x : Act). Contains (straight_from (record { wait = contact_wait x; way = way }) rest) (Late u))
    (sym h.waits) at

pub late_listed : (script : Tree) (u : LateUntil) → HasLateUntil script u → Contains (straight_warnings script) (Late u)
late_listed script u h = act_listed (Late u) (λ act rest. IsLate act rest u)
    (λ before act rest is. behind_wait act (way_behind before.way act) rest u is) script h
