-- The warnings about statements in a row: one walk finds them, and each is of one of two kinds.
use Rattle.std.proofs.Common.{◌≡◌, ◌⊎◌, ℕ, Bool, true, false, if◌then◌else◌, inl, inr, [], ◌∷◌, ◌++◌, Contains, Option}
use Rattle.std.proofs.Common.{Some, None, refl, subst}
use Rattle.std.specs.List.{flat_map}
use Rattle.std.proofs.lemmas.List.Elements.{Contains-append_left, Contains-append_right, Contains-append_cases}
use Rattle.mux_types.proofs.Elements.{contains_none}
use Rattle.script_front.specs.declared.tree.Act.{Act}
use Rattle.script_front.specs.declared.tree.Act.TheVariants.{Edit as Edits, Wait, WaitContact, WaitAny, Until, CommitIn}
use Rattle.script_front.specs.declared.tree.Act.TheVariants.{CommitAt, Join, Settle}
use Rattle.script_front.specs.declared.moment.MomentForm.{MomentForm as Moment}
use Rattle.script_front.specs.Block.{Block, nothing, basic, stop, when, either, repeat, forever, apply, block_of}
use Rattle.script_front.specs.Tree.{Tree}
use Rattle.plan_explain.specs.declared.straight.ContactWait.{ContactWait}
use Rattle.plan_explain.specs.declared.straight.Way.{Way}
use Rattle.plan_explain.specs.declared.warning.Warning.{Warning}
use Rattle.plan_explain.specs.declared.warning.Warning.TheVariants.{Late, NextDay}
use Rattle.plan_explain.specs.ActsInside.{HasAct, HasActIn}
use Rattle.plan_explain.specs.DayWaits.{comes_late}
use Rattle.plan_explain.specs.Straight.{Before, nowhere, behind, late_of, day_of, at_act, straight_from, straight_in}
use Rattle.plan_explain.specs.Straight.{straight_warnings}
use Rattle.plan_explain.proofs.Lists.{from_flat, to_flat, from_one}

-- ---- one walk

-- a warning at an act is due to what is before these statements, or to an act among them; what is before the ones
-- behind an act is so too; and nowhere begins nothing
pub record IsWalk (w : Warning) (P : Act → Block → Type 0) (Q : Before → Block → Type 0) : Type 0 where
  pub here : (before : Before) (line : ℕ) (act : Act) (rest : Block) → Contains (at_act before line act) w
      → Q before (basic line act rest) ⊎ P act rest
  pub earlier : (before : Before) (line : ℕ) (act : Act) (rest : Block) → Q (behind before act) rest
      → Q before (basic line act rest) ⊎ P act rest
  pub none : (b : Block) → Q nowhere b → ⊥

module _ (w : Warning) (P : Act → Block → Type 0) (Q : Before → Block → Type 0) (walk : IsWalk w P Q) where
  inside : (b : Block) → Q nowhere b ⊎ HasAct P b → HasAct P b
  inside b (inl h) = absurd (walk.none b h)
  inside b (inr h) = h

  at_first : (before : Before) (line : ℕ) (act : Act) (rest : Block) → Q before (basic line act rest) ⊎ P act rest
      → Q before (basic line act rest) ⊎ HasAct P (basic line act rest)
  at_first before line act rest (inl h) = inl h
  at_first before line act rest (inr h) = inr (inl h)

  behind_first : (before : Before) (line : ℕ) (act : Act) (rest : Block) → Q (behind before act) rest ⊎ HasAct P rest
      → Q before (basic line act rest) ⊎ HasAct P (basic line act rest)
  behind_first before line act rest (inl h) = at_first before line act rest (walk.earlier before line act rest h)
  behind_first before line act rest (inr h) = inr (inr h)

  found_in : (before : Before) (b : Block) → Contains (straight_from before b) w → Q before b ⊎ HasAct P b
  found_in before nothing h = absurd (contains_none w h)
  found_in before (basic line act rest) h =
      elim (Contains-append_cases (at_act before line act) (straight_from (behind before act) rest) w h) [
        | inl here ↦ at_first before line act rest (walk.here before line act rest here)
        | inr later ↦ behind_first before line act rest (found_in (behind before act) rest later)
      ]
  found_in before (stop line rest) h = inr (inside rest (found_in nowhere rest h))
  found_in before (when line condition first rest) h =
      elim (Contains-append_cases (straight_from nowhere first) (straight_from nowhere rest) w h) [
        | inl here ↦ inr (inl (inside first (found_in nowhere first here)))
        | inr later ↦ inr (inr (inside rest (found_in nowhere rest later)))
      ]
  found_in before (either line condition first second rest) h =
      elim (Contains-append_cases (straight_from nowhere first ++ straight_from nowhere second)
      (straight_from nowhere rest) w h) [
        | inl both ↦ elim (Contains-append_cases (straight_from nowhere first) (straight_from nowhere second) w both) [
          | inl here ↦ inr (inl (inside first (found_in nowhere first here)))
          | inr other ↦ inr (inr (inl (inside second (found_in nowhere second other))))
        ]
        | inr later ↦ inr (inr (inr (inside rest (found_in nowhere rest later))))
      ]
  found_in before (repeat line times body rest) h =
      elim (Contains-append_cases (straight_from nowhere body) (straight_from nowhere rest) w h) [
        | inl here ↦ inr (inl (inside body (found_in nowhere body here)))
        | inr later ↦ inr (inr (inside rest (found_in nowhere rest later)))
      ]
  found_in before (forever line body rest) h =
      elim (Contains-append_cases (straight_from nowhere body) (straight_from nowhere rest) w h) [
        | inl here ↦ inr (inl (inside body (found_in nowhere body here)))
        | inr later ↦ inr (inr (inside rest (found_in nowhere rest later)))
      ]
  found_in before (apply line number named rest) h = inr (inside rest (found_in nowhere rest h))

  pub has_act : (script : Tree) → Contains (straight_warnings script) w → HasActIn P script
  has_act script h =
      elim (Contains-append_cases (flat_map straight_in script.blocks) (straight_in script.statements) w h) [
        | inl one ↦ (
            let from = from_flat straight_in script.blocks w one in
            inr (record {
              block = from.source;
              defined = from.there;
              has = inside (block_of [] from.source) (found_in nowhere (block_of [] from.source) from.has);
            }))
        | inr other ↦ inl (inside (block_of [] script.statements)
            (found_in nowhere (block_of [] script.statements) other))
      ]

-- ---- and back: a warning that is listed behind each such act is listed

module _ (w : Warning) (P : Act → Block → Type 0) (there : (before : Before) (act : Act) (rest : Block) → P act rest
    → Contains (straight_from (behind before act) rest) w) where
  listed_in : (before : Before) (b : Block) → HasAct P b → Contains (straight_from before b) w
  listed_in before nothing h = absurd h
  listed_in before (basic line act rest) (inl here) =
      Contains-append_right (at_act before line act) (straight_from (behind before act) rest) w
      (there before act rest here)
  listed_in before (basic line act rest) (inr later) =
      Contains-append_right (at_act before line act) (straight_from (behind before act) rest) w
      (listed_in (behind before act) rest later)
  listed_in before (stop line rest) h = listed_in nowhere rest h
  listed_in before (when line condition first rest) (inl here) =
      Contains-append_left (straight_from nowhere first) (straight_from nowhere rest) w (listed_in nowhere first here)
  listed_in before (when line condition first rest) (inr later) =
      Contains-append_right (straight_from nowhere first) (straight_from nowhere rest) w (listed_in nowhere rest later)
  listed_in before (either line condition first second rest) (inl here) =
      Contains-append_left (straight_from nowhere first ++ straight_from nowhere second) (straight_from nowhere rest) w
      (Contains-append_left (straight_from nowhere first) (straight_from nowhere second) w
      (listed_in nowhere first here))
  listed_in before (either line condition first second rest) (inr (inl other)) =
      Contains-append_left (straight_from nowhere first ++ straight_from nowhere second) (straight_from nowhere rest) w
      (Contains-append_right (straight_from nowhere first) (straight_from nowhere second) w
      (listed_in nowhere second other))
  listed_in before (either line condition first second rest) (inr (inr later)) =
      Contains-append_right (straight_from nowhere first ++ straight_from nowhere second) (straight_from nowhere rest) w
      (listed_in nowhere rest later)
  listed_in before (repeat line times body rest) (inl here) =
      Contains-append_left (straight_from nowhere body) (straight_from nowhere rest) w (listed_in nowhere body here)
  listed_in before (repeat line times body rest) (inr later) =
      Contains-append_right (straight_from nowhere body) (straight_from nowhere rest) w (listed_in nowhere rest later)
  listed_in before (forever line body rest) (inl here) =
      Contains-append_left (straight_from nowhere body) (straight_from nowhere rest) w (listed_in nowhere body here)
  listed_in before (forever line body rest) (inr later) =
      Contains-append_right (straight_from nowhere body) (straight_from nowhere rest) w (listed_in nowhere rest later)
  listed_in before (apply line number named rest) h = listed_in nowhere rest h

  pub act_listed : (script : Tree) → HasActIn P script → Contains (straight_warnings script) w
  act_listed script (inl h) = Contains-append_right (flat_map straight_in script.blocks) (straight_in script.statements)
      w (listed_in nowhere (block_of [] script.statements) h)
  act_listed script (inr h) =
      Contains-append_left (flat_map straight_in script.blocks) (straight_in script.statements) w
      (to_flat straight_in script.blocks h.block w h.defined (listed_in nowhere (block_of [] h.block) h.has))

-- ---- at an act: an `until`, directly behind a wait or late on its way

pub record IsAtUntil (before : Before) (line : ℕ) (act : Act) (w : Warning) : Type 0 where
  pub until : Moment
  pub is : act ≡ Until until
  pub has : Contains (late_of before.wait line until) w ⊎ Contains (day_of before.way line until) w

pub at_until_only : (before : Before) (line : ℕ) (act : Act) (w : Warning) → Contains (at_act before line act) w
    → IsAtUntil before line act w
at_until_only before line (Until m) w h =
    record {
      until = m;
      is = refl;
      has = Contains-append_cases (late_of before.wait line m) (day_of before.way line m) w
          h;
    }
at_until_only before line (Edits e) w h = absurd (contains_none w h)
at_until_only before line (Wait n) w h = absurd (contains_none w h)
at_until_only before line (WaitContact k b) w h = absurd (contains_none w h)
at_until_only before line (WaitAny alternatives) w h = absurd (contains_none w h)
at_until_only before line (CommitIn d) w h = absurd (contains_none w h)
at_until_only before line (CommitAt n) w h = absurd (contains_none w h)
at_until_only before line Join w h = absurd (contains_none w h)
at_until_only before line Settle w h = absurd (contains_none w h)

-- ---- of two kinds

abbrev pub IsLateKind : Warning → Type 0
IsLateKind (Late u) = Unit {0}
IsLateKind _ = ⊥

abbrev pub IsDayKind : Warning → Type 0
IsDayKind (NextDay d) = Unit {0}
IsDayKind _ = ⊥

pub late_kind : (wait : Option ContactWait) (line : ℕ) (m : Moment) (w : Warning) → Contains (late_of wait line m) w
    → IsLateKind w
late_kind None line m w h = absurd (contains_none w h)
late_kind (Some c) line m w h =
    subst IsLateKind (from_one (Late (record { line = line; contact = c.contact; closed = c.closed; until = m })) w h)
    tt

day_by : (way : Way) (line : ℕ) (m : Moment) (w : Warning) (b : Bool)
    → Contains (if b then NextDay (record { line = line; until = m; way = way }) ∷ [] else []) w → IsDayKind w
day_by way line m w true h = subst IsDayKind (from_one (NextDay (record { line = line; until = m; way = way })) w h) tt
day_by way line m w false h = absurd (contains_none w h)

pub day_kind : (way : Option Way) (line : ℕ) (m : Moment) (w : Warning) → Contains (day_of way line m) w → IsDayKind w
day_kind None line m w h = absurd (contains_none w h)
day_kind (Some way) line m w h = day_by way line m w (comes_late way m) h

abbrev IsKind : Warning → Type 0
IsKind w = IsLateKind w ⊎ IsDayKind w

kind_at : (before : Before) (line : ℕ) (act : Act) (rest : Block) (w : Warning) → Contains (at_act before line act) w
    → ⊥ ⊎ IsKind w
kind_at before line act rest w h =
    let at = at_until_only before line act w h in
    elim at.has [
      | inl late ↦ inr (inl (late_kind before.wait line at.until w late))
      | inr day ↦ inr (inr (day_kind before.way line at.until w day))
    ]

kind_in : (b : Block) (w : Warning) → HasAct (λ act rest. IsKind w) b → IsKind w
kind_in nothing w h = absurd h
kind_in (basic line act rest) w (inl here) = here
kind_in (basic line act rest) w (inr later) = kind_in rest w later
kind_in (stop line rest) w h = kind_in rest w h
kind_in (when line condition first rest) w (inl here) = kind_in first w here
kind_in (when line condition first rest) w (inr later) = kind_in rest w later
kind_in (either line condition first second rest) w (inl here) = kind_in first w here
kind_in (either line condition first second rest) w (inr (inl other)) = kind_in second w other
kind_in (either line condition first second rest) w (inr (inr later)) = kind_in rest w later
kind_in (repeat line times body rest) w (inl here) = kind_in body w here
kind_in (repeat line times body rest) w (inr later) = kind_in rest w later
kind_in (forever line body rest) w (inl here) = kind_in body w here
kind_in (forever line body rest) w (inr later) = kind_in rest w later
kind_in (apply line number named rest) w h = kind_in rest w h

kind_of : (script : Tree) (w : Warning) → HasActIn (λ act rest. IsKind w) script → IsKind w
kind_of script w (inl h) = kind_in (block_of [] script.statements) w h
kind_of script w (inr h) = kind_in (block_of [] h.block) w h.has

neither : (w : Warning) → (IsLateKind w → ⊥) → (IsDayKind w → ⊥) → IsKind w → ⊥
neither w late day (inl h) = late h
neither w late day (inr h) = day h

-- a warning of no such kind is not among them
pub only_straight : (script : Tree) (w : Warning) → (IsLateKind w → ⊥) → (IsDayKind w → ⊥)
    → Contains (straight_warnings script) w → ⊥
only_straight script w late day h =
    let walk : IsWalk w (λ act rest. IsKind w) (λ before b. ⊥) =
    record {
      here = λ before line act rest at. kind_at before line act rest w at;
      earlier = λ before line act rest no. absurd no;
      none = λ b no. no;
    } in
    neither w late day (kind_of script w (has_act w (λ act rest. IsKind w) (λ before b. ⊥) walk script h))
