-- If there is room for a block, there is room for what is emitted of it at each step.
use Rattle.script_compiler.proofs.Words.{[], ◌++◌, ◌+◌, ◌∙◌, ◌≡◌, ◌≤◌, Block, Bool, BranchesAgree, CanEmit, CodeLimit}
use Rattle.script_compiler.proofs.Words.{Configurations, Counters, Covers, End, HasCounters, HasSpace, HasTable, Instr}
use Rattle.script_compiler.proofs.Words.{Instructions, IsJudged, Keeps, Labels, Left, List, None, Option, PlacedInstr}
use Rattle.script_compiler.proofs.Words.{Plan, ProgramPoint, Some, WaysAgree, Work, all_places, alone, ap, append-nil}
use Rattle.script_compiler.proofs.Words.{append_assoc, apply, arith, at_label, join, length, meet, merged, nested}
use Rattle.script_compiler.proofs.Words.{nothing, onward, placed_instr, places, point_after, refl, subst, sym, true}
use Rattle.script_compiler.proofs.Words.{way, ℕ}
use Rattle.script_compiler.proofs.Rooms.{leaves_same}
use Rattle.script_compiler.proofs.Emitted.{Whole, whole_length}
use Rattle.script_compiler.proofs.Steps.{Starts, whole_start}
use Rattle.script_compiler.proofs.Spaces.{marks_count, marks_named, space_from, space_after, space_as, covered_here}
use Rattle.script_compiler.proofs.Spaces.{covered_fits, covers_block}

-- ---- one statement after another

pub counters_less : (limit : CodeLimit) (m n : ℕ) → n ≤ m → HasCounters limit m → HasCounters limit n
counters_less Counters m n le h = omega (arith, le, h)
counters_less _ m n le h = tt

pub can_then : (limit : CodeLimit) (plan : Plan) (r : ℕ) (b c : Block) (v w : Work) → Left plan r b v w true c
    → CanEmit limit plan r b v → CanEmit limit plan r c w
can_then limit plan r b c v w left can =
    let rest = places plan r (length w.lines.items) c w.now in
    let e = ap (λ ps. ps ++ can.more) left.whole ∙ append_assoc left.emitted rest can.more in
    record {
      judged = left.only can.judged;
      deep = counters_less limit (r + nested b) (r + nested c) (let f = left.fewer in omega (arith, f)) can.deep;
      more = can.more;
      onward = λ u h. can.onward u (left.leads ∙ h);
      space = space_after limit v w left.emitted (rest ++ can.more) left.emits (rw (← e) can.space);
    }

-- ---- labels at which paths merge

module _ (plan : Plan) (r pc : ℕ) (rest : Block) (more : List PlacedInstr) where
  abbrev pub Onward : Option ProgramPoint → Type 0
  Onward w = (v : ProgramPoint) → onward w None (λ u. point_after plan rest u) ≡ Some v → Covers v more

  abbrev pub rests : Option ProgramPoint → List PlacedInstr
  rests w = onward w [] (λ u. places plan r pc rest u)

  pub onward_covers : (w : Option ProgramPoint) → Onward w → (u : ProgramPoint) → w ≡ Some u
      → Covers u (rests w ++ more)
  onward_covers w on u e = subst (λ x. Covers u (rests x ++ more)) (sym e)
      (covers_block plan r pc rest u more (λ v h. on v (ap (λ x. onward x None (λ t. point_after plan rest t)) e ∙ h)))

  pub when_covers : (a : Option ProgramPoint) (s : ProgramPoint) → WaysAgree a (Some s) → Onward (meet a (Some s))
      → (u : ProgramPoint) → a ≡ Some u → Covers u (rests (meet a (Some s)) ++ more)
  when_covers None s agree on u e = cc
  when_covers (Some x) s agree on u e = λ l.
      let m = at_label (merged x.flow s.flow) in
      let same : x ≡ u = cc in
      let there = onward_covers (Some m) on m refl refl in
      rw (← same) (covered_fits x.flow m.flow (places plan r pc rest m ++ more) agree.0 there)

  pub join_covers : (a b : Option ProgramPoint) → BranchesAgree a b → Onward (join a b) → (u : ProgramPoint)
      → b ≡ Some u → Covers u (rests (join a b) ++ more)
  join_covers None b agree on u e = onward_covers b on u e
  join_covers (Some y) b agree on u e = when_covers b y agree on u e

  -- the jump at the end of a branch covers a label there
  pub jump_covers : (a : Option ProgramPoint) (line : ℕ) (i : Instr) (q : ℕ) (u : ProgramPoint) → a ≡ Some u
      → Covers u (onward a [] (alone line i q) ++ more)
  jump_covers None line i q u e = cc
  jump_covers (Some x) line i q u e = covered_here u (placed_instr line i q x) more cc

-- after a block has been compiled, there is room for the rest of what there was room for
space_whole : (limit : CodeLimit) (plan : Plan) (r pc : ℕ) (b : Block) (s : ProgramPoint) (v w : Work) (f : Bool)
    (more : List PlacedInstr) → Whole plan r pc b s v w f → HasSpace limit v (places plan r pc b s ++ more)
    → HasSpace limit w more
space_whole limit plan r pc b s v w f more h space = space_from _ _ _ _ _ _ (whole_length h refl) h.unpriced space

-- ---- a block at a known point

-- there is room for a block that begins at this pc and point, and for what follows it
pub record Fits (limit : CodeLimit) (plan : Plan) (r pc : ℕ) (b : Block) (s : ProgramPoint) (w : Work)
    (more : List PlacedInstr) : Type 0 where
  pub judged : IsJudged plan b s
  pub deep : HasCounters limit (r + nested b)
  pub onward : (u : ProgramPoint) → point_after plan b s ≡ Some u → Covers u more
  pub space : HasSpace limit w (places plan r pc b s ++ more)

module _ {limit : CodeLimit} {plan : Plan} {r pc : ℕ} {b : Block} {s : ProgramPoint} {w : Work}
    {more : List PlacedInstr} (h : Fits limit plan r pc b s w more) where
  pub can_here : length w.lines.items ≡ pc → w.now ≡ s → CanEmit limit plan r b w
  can_here at now =
      let same : places plan r pc b s ≡ places plan r (length w.lines.items) b w.now = cc (at, now) in
      record {
        judged = subst (λ t. IsJudged plan b t) (sym now) h.judged;
        deep = h.deep;
        more = more;
        onward = λ u e. h.onward u (ap (λ t. point_after plan b t) (sym now) ∙ e);
        space = subst (λ ps. HasSpace limit w (ps ++ more)) same h.space;
      }

  -- where the same has been emitted
  pub fits_as : (v : Work) → v.lines.items ≡ w.lines.items → v.unpriced.items ≡ w.unpriced.items
      → Fits limit plan r pc b s v more
  fits_as v lines unpriced = record {
    judged = h.judged;
    deep = h.deep;
    onward = h.onward;
    space = space_as limit w v _ (ap length lines) unpriced h.space;
  }

  -- after the block
  pub room_after : (v : Work) (f : Bool) → Whole plan r pc b s w v f → HasSpace limit v more
  room_after v f whole = space_whole limit plan r pc b s w v f more whole h.space

-- ---- applied blocks

pub can_apply : (limit : CodeLimit) (plan : Plan) (r line k : ℕ) (named rest : Block) (w : Work)
    → CanEmit limit plan r (apply line k named rest) w → CanEmit limit plan r named w
can_apply limit plan r line k named rest w can =
    let pc = length w.lines.items in
    let names = places plan r pc named w.now in
    let rests = onward (point_after plan named w.now) [] (λ u. places plan r (pc + length names) rest u) in
    record {
      judged = can.judged.0;
      deep = counters_less limit (r + nested (apply line k named rest)) (r + nested named) (omega arith) can.deep;
      more = rests ++ can.more;
      onward = λ u e. onward_covers plan r _ rest can.more (point_after plan named w.now) (λ v h. can.onward v h) u e;
      space = subst (λ ps. HasSpace limit w ps) (append_assoc names rests can.more) can.space;
    }

-- ---- a script as a whole

pub table_none : (w : Work) → w.unpriced.table ≡ [] → w.unpriced.items ≡ [] → HasTable w
table_none w configs unpriced = record {
  few = let e = ap length configs in omega (arith, e);
  labels = let e = ap length unpriced in omega (arith, e);
  room = rw configs (rw unpriced (leaves_same []));
  tabled = rw configs (rw unpriced refl);
}

few_space : (limit : CodeLimit) (deep : ℕ) (w : Work) (ps : List PlacedInstr) → w.lines.items ≡ []
    → w.unpriced.items ≡ [] → Keeps limit deep ps → HasSpace limit w ps
few_space Instructions deep w ps lines unpriced few = let e = ap length lines in omega (arith, e, few)
few_space Labels deep w ps lines unpriced few = let e = ap length unpriced in let n = marks_count 0 ps in
    omega (arith, e, n, few)
few_space Configurations deep w ps lines unpriced few = rw unpriced (rw (← marks_named 0 ps) few)
few_space Counters deep w ps lines unpriced few = tt

few_counters : (limit : CodeLimit) (deep : ℕ) (ps : List PlacedInstr) → Keeps limit deep ps → HasCounters limit deep
few_counters Counters deep ps few = few
few_counters _ deep ps few = tt

module _ (limit : CodeLimit) (plan : Plan) (last : ℕ) {b c : Block} {t : ProgramPoint} {w0 : Work}
    (starts : Starts b c t w0) (few : Keeps limit (nested b) (all_places plan last b t)) where
  whole_fits : IsJudged plan b t → Fits limit plan 0 0 b t w0
      (onward (point_after plan b t) [] (alone last End 0) ++ [])
  whole_fits judged =
      let ending = onward (point_after plan b t) [] (alone last End 0) in
      record {
        judged = judged;
        deep = counters_less _ _ _ (omega arith) (few_counters _ _ _ few);
        onward = λ u e. jump_covers plan 0 0 b [] (point_after plan b t) last End 0 u e;
        space = subst (λ ps. HasSpace limit w0 (places plan 0 0 b t ++ ps)) (sym (append-nil ending))
            (few_space limit (nested b) w0 (all_places plan last b t) starts.lines starts.unpriced few);
      }

  pub can_whole : IsJudged plan b t → CanEmit limit plan 0 c w0
  can_whole judged = rw starts.same (can_here (whole_fits judged) (ap length starts.lines) starts.now)

  pub space_whole_end : {w1 : Work} {f : Bool} → Left plan 0 c w0 w1 f nothing
      → HasSpace limit w1 (onward (way f w1) [] (alone last End 0))
  space_whole_end {w1} {f} left =
      let h = whole_start starts plan left in
      subst (λ w. HasSpace limit w1 (onward w [] (alone last End 0))) h.leads
      (space_whole limit plan 0 0 b t w0 w1 f _ h (few_space limit _ w0 _ starts.lines starts.unpriced few))
