-- The bounds of the swaps known along a valid script whose instructions are in range.
use Rattle.script_compiler.proofs.Words.{[], ◌++◌, ◌+◌, ◌-◌, ◌<◌, ◌∷◌, ◌≡◌, ◌≤◌, AllByRecursion, AreBounds, Block}
use Rattle.script_compiler.proofs.Words.{CommitAt, CommitIn, Edit, End, Flow, Idle, Instr, IsFine, IsInstr, IsJudged}
use Rattle.script_compiler.proofs.Words.{IsLine, Join, Jump, Known, List, Loop, None, Option, Perhaps, PlacedInstr}
use Rattle.script_compiler.proofs.Words.{Plan, ProgramPoint, Reached, Set, Settle, Some, Swap, Test, TestTime, Until}
use Rattle.script_compiler.proofs.Words.{Wait, WaitAny, WaitContact, Within, after_instr, after_pause, after_settle}
use Rattle.script_compiler.proofs.Words.{after_wait, all_places, alone, apply, arith, at_label, basic, cases_lt, either}
use Rattle.script_compiler.proofs.Words.{falls_out, forever, head, if◌then◌else◌, inl, inr, instr_of_act, join}
use Rattle.script_compiler.proofs.Words.{known_after_swap, known_at, le-ltb, length, lines_of_placed, lt-ltb, meet}
use Rattle.script_compiler.proofs.Words.{nothing, onward, perhaps_swapped, placed_instr, places, point_after, repeat}
use Rattle.script_compiler.proofs.Words.{slice_get, stop, subst, suc, sym, when, widest, without_label, zero, ℕ}
use Rattle.fib_codec.specs.declared.modes.Mode.{Mode}
use Rattle.fib_codec.specs.declared.modes.Mode.TheVariants.{I, II, III, IV}
use Rattle.fib_codec.specs.Layouts.{layout_mode}
use Rattle.fib_codec.specs.Modes.{count_step}

-- ---- after an instruction

step_few : (mode : Mode) → count_step mode ≤ 4
step_few I = omega arith
step_few II = omega arith
step_few III = omega arith
step_few IV = omega arith

waited_bounds : (n : ℕ) (p : Swap) (t : Known) → AreBounds p → AreBounds t.pending
    → AreBounds (after_wait n p t).pending
waited_bounds n Idle t h k = k
waited_bounds n (Within lo hi) t h k = elim (cases_lt n lo) [
  | inl lt ↦ subst (λ b. AreBounds
      (if b then record t { pending = Within (lo - n) (hi - n) } else known_after_swap t).pending)
      (sym (lt-ltb n lo lt)) (omega (arith, lt), omega (arith, h.0, h.1, lt), omega (arith, h.2))
  | inr ge ↦ subst (λ b. AreBounds
      (if b then record t { pending = Within (lo - n) (hi - n) } else known_after_swap t).pending)
      (sym (le-ltb n lo ge)) tt
]
waited_bounds n (Perhaps hi) t h k = elim (cases_lt n hi) [
  | inl lt ↦ subst (λ b. AreBounds (if b then record t { pending = Perhaps (hi - n) } else known_after_swap t).pending)
      (sym (lt-ltb n hi lt)) (omega (arith, lt), omega (arith, h.1))
  | inr ge ↦ subst (λ b. AreBounds (if b then record t { pending = Perhaps (hi - n) } else known_after_swap t).pending)
      (sym (le-ltb n hi ge)) tt
]

perhaps_bounds : (hi : ℕ) (t : Known) → hi < 65536 → AreBounds (perhaps_swapped hi t).pending
perhaps_bounds hi t h = elim (cases_lt 1 hi) [
  | inl lt ↦ subst (λ b. AreBounds (if b then record t { pending = Perhaps (hi - 1) } else known_after_swap t).pending)
      (sym (lt-ltb 1 hi lt)) (omega (arith, lt), omega (arith, h))
  | inr ge ↦ subst (λ b. AreBounds (if b then record t { pending = Perhaps (hi - 1) } else known_after_swap t).pending)
      (sym (le-ltb 1 hi ge)) tt
]

paused_bounds : (p : Swap) (t : Known) → AreBounds p → AreBounds t.pending → AreBounds (after_pause p t).pending
paused_bounds Idle t h k = k
paused_bounds (Within lo hi) t h k = perhaps_bounds hi t h.2
paused_bounds (Perhaps hi) t h k = perhaps_bounds hi t h.1

settled_bounds : (p : Swap) (t : Known) → AreBounds t.pending → AreBounds (after_settle p t).pending
settled_bounds Idle t k = k
settled_bounds _ t k = tt

moved_bounds : (plan : Plan) (i : Instr) (t : Flow) → 1 ≤ plan.notice → plan.notice ≤ 248 → IsFine plan i (known_at t)
    → IsInstr i → AreBounds t.pending → AreBounds (after_instr plan i t).pending
moved_bounds plan (Edit edit) t least most fine is h = h
moved_bounds plan (CommitIn delay) t least most fine is h = let step = step_few (layout_mode plan.layout) in
    (omega (arith, least, fine.1), omega arith, omega (arith, is.1, step))
moved_bounds plan (CommitAt count) t least most fine is h = (least, omega arith, omega (arith, most))
moved_bounds plan (Wait frames) t least most fine is h = waited_bounds frames t.pending (known_at t) h h
moved_bounds plan (Until day) t least most fine is h = paused_bounds t.pending (known_at t) h h
moved_bounds plan (WaitContact contact closed) t least most fine is h = paused_bounds t.pending (known_at t) h h
moved_bounds plan (WaitAny closed opened until frames) t least most fine is h = paused_bounds t.pending (known_at t) h h
moved_bounds plan Join t least most fine is h = tt
moved_bounds plan Settle t least most fine is h = settled_bounds t.pending (known_at t) h
moved_bounds plan (Set counter times) t least most fine is h = h
moved_bounds plan (Loop counter target) t least most fine is h = h
moved_bounds plan (Test contact target) t least most fine is h = h
moved_bounds plan (TestTime from until target) t least most fine is h = h
moved_bounds plan (Jump target) t least most fine is h = h
moved_bounds plan End t least most fine is h = h

-- ---- where paths merge

widest_bounds : (p q : Swap) → AreBounds p → AreBounds q → AreBounds (widest p q)
widest_bounds Idle Idle h k = tt
widest_bounds Idle (Within lo hi) h k = (omega (arith, k.0, k.1), omega (arith, k.2))
widest_bounds Idle (Perhaps hi) h k = (omega (arith, k.0), omega (arith, k.1))
widest_bounds (Within lo hi) Idle h k = (omega (arith, h.0, h.1), omega (arith, h.2))
widest_bounds (Within lo hi) (Within least most) h k =
    (omega (arith, h.0, k.0), omega (arith, h.1, k.1), omega (arith, h.2, k.2))
widest_bounds (Within lo hi) (Perhaps most) h k = (omega (arith, k.0), omega (arith, h.2, k.1))
widest_bounds (Perhaps hi) Idle h k = (omega (arith, h.0), omega (arith, h.1))
widest_bounds (Perhaps hi) (Within least most) h k = (omega (arith, h.0), omega (arith, h.1, k.2))
widest_bounds (Perhaps hi) (Perhaps most) h k = (omega (arith, h.0), omega (arith, h.1, k.1))

-- at the end of a path, if it continues
abbrev AtEnd : Option ProgramPoint → Type 0
AtEnd None = Unit {0}
AtEnd (Some s) = AreBounds s.flow.pending

meet_bounds : (v w : Option ProgramPoint) → AtEnd v → AtEnd w → AtEnd (meet v w)
meet_bounds None None h k = tt
meet_bounds None (Some t) h k = k
meet_bounds (Some s) None h k = h
meet_bounds (Some s) (Some t) h k = widest_bounds s.flow.pending t.flow.pending h k

join_bounds : (v w : Option ProgramPoint) → AtEnd v → AtEnd w → AtEnd (join v w)
join_bounds None w h k = k
join_bounds (Some s) w h k = meet_bounds w (Some s) k h

-- ---- at each instruction of a block, and after it

abbrev pub AtAll : List PlacedInstr → Type 0
AtAll [] = Unit {0}
AtAll (p ∷ ps) = AreBounds p.point.flow.pending × AtAll ps

pub bounds_at : (ps : List PlacedInstr) (i : ℕ) (p : PlacedInstr) → AtAll ps → slice_get ps i ≡ Some p
    → AreBounds p.point.flow.pending
bounds_at [] i p h e = cc
bounds_at (q ∷ ps) zero p h e = let same : q ≡ p = cc in
    subst (λ (x : PlacedInstr). AreBounds x.point.flow.pending) same h.0
bounds_at (q ∷ ps) (suc i) p h e = bounds_at ps i p h.1 e

-- each instruction is in range
abbrev AllInstrs : List PlacedInstr → Type 0
AllInstrs [] = Unit {0}
AllInstrs (p ∷ ps) = IsInstr p.instr × AllInstrs ps

instrs_from_lines : (ps : List PlacedInstr) → AllByRecursion IsLine (lines_of_placed ps) → AllInstrs ps
instrs_from_lines [] h = tt
instrs_from_lines (p ∷ ps) h = (h.0.formed, instrs_from_lines ps h.1)

instrs_front : (ps qs : List PlacedInstr) → AllInstrs (ps ++ qs) → AllInstrs ps
instrs_front [] qs h = tt
instrs_front (p ∷ ps) qs h = (h.0, instrs_front ps qs h.1)

instrs_back : (ps qs : List PlacedInstr) → AllInstrs (ps ++ qs) → AllInstrs qs
instrs_back [] qs h = h
instrs_back (p ∷ ps) qs h = instrs_back ps qs h.1

bounds_both : (ps qs : List PlacedInstr) → AtAll ps → AtAll qs → AtAll (ps ++ qs)
bounds_both [] qs h k = k
bounds_both (p ∷ ps) qs h k = (h.0, bounds_both ps qs h.1 k)

bounds_alone : (w : Option ProgramPoint) (line : ℕ) (i : Instr) (r : ℕ) → AtEnd w → AtAll (onward w [] (alone line i r))
bounds_alone None line i r h = tt
bounds_alone (Some u) line i r h = (h, tt)

abbrev HaveBounds : List PlacedInstr → Option ProgramPoint → Type 0
HaveBounds ps w = AtAll ps × AtEnd w

bounds_onward : (w : Option ProgramPoint) (rest : Block) (judged : ProgramPoint → Type 0)
    (emit : ProgramPoint → List PlacedInstr) (next : ProgramPoint → Option ProgramPoint) → AtEnd w
    → Reached w rest judged → AllInstrs (onward w [] emit)
    → ((u : ProgramPoint) → judged u → AllInstrs (emit u) → AreBounds u.flow.pending → HaveBounds (emit u) (next u))
    → HaveBounds (onward w [] emit) (onward w None next)
bounds_onward None rest judged emit next h j i k = (tt, tt)
bounds_onward (Some u) rest judged emit next h j i k = k u j i h

module _ (plan : Plan) (least : 1 ≤ plan.notice) (most : plan.notice ≤ 248) where
  block_bounds : (b : Block) (r pc : ℕ) (s : ProgramPoint) → IsJudged plan b s → AllInstrs (places plan r pc b s)
      → AreBounds s.flow.pending → HaveBounds (places plan r pc b s) (point_after plan b s)
  block_bounds nothing r pc s j i h = (tt, h)
  block_bounds (basic line act rest) r pc s j i h =
      let rests = block_bounds rest r (pc + 1) (without_label (after_instr plan (instr_of_act act) s.flow)) j.1 i.1
      (moved_bounds plan (instr_of_act act) s.flow least most j.0 i.0 h) in
      ((h, rests.0), rests.1)
  block_bounds (stop line rest) r pc s j i h = ((h, tt), tt)
  block_bounds (when line c first rest) r pc s j i h =
      let a = point_after plan first (without_label s.flow) in
      let firsts = places plan r (pc + 1) first (without_label s.flow) in
      let end = pc + 1 + length firsts in
      let rests = onward (meet a (Some s)) [] (λ u. places plan r end rest u) in
      let one = block_bounds first r (pc + 1) (without_label s.flow) j.0 (instrs_front firsts rests i.1) h in
      let more =
      bounds_onward (meet a (Some s)) rest (λ u. IsJudged plan rest u) (λ u. places plan r end rest u)
      (λ u. point_after plan rest u) (meet_bounds a (Some s) one.1 h) j.2 (instrs_back firsts rests i.1)
      (λ u q k g. block_bounds rest r end u q k g)
      in
      ((h, bounds_both firsts rests one.0 more.0), more.1)
  block_bounds (either line c first second rest) r pc s j i h =
      let a = point_after plan first (without_label s.flow) in
      let b = point_after plan second (at_label s.flow) in
      let firsts = places plan r (pc + 1) first (without_label s.flow) in
      let start = pc + 1 + length firsts + (if falls_out first then 1 else 0) in
      let seconds = places plan r start second (at_label s.flow) in
      let end = start + length seconds in
      let jumps = onward a [] (alone line (Jump end) r) in
      let rests = onward (join a b) [] (λ u. places plan r end rest u) in
      let back = instrs_back jumps (seconds ++ rests) (instrs_back firsts (jumps ++ (seconds ++ rests)) i.1) in
      let one = block_bounds first r (pc + 1) (without_label s.flow) j.0 (instrs_front _ _ i.1) h in
      let two = block_bounds second r start (at_label s.flow) j.1 (instrs_front seconds rests back) h in
      let more =
      bounds_onward (join a b) rest (λ u. IsJudged plan rest u) (λ u. places plan r end rest u)
      (λ u. point_after plan rest u) (join_bounds a b one.1 two.1) j.3 (instrs_back seconds rests back)
      (λ u q k g. block_bounds rest r end u q k g)
      in
      let all = bounds_both _ _ (bounds_alone _ _ _ _ one.1) (bounds_both _ _ two.0 more.0) in
      ((h, bounds_both firsts (jumps ++ (seconds ++ rests)) one.0 all), more.1)
  block_bounds (repeat line n body rest) r pc s j i h =
      let start = head body (without_label s.flow) in
      let bodies = places plan (r + 1) (pc + 1) body start in
      let end = pc + 1 + length bodies in
      let back : ProgramPoint → List PlacedInstr = λ u.
      placed_instr line (Loop r (pc + 1)) (r + 1) u ∷ places plan r (end + 1) rest (without_label u.flow) in
      let rests = onward (point_after plan body start) [] back in
      let one = block_bounds body (r + 1) (pc + 1) start j.0 (instrs_front bodies rests i.1) h in
      let more =
      bounds_onward (point_after plan body start) rest (λ u. IsJudged plan rest (without_label u.flow)) back
      (λ u. point_after plan rest (without_label u.flow)) one.1 j.2 (instrs_back bodies rests i.1)
      (λ u q k g. let z = block_bounds rest r (end + 1) (without_label u.flow) q k.1 g in ((g, z.0), z.1))
      in
      ((h, bounds_both bodies rests one.0 more.0), more.1)
  block_bounds (forever line body rest) r pc s j i h =
      let start = head body s in
      let bodies = places plan r pc body start in
      let jumps = onward (point_after plan body start) [] (alone line (Jump pc) r) in
      let one = block_bounds body r pc start j.0 (instrs_front bodies jumps i) h in
      (bounds_both bodies jumps one.0 (bounds_alone (point_after plan body start) line (Jump pc) r one.1), tt)
  block_bounds (apply line k named rest) r pc s j i h =
      let names = places plan r pc named s in
      let end = pc + length names in
      let rests = onward (point_after plan named s) [] (λ u. places plan r end rest u) in
      let one = block_bounds named r pc s j.0 (instrs_front names rests i) h in
      let more =
      bounds_onward (point_after plan named s) rest (λ u. IsJudged plan rest u) (λ u. places plan r end rest u)
      (λ u. point_after plan rest u) one.1 j.1 (instrs_back names rests i)
      (λ u q k g. block_bounds rest r end u q k g)
      in
      (bounds_both names rests one.0 more.0, more.1)

  pub all_bounds : (last : ℕ) (b : Block) (s : ProgramPoint) → IsJudged plan b s
      → AllByRecursion IsLine (lines_of_placed (all_places plan last b s)) → AreBounds s.flow.pending
      → AtAll (all_places plan last b s)
  all_bounds last b s j lines h =
      let ending = onward (point_after plan b s) [] (alone last End 0) in
      let one = block_bounds _ _ _ _ j (instrs_front _ _ (instrs_from_lines _ lines)) h in
      bounds_both (places plan 0 0 b s) ending one.0 (bounds_alone (point_after plan b s) last End 0 one.1)
