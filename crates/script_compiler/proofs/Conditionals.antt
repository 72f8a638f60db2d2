-- An `if`, with or without `else`: what is emitted of it, why it is refused, and the room that it takes.
use Rattle.script_compiler.proofs.Words.{[], ◌++◌, ◌+◌, ◌∙◌, ◌∷◌, ◌≡◌, ◌≤◌, Block, Bool, BranchesAgree, CanEmit, Cause}
use Rattle.script_compiler.proofs.Words.{ClosesIf, CodeLimit, Condition, Covers, Forks, HasSpace, Instr}
use Rattle.script_compiler.proofs.Words.{IsAfterBranches, IsCovered, IsJudged, IsRefusedAfter, IsRefusedIn, Jump, Left}
use Rattle.script_compiler.proofs.Words.{Line, List, Mismatch, None, Option, PlacedInstr, Plan, ProgramPoint, Reached}
use Rattle.script_compiler.proofs.Words.{Some, StartsElse, WaysAgree, Work, aimed_at, alone, ap, append_assoc, arith}
use Rattle.script_compiler.proofs.Words.{at_label, either, falls_out, if◌then◌else◌, inl, inr, is_some, join, jumping}
use Rattle.script_compiler.proofs.Words.{length, length-append, length-set, line_of_instr, lines_of_placed, meet}
use Rattle.script_compiler.proofs.Words.{nested, nothing, onward, placed_instr, places, point_after, points_of, refl}
use Rattle.script_compiler.proofs.Words.{set-append_seam, slice_set, subst, sym, test_of, true, unpriced_labels, way}
use Rattle.script_compiler.proofs.Words.{when, without_label, ℕ}
use Rattle.script_compiler.proofs.Places.{after_falls}
use Rattle.script_compiler.proofs.Emitted.{Whole, whole_of, whole_length, length_lines, lines_both, marks_both, aimed}
use Rattle.script_compiler.proofs.Emitted.{some_is, jump_length}
use Rattle.script_compiler.proofs.Spaces.{space_one, space_left, covers_block, met_labelled}
use Rattle.script_compiler.proofs.Fitting.{Fits, can_here, room_after, counters_less, onward_covers, when_covers}
use Rattle.script_compiler.proofs.Fitting.{join_covers, jump_covers}

-- ---- the first branch

-- the first branch has been compiled
pub record HasFirst (plan : Plan) (r line : ℕ) (c : Condition) (first : Block) (w0 w2 w3 : Work) (f : Bool) : Type
    0 where
  pub forks : Forks line (test_of c 0) r w0 w2
  pub left : Left plan r first w2 w3 f nothing

module _ {line r : ℕ} {i : Instr} {v w : Work} (forks : Forks line i r v w) where
  pub fork_at : length w.lines.items ≡ length v.lines.items + 1
  fork_at = ap length forks.lines ∙ length-append v.lines.items (line_of_instr line i ∷ [])

module _ {plan : Plan} {r line : ℕ} {c : Condition} {first : Block} {w0 w2 w3 : Work} {f : Bool}
    (b : HasFirst plan r line c first w0 w2 w3 f) where
  pub first_whole : Whole plan r (length w0.lines.items + 1) first (without_label w0.now.flow) w2 w3 f
  first_whole = whole_of plan r (length w0.lines.items + 1) first (without_label w0.now.flow) w2 w3 f (fork_at b.forks)
      b.forks.now b.left

  pub first_saved : w3.saved.items ≡ w0.saved.items ++ w0.now ∷ []
  first_saved = b.left.emits.saved ∙ b.forks.saved

  first_end : length w3.lines.items ≡ length w0.lines.items + 1
      + length (places plan r (length w0.lines.items + 1) first (without_label w0.now.flow))
  first_end = whole_length first_whole (fork_at b.forks)

  first_lines : w3.lines.items ≡ (w0.lines.items ++ line_of_instr line (test_of c 0) ∷ [])
      ++ lines_of_placed (places plan r (length w0.lines.items + 1) first (without_label w0.now.flow))
  first_lines = cc (first_whole.lines, b.forks.lines)

  -- the number of instructions with the jump at the end of the branch, if it falls out
  jump_end : length (w3.lines.items ++ lines_of_placed (jumping f line r w3)) ≡ length w0.lines.items + 1
      + length (places plan r (length w0.lines.items + 1) first (without_label w0.now.flow))
      + (if falls_out first then 1 else 0)
  jump_end =
      let jump : length (lines_of_placed (jumping f line r w3)) ≡ (if falls_out first then 1 else 0) =
      jump_length line 0 r _ _ (ap (λ w. is_some w) (sym first_whole.leads) ∙ after_falls plan first _) in
      cc (length-append w3.lines.items (lines_of_placed (jumping f line r w3)), first_end, jump)

-- ---- `if` without `else`

module _ {plan : Plan} {r line : ℕ} {c : Condition} {first : Block} {w0 w2 w3 : Work} {f : Bool}
    (b : HasFirst plan r line c first w0 w2 w3 f) where
  pub left_when : (w5 : Work) (rest : Block) → r ≤ 8 → ClosesIf f line c (length w0.lines.items) w0.saved.items w0.now
      w3 w5 → Left plan r (when line c first rest) w0 w5 true rest
  left_when w5 rest deep close =
      let pc = length w0.lines.items in
      let h = first_whole b in
      let firsts = places plan r (pc + 1) first (without_label w0.now.flow) in
      let end = pc + 1 + length firsts in
      let there = line_of_instr line (test_of c end) in
      let code : w5.lines.items ≡ w0.lines.items ++ there ∷ lines_of_placed firsts =
      close.lines ∙ ap (λ n. slice_set w3.lines.items pc (line_of_instr line (test_of c n))) (first_end b)
      ∙ aimed w0.lines.items (lines_of_placed firsts) (line_of_instr line (test_of c 0)) there w3.lines.items
      (first_lines b) in
      let len5 : length w5.lines.items ≡ end = let n = ap length code in let m =
      length-append w0.lines.items (there ∷ lines_of_placed firsts) in let k = length_lines firsts in
      omega (arith, n, m, k) in
      let labels : w5.unpriced.items ≡ w0.unpriced.items
      ++ unpriced_labels pc (placed_instr line (test_of c end) r w0.now ∷ firsts) =
      close.unpriced ∙ h.unpriced ∙ ap (λ xs. xs ++ unpriced_labels (pc + 1) firsts) b.forks.unpriced
      ∙ append_assoc w0.unpriced.items (unpriced_labels pc (alone line (test_of c 0) r w0.now))
      (unpriced_labels (pc + 1) firsts)
      ∙ ap (λ xs. w0.unpriced.items ++ xs) (sym (marks_both pc (alone line (test_of c end) r w0.now) firsts)) in
      let met = ap (λ w. meet w (Some w0.now)) h.leads ∙ close.met in
      let agree = subst (λ w. WaysAgree w (Some w0.now)) (sym h.leads) close.agree in
      record {
        emitted = placed_instr line (test_of c end) r w0.now ∷ firsts;
        emits = record { lines = code; unpriced = labels; saved = close.saved };
        whole = ap (λ w. placed_instr line (test_of c end) r w0.now
            ∷ (firsts ++ onward w [] (λ u. places plan r end rest u))) met
            ∙ ap (λ n. placed_instr line (test_of c end) r w0.now ∷ (firsts ++ places plan r n rest w5.now)) (sym len5);
        leads = ap (λ w. onward w None (λ u. point_after plan rest u)) met;
        judged = λ j. (h.judged, agree, subst (λ w. Reached w rest (λ u. IsJudged plan rest u)) (sym met) j);
        only = λ j. subst (λ w. Reached w rest (λ u. IsJudged plan rest u)) met j.2;
        fails = λ at given j. inr (h.judged, inr (agree, rw met j));
        repeats = λ n. let k = h.repeats deep in omega (arith, n, k);
        fewer = omega arith;
      }

  -- the paths agree, if the block is valid
  pub first_agrees : WaysAgree (point_after plan first (without_label w0.now.flow)) (Some w0.now)
      → WaysAgree (way f w3) (Some w0.now)
  first_agrees agree = subst (λ w. WaysAgree w (Some w0.now)) (first_whole b).leads agree

  pub when_why : (rest : Block) (cause : Cause) → (cause ≡ Mismatch)
      × ((front : List ProgramPoint) (entry : ProgramPoint) → w3.saved.items ≡ front ++ entry ∷ []
      → WaysAgree (way f w3) (Some entry) → ⊥) → IsRefusedIn plan (when line c first rest) w0.now line cause
  when_why rest cause h = inr (
    (first_whole b).judged,
    inl ((λ agree. h.1 w0.saved.items w0.now (first_saved b) (first_agrees agree)), refl, h.0),
  )

module _ {limit : CodeLimit} {plan : Plan} {r line : ℕ} (c : Condition) {first rest : Block} {w0 w2 : Work} where
  when_fits : Forks line (test_of c 0) r w0 w2 → (can : CanEmit limit plan r (when line c first rest) w0) →
      let firsts = places plan r (length w0.lines.items + 1) first (without_label w0.now.flow) in
      Fits limit plan r (length w0.lines.items + 1) first (without_label w0.now.flow) w2
      (onward (meet (point_after plan first (without_label w0.now.flow)) (Some w0.now)) []
      (λ u. places plan r (length w0.lines.items + 1 + length firsts) rest u) ++ can.more)
  when_fits forks can =
      let pc = length w0.lines.items in
      let s = w0.now in
      let firsts = places plan r (pc + 1) first (without_label s.flow) in
      let end = pc + 1 + length firsts in
      let a = point_after plan first (without_label s.flow) in
      let rests = onward (meet a (Some s)) [] (λ u. places plan r end rest u) in
      let space : HasSpace limit w2 ((firsts ++ rests) ++ can.more) =
      space_one limit w0 w2 pc line r (test_of c 0) (placed_instr line (test_of c end) r s) _ refl (fork_at forks)
      forks.unpriced can.space in
      record {
        judged = can.judged.0;
        deep = counters_less limit (r + nested (when line c first rest)) (r + nested first) (omega arith) can.deep;
        onward = λ u e. when_covers plan r end rest can.more a s can.judged.1 (λ v h. can.onward v h) u e;
        space = subst (λ ps. HasSpace limit w2 ps) (append_assoc firsts rests can.more) space;
      }

  pub can_when_first : Forks line (test_of c 0) r w0 w2 → CanEmit limit plan r (when line c first rest) w0
      → CanEmit limit plan r first w2
  can_when_first forks can = can_here (when_fits forks can) (fork_at forks) forks.now

  pub can_when_closed : {w3 : Work} {f : Bool} (b : HasFirst plan r line c first w0 w2 w3 f) →
      ((front : List ProgramPoint) (entry : ProgramPoint) → w3.saved.items ≡ front ++ entry ∷ []
      → (ps : List PlacedInstr) → ((u : ProgramPoint) → meet (way f w3) (Some entry) ≡ Some u → IsCovered u.flow ps)
      → HasSpace limit w3 ps → ⊥) →
      CanEmit limit plan r (when line c first rest) w0 → ⊥
  can_when_closed {w3} {f} b full can =
      let s = w0.now in
      let end = length w0.lines.items + 1
      + length (places plan r (length w0.lines.items + 1) first (without_label s.flow)) in
      let a = point_after plan first (without_label s.flow) in
      full w0.saved.items s (first_saved b) (onward (meet a (Some s)) [] (λ u. places plan r end rest u) ++ can.more)
      (λ u e. onward_covers plan r end rest can.more (meet a (Some s)) (λ v k. can.onward v k) u
      (ap (λ x. meet x (Some s)) (first_whole b).leads ∙ e) (met_labelled (way f w3) s u e))
      (room_after (when_fits b.forks can) w3 f (first_whole b))

-- ---- `if` with `else`

jump_labels : (line m n r pc : ℕ) (w : Option ProgramPoint)
    → unpriced_labels pc (onward w [] (alone line (Jump m) r))
    ≡ unpriced_labels pc (onward w [] (alone line (Jump n) r))
jump_labels line m n r pc None = refl
jump_labels line m n r pc (Some u) = refl

jump_count : (line m n r : ℕ) (w : Option ProgramPoint)
    → length (onward w [] (alone line (Jump m) r)) ≡ length (lines_of_placed (onward w [] (alone line (Jump n) r)))
jump_count line m n r None = refl
jump_count line m n r (Some u) = refl

aimed_jump : (line r jump end : ℕ) (w : Option ProgramPoint) (before ys code : List Line) → code ≡ before
    ++ (lines_of_placed (onward w [] (alone line (Jump 0) r)) ++ ys) → jump ≡ length before → length code ≡ end
    → aimed_at w line jump code ≡ before ++ (lines_of_placed (onward w [] (alone line (Jump end) r)) ++ ys)
aimed_jump line r jump end None before ys code e h k = e
aimed_jump line r jump end (Some u) before ys code e h k =
    cc (k, h, e, set-append_seam before (line_of_instr line (Jump 0)) ys (line_of_instr line (Jump end)))

module _ {plan : Plan} {r line at : ℕ} {c : Condition} {first : Block} {w0 w2 w3 w6 : Work} {f1 : Bool}
    (b : HasFirst plan r line c first w0 w2 w3 f1)
    (turned : StartsElse f1 line r c at w0.saved.items w0.now w3 w6) where
  -- the second branch starts at its pc
  else_start : length w6.lines.items ≡ length w0.lines.items + 1
      + length (places plan r (length w0.lines.items + 1) first (without_label w0.now.flow))
      + (if falls_out first then 1 else 0)
  else_start = rw (turned.lines, length-set (w3.lines.items ++ lines_of_placed (jumping f1 line r w3)) at _, jump_end b)

  module _ {second : Block} {w7 : Work} {f2 : Bool} (left2 : Left plan r second w6 w7 f2 nothing) where
    second_whole : Whole plan r (length w0.lines.items + 1
        + length (places plan r (length w0.lines.items + 1) first (without_label w0.now.flow))
        + (if falls_out first then 1 else 0)) second (at_label w0.now.flow) w6 w7 f2
    second_whole = whole_of plan r _ second (at_label w0.now.flow) w6 w7 f2 else_start turned.now left2

    pub second_saved : w7.saved.items ≡ w0.saved.items ++ points_of (way f1 w3)
    second_saved = left2.emits.saved ∙ turned.saved

    -- the branches agree, if the block is valid
    pub second_agrees : BranchesAgree (point_after plan first (without_label w0.now.flow))
        (point_after plan second (at_label w0.now.flow)) → BranchesAgree (way f1 w3) (way f2 w7)
    second_agrees agree = rw (← (first_whole b).leads) (rw (← second_whole.leads) agree)

    pub either_why : (rest : Block) (cause : Cause) → (cause ≡ Mismatch)
        × ((front : List ProgramPoint) (a : Option ProgramPoint) → f1 ≡ is_some a → w7.saved.items ≡ front
        ++ points_of a → BranchesAgree a (way f2 w7) → ⊥)
        → IsRefusedIn plan (either line c first second rest) w0.now line cause
    either_why rest cause h = inr (
      (first_whole b).judged,
      inr (
        second_whole.judged,
        inl ((λ agree. h.1 w0.saved.items (way f1 w3) (some_is f1 w3) second_saved (second_agrees agree)), refl, h.0),
      ),
    )

    pub left_either : (w8 : Work) (f : Bool) (jump : ℕ) (rest : Block) → r ≤ 8 → at ≡ length w0.lines.items
        → jump ≡ length w3.lines.items → IsAfterBranches (way f1 w3) (way f2 w7) w0.saved.items line jump w7 w8 f
        → Left plan r (either line c first second rest) w0 w8 f rest
    left_either w8 f jump rest deep at_is jump_is arriving =
        let pc = length w0.lines.items in
        let start_else = subst (λ n. StartsElse f1 line r c n w0.saved.items w0.now w3 w6) at_is turned in
        let arr = subst (λ n. IsAfterBranches (way f1 w3) (way f2 w7) w0.saved.items line n w7 w8 f) jump_is arriving in
        let h = first_whole b in
        let h2 = second_whole in
        let firsts = places plan r (pc + 1) first (without_label w0.now.flow) in
        let a = point_after plan first (without_label w0.now.flow) in
        let out = pc + 1 + length firsts in
        let start = out + (if falls_out first then 1 else 0) in
        let test = line_of_instr line (test_of c 0) in
        let there = line_of_instr line (test_of c start) in
        let seconds = places plan r start second (at_label w0.now.flow) in
        let z = point_after plan second (at_label w0.now.flow) in
        let end = start + length seconds in
        let jumps = onward a [] (alone line (Jump end) r) in
        let jumps0 = jumping f1 line r w3 in
        let code5 = w3.lines.items ++ lines_of_placed jumps0 in
        let code5' : code5 ≡ (w0.lines.items ++ test ∷ []) ++ (lines_of_placed firsts ++ lines_of_placed jumps0) = cc
        (first_lines b, append_assoc (w0.lines.items ++ test ∷ []) (lines_of_placed firsts) (lines_of_placed jumps0)) in
        let code6 : w6.lines.items ≡ w0.lines.items ++ there ∷ (lines_of_placed firsts ++ lines_of_placed jumps0) =
        start_else.lines ∙ ap (λ n. slice_set code5 pc (line_of_instr line (test_of c n))) (jump_end b)
        ∙ aimed w0.lines.items (lines_of_placed firsts ++ lines_of_placed jumps0) test there code5 code5' in
        let before = w0.lines.items ++ there ∷ lines_of_placed firsts in
        let at_jump : length w3.lines.items ≡ length before = let n =
        length-append w0.lines.items (there ∷ lines_of_placed firsts) in let q = length_lines firsts in
        omega (arith, n, q, first_end b) in
        let code7 : w7.lines.items ≡ before ++ (lines_of_placed jumps0 ++ lines_of_placed seconds) =
        h2.lines ∙ ap (λ xs. xs ++ lines_of_placed seconds)
        (code6 ∙ sym (append_assoc w0.lines.items (there ∷ lines_of_placed firsts) (lines_of_placed jumps0)))
        ∙ append_assoc before (lines_of_placed jumps0) (lines_of_placed seconds) in
        let more = jumps ++ seconds in
        let jumps_more : lines_of_placed more ≡ lines_of_placed (onward (way f1 w3) [] (alone line (Jump end) r)) ++
        lines_of_placed seconds = cc (lines_both jumps seconds, h.leads) in
        let code : w8.lines.items ≡ w0.lines.items ++ there ∷ lines_of_placed (firsts ++ more) =
        arr.lines ∙ aimed_jump line r (length w3.lines.items) end (way f1 w3) before (lines_of_placed seconds)
        w7.lines.items code7 at_jump (whole_length h2 else_start)
        ∙ ap (λ xs. before ++ xs) (sym jumps_more) ∙ append_assoc w0.lines.items (there ∷ lines_of_placed firsts)
        (lines_of_placed more) ∙ ap (λ xs. w0.lines.items ++ there ∷ xs) (sym (lines_both firsts more)) in
        let joff : unpriced_labels out jumps ≡ unpriced_labels (length w3.lines.items) jumps0 =
        cc (h.leads, jump_labels line end 0 r out (way f1 w3), first_end b) in
        let jcount : length jumps ≡ (if falls_out first then 1 else 0) =
        let n = jump_end b in let m = length-append w3.lines.items (lines_of_placed jumps0) in let e = first_end b in
        let k = ap (λ w. length (onward w [] (alone line (Jump end) r))) h.leads
        ∙ jump_count line end 0 r (way f1 w3) in omega (arith, n, m, e, k) in
        let l0 = unpriced_labels pc (alone line (test_of c 0) r w0.now) in
        let l1 = unpriced_labels (pc + 1) firsts in
        let l2 = unpriced_labels (length w3.lines.items) jumps0 in
        let l3 = unpriced_labels start seconds in
        let lab_more : unpriced_labels out more ≡ l2 ++ l3 = cc (marks_both out jumps seconds, joff, jcount) in
        let lab_all : unpriced_labels pc (placed_instr line (test_of c start) r w0.now ∷ (firsts ++ more)) ≡ l0
        ++ (l1 ++ (l2 ++ l3)) =
        marks_both pc (alone line (test_of c start) r w0.now) (firsts ++ more)
        ∙ ap (λ xs. l0 ++ xs) (marks_both (pc + 1) firsts more ∙ ap (λ xs. l1 ++ xs) lab_more) in
        let labels : w8.unpriced.items ≡ w0.unpriced.items
        ++ unpriced_labels pc (placed_instr line (test_of c start) r w0.now ∷ (firsts ++ more)) =
        arr.unpriced ∙ h2.unpriced ∙ ap (λ xs. xs ++ l3)
        (start_else.unpriced ∙ ap (λ xs. xs ++ l2) (h.unpriced ∙ ap (λ xs. xs ++ l1) b.forks.unpriced))
        ∙ append_assoc ((w0.unpriced.items ++ l0) ++ l1) l2 l3 ∙ append_assoc (w0.unpriced.items ++ l0) l1 (l2 ++ l3)
        ∙ append_assoc w0.unpriced.items l0 (l1 ++ (l2 ++ l3)) ∙ ap (λ xs. w0.unpriced.items ++ xs) (sym lab_all) in
        let joins = ap (λ w. join w z) h.leads ∙ ap (λ w. join (way f1 w3) w) h2.leads ∙ sym arr.leads in
        let agree : BranchesAgree a z = rw h.leads (rw h2.leads arr.agree) in
        let len8 : length w8.lines.items ≡ end =
        let n = ap length code in let m = length-append w0.lines.items (there ∷ lines_of_placed (firsts ++ more)) in
        let k = length_lines (firsts ++ more) in let q = length-append firsts more in let y =
        length-append jumps seconds in omega (arith, n, m, k, q, y, jcount) in
        let rests = onward (way f w8) [] (λ u. places plan r (length w8.lines.items) rest u) in
        let at_rests : onward (join a z) [] (λ u. places plan r end rest u) ≡ rests = cc (joins, len8) in
        record {
          emitted = placed_instr line (test_of c start) r w0.now ∷ (firsts ++ more);
          emits = record { lines = code; unpriced = labels; saved = arr.saved };
          whole = ap (λ xs. placed_instr line (test_of c start) r w0.now ∷ (firsts ++ (jumps ++ (seconds ++ xs))))
              at_rests ∙ ap (λ xs. placed_instr line (test_of c start) r w0.now ∷ (firsts ++ xs))
              (sym (append_assoc jumps seconds rests))
              ∙ ap (λ xs. placed_instr line (test_of c start) r w0.now ∷ xs) (sym (append_assoc firsts more rests));
          leads = ap (λ w. onward w None (λ u. point_after plan rest u)) joins;
          judged = λ j. (h.judged, h2.judged, agree, rw joins j);
          only = λ j. subst (λ w. Reached w rest (λ u. IsJudged plan rest u)) joins j.3;
          fails = λ at given j. inr (
            h.judged,
            inr (
              h2.judged,
              inr (
                agree,
                subst (λ w. IsRefusedAfter w rest (λ u. IsRefusedIn plan rest u at given) at given)
                    (sym joins) j,
              ),
            ),
          );
          repeats = λ n. let k = h.repeats deep in let k2 = h2.repeats deep in omega (arith, n, k, k2);
          fewer = omega arith;
        }

module _ {limit : CodeLimit} {plan : Plan} {r line : ℕ} (c : Condition) {first second rest : Block} {w0 : Work}
    (can : CanEmit limit plan r (either line c first second rest) w0) where
  abbrev Firsts : List PlacedInstr
  Firsts = places plan r (length w0.lines.items + 1) first (without_label w0.now.flow)

  abbrev Start : ℕ
  Start = length w0.lines.items + 1 + length Firsts + (if falls_out first then 1 else 0)

  abbrev Seconds : List PlacedInstr
  Seconds = places plan r Start second (at_label w0.now.flow)

  abbrev Stop : ℕ
  Stop = Start + length Seconds

  abbrev Away : Option ProgramPoint
  Away = point_after plan first (without_label w0.now.flow)

  abbrev Jumps : List PlacedInstr
  Jumps = onward Away [] (alone line (Jump Stop) r)

  abbrev Rests : List PlacedInstr
  Rests = onward (join Away (point_after plan second (at_label w0.now.flow))) [] (λ u. places plan r Stop rest u)

  abbrev More : List PlacedInstr
  More = Rests ++ can.more

  either_fits : {w2 : Work} → Forks line (test_of c 0) r w0 w2
      → Fits limit plan r (length w0.lines.items + 1) first (without_label w0.now.flow) w2 (Jumps ++ (Seconds ++ More))
  either_fits {w2} forks =
      let space : HasSpace limit w2 ((Firsts ++ (Jumps ++ (Seconds ++ Rests))) ++ can.more) =
      space_one limit w0 w2 (length w0.lines.items) line r (test_of c 0)
      (placed_instr line (test_of c Start) r w0.now) _ refl (fork_at forks) forks.unpriced can.space in
      let e : (Firsts ++ (Jumps ++ (Seconds ++ Rests))) ++ can.more ≡ Firsts ++ (Jumps ++ (Seconds ++ More)) =
      append_assoc Firsts (Jumps ++ (Seconds ++ Rests)) can.more
      ∙ ap (λ ps. Firsts ++ ps) (append_assoc Jumps (Seconds ++ Rests) can.more
      ∙ ap (λ ps. Jumps ++ ps) (append_assoc Seconds Rests can.more)) in
      record {
        judged = can.judged.0;
        deep = counters_less _ _ _ (omega arith) can.deep;
        onward = λ u e. jump_covers plan r Stop rest (Seconds ++ More) Away line (Jump Stop) r u e;
        space = subst (λ ps. HasSpace limit w2 ps) e space;
      }

  pub can_either_first : {w2 : Work} → Forks line (test_of c 0) r w0 w2 → CanEmit limit plan r first w2
  can_either_first forks = can_here (either_fits forks) (fork_at forks) forks.now

  second_covers : (u : ProgramPoint) → point_after plan second (at_label w0.now.flow) ≡ Some u → Covers u More
  second_covers u e = join_covers plan r Stop rest can.more Away (point_after plan second (at_label w0.now.flow))
      can.judged.2 (λ v h. can.onward v h) u e

  module _ {w2 w3 : Work} {f1 : Bool} (b : HasFirst plan r line c first w0 w2 w3 f1) where
    -- before the jump at the end of the first branch
    space_out : HasSpace limit w3 (onward (way f1 w3) [] (alone line (Jump Stop) r) ++ (Seconds ++ More))
    space_out = rw (← (first_whole b).leads) (room_after (either_fits b.forks) w3 f1 (first_whole b))

    pub can_either_turned :
        ((front : List ProgramPoint) (entry : ProgramPoint) → w3.saved.items ≡ front ++ entry ∷ []
        → (m n : ℕ) (i : Instr) (ps : List PlacedInstr)
        → HasSpace limit w3 (onward (way f1 w3) [] (alone m i n) ++ ps) → IsCovered entry.flow ps → ⊥) → ⊥
    can_either_turned full =
        full w0.saved.items w0.now (first_saved b) line r (Jump Stop) (Seconds ++ More) space_out
        (covers_block plan r Start second (at_label w0.now.flow) More second_covers refl)

    module _ {at : ℕ} {w6 : Work} (turned : StartsElse f1 line r c at w0.saved.items w0.now w3 w6) where
      second_fits : Fits limit plan r Start second (at_label w0.now.flow) w6 More
      second_fits =
          let jumps = lines_of_placed (jumping f1 line r w3) in
          let lines = ap length turned.lines ∙ length-set (w3.lines.items ++ jumps) at _
          ∙ length-append w3.lines.items jumps in
          record {
            judged = can.judged.1;
            deep = counters_less _ _ _ (omega arith) can.deep;
            onward = second_covers;
            space = space_left _ _ _ _ _ _ _ _ _ _ lines turned.unpriced space_out;
          }

      pub can_either_second : CanEmit limit plan r second w6
      can_either_second = can_here second_fits (else_start b turned) turned.now

      pub can_either_closed : {w7 : Work} {f2 : Bool} → Left plan r second w6 w7 f2 nothing →
          ((front : List ProgramPoint) (a : Option ProgramPoint) → f1 ≡ is_some a → w7.saved.items ≡ front
          ++ points_of a → (ps : List PlacedInstr)
          → ((u : ProgramPoint) → join a (way f2 w7) ≡ Some u → Covers u ps) → HasSpace limit w7 ps → ⊥) → ⊥
      can_either_closed {w7} {f2} left2 full =
          let z = point_after plan second (at_label w0.now.flow) in
          let h2 = second_whole b turned left2 in
          let joins = ap (λ w. join w z) (first_whole b).leads ∙ ap (λ w. join (way f1 w3) w) h2.leads in
          full w0.saved.items (way f1 w3) (some_is f1 w3) (second_saved b turned left2) More
          (λ u e. onward_covers plan r Stop rest can.more (join Away z) (λ v k. can.onward v k) u (joins ∙ e))
          (room_after second_fits w7 f2 h2)
