-- The code that the compiler emits, step by step, is the code of the block.
use Rattle.script_compiler.proofs.Words.{[], ◌++◌, ◌+◌, ◌∙◌, ◌∷◌, ◌≡◌, ◌≤◌, Act, Block, Bool, Emits, IsFine, IsJudged}
use Rattle.script_compiler.proofs.Words.{IsRefusedIn, Jump, Left, Line, List, None, Option, PlacedInstr, Plan}
use Rattle.script_compiler.proofs.Words.{ProgramPoint, Reached, Some, Work, after_instr, alone, ap, append-nil}
use Rattle.script_compiler.proofs.Words.{append_assoc, apply, arith, basic, false, if◌then◌else◌, inr, instr_of_act}
use Rattle.script_compiler.proofs.Words.{is_some, known_at, length, length-append, line_of_instr, lines_of_placed}
use Rattle.script_compiler.proofs.Words.{nested, nothing, onward, placed_instr, places, point_after, refl}
use Rattle.script_compiler.proofs.Words.{set-append_seam, slice_set, subst, sym, true, unpriced_label, unpriced_labels}
use Rattle.script_compiler.proofs.Words.{way, without_label, ℕ}

-- ---- concatenation

pub lines_both : (ps qs : List PlacedInstr) → lines_of_placed (ps ++ qs) ≡ lines_of_placed ps ++ lines_of_placed qs
lines_both [] qs = refl
lines_both (p ∷ ps) qs = ap (λ xs. line_of_instr p.line p.instr ∷ xs) (lines_both ps qs)

pub length_lines : (ps : List PlacedInstr) → length (lines_of_placed ps) ≡ length ps
length_lines [] = refl
length_lines (p ∷ ps) = omega (arith, length_lines ps)

pub marks_both : (pc : ℕ) (ps qs : List PlacedInstr) → unpriced_labels pc (ps ++ qs) ≡ unpriced_labels pc ps
    ++ unpriced_labels (pc + length ps) qs
marks_both pc [] qs = let e : pc ≡ pc + 0 = omega arith in ap (λ n. unpriced_labels n qs) e
marks_both pc (p ∷ ps) qs = by p.point.labelled (marks_both (pc + 1) ps qs
    ∙ ap (λ n. unpriced_labels (pc + 1) ps ++ unpriced_labels n qs) point_here)
  where
    point_here : pc + 1 + length ps ≡ pc + length (p ∷ ps)
    point_here = omega arith

    by : (b : Bool) → unpriced_labels (pc + 1) (ps ++ qs) ≡ unpriced_labels (pc + 1) ps
        ++ unpriced_labels (pc + length (p ∷ ps)) qs →
        (if b then unpriced_label pc p ∷ unpriced_labels (pc + 1) (ps ++ qs) else unpriced_labels (pc + 1) (ps ++ qs))
        ≡ (if b then unpriced_label pc p ∷ unpriced_labels (pc + 1) ps else unpriced_labels (pc + 1) ps)
        ++ unpriced_labels (pc + length (p ∷ ps)) qs
    by true e = ap (λ xs. unpriced_label pc p ∷ xs) e
    by false e = e

pub laid_length : (a b : Work) (ps : List PlacedInstr) → Emits a b ps
    → length b.lines.items ≡ length a.lines.items + length ps
laid_length a b ps l = cc (l.lines, length-append a.lines.items (lines_of_placed ps), length_lines ps)

pub lays_both : (a b c : Work) (ps qs : List PlacedInstr) → Emits a b ps → Emits b c qs → Emits a c (ps ++ qs)
lays_both a b c ps qs h k = record {
  lines = k.lines ∙ ap (λ xs. xs ++ lines_of_placed qs) h.lines
      ∙ append_assoc a.lines.items (lines_of_placed ps) (lines_of_placed qs)
      ∙ ap (λ xs. a.lines.items ++ xs) (sym (lines_both ps qs));
  unpriced = k.unpriced ∙ ap (λ xs. xs ++ unpriced_labels (length b.lines.items) qs) h.unpriced
      ∙ append_assoc a.unpriced.items (unpriced_labels (length a.lines.items) ps)
      (unpriced_labels (length b.lines.items) qs)
      ∙ ap (λ n. a.unpriced.items ++ (unpriced_labels (length a.lines.items) ps ++ unpriced_labels n qs))
      (laid_length a b ps h) ∙ ap (λ xs. a.unpriced.items ++ xs) (sym (marks_both (length a.lines.items) ps qs));
  saved = k.saved ∙ h.saved;
}

-- ---- one step after another

pub left_start : (plan : Plan) (r : ℕ) (b : Block) (w : Work) → Left plan r b w w true b
left_start plan r b w = record {
  emitted = [];
  emits = record { lines = sym (append-nil w.lines.items); unpriced = sym (append-nil w.unpriced.items); saved = refl };
  whole = refl;
  leads = refl;
  judged = λ h. h;
  only = λ h. h;
  fails = λ at given h. h;
  repeats = λ h. h;
  fewer = omega arith;
}

pub left_then : (plan : Plan) (r : ℕ) (b c d : Block) (u v w : Work) (f : Bool) → Left plan r b u v true c
    → Left plan r c v w f d → Left plan r b u w f d
left_then plan r b c d u v w f h k = record {
  emitted = h.emitted ++ k.emitted;
  emits = lays_both u v w h.emitted k.emitted h.emits k.emits;
  whole = h.whole ∙ ap (λ xs. h.emitted ++ xs) k.whole ∙ sym (append_assoc h.emitted k.emitted _);
  leads = h.leads ∙ k.leads;
  judged = λ j. h.judged (k.judged j);
  only = λ j. k.only (h.only j);
  fails = λ at given j. h.fails at given (k.fails at given j);
  repeats = λ n. h.repeats (k.repeats n);
  fewer = omega (arith, h.fewer, k.fewer);
}

-- ---- statements

pub left_act : (plan : Plan) (r line : ℕ) (a : Act) (rest : Block) (v w : Work)
    → Emits v w (alone line (instr_of_act a) r v.now) → w.now
    ≡ without_label (after_instr plan (instr_of_act a) v.now.flow) → IsFine plan (instr_of_act a) (known_at v.now.flow)
    → Left plan r (basic line a rest) v w true rest
left_act plan r line a rest v w l e fine =
    let at : length w.lines.items ≡ length v.lines.items + 1 = laid_length v w _ l in
    record {
      emitted = alone line (instr_of_act a) r v.now;
      emits = l;
      whole = ap (λ n. placed_instr line (instr_of_act a) r v.now
          ∷ places plan r n rest (without_label (after_instr plan (instr_of_act a) v.now.flow))) (sym at)
          ∙ ap (λ s. placed_instr line (instr_of_act a) r v.now ∷ places plan r (length w.lines.items) rest s) (sym e);
      leads = ap (λ s. point_after plan rest s) (sym e);
      judged = λ j. (fine, subst (λ s. IsJudged plan rest s) e j);
      only = λ j. subst (λ s. IsJudged plan rest s) (sym e) j.1;
      fails = λ at given j. inr (fine, subst (λ s. IsRefusedIn plan rest s at given) e j);
      repeats = λ h. h;
      fewer = omega arith;
    }

-- ---- a block that has been compiled whole

pub record Whole (plan : Plan) (r pc : ℕ) (b : Block) (s : ProgramPoint) (old new : Work) (f : Bool) : Type 0 where
  pub lines : new.lines.items ≡ old.lines.items ++ lines_of_placed (places plan r pc b s)
  pub unpriced : new.unpriced.items ≡ old.unpriced.items ++ unpriced_labels pc (places plan r pc b s)
  pub saved : new.saved.items ≡ old.saved.items
  pub leads : point_after plan b s ≡ way f new
  pub judged : IsJudged plan b s
  pub repeats : r ≤ 8 → r + nested b ≤ 8

nothing_more : (w : Option ProgramPoint) → onward w None (λ u. Some u) ≡ w
nothing_more None = refl
nothing_more (Some s) = refl

no_more : {A : Type 0} (w : Option ProgramPoint) → onward {A = List A} w [] (λ u. []) ≡ []
no_more None = refl
no_more (Some s) = refl

none_reached : (w : Option ProgramPoint) → Reached w nothing (λ u. Unit {0})
none_reached None = tt
none_reached (Some s) = tt

whole_here : (plan : Plan) (r : ℕ) (b : Block) (v w : Work) (f : Bool) → Left plan r b v w f nothing
    → Whole plan r (length v.lines.items) b v.now v w f
whole_here plan r b v w f l =
    let e = l.whole ∙ ap (λ xs. l.emitted ++ xs) (no_more (way f w)) ∙ append-nil l.emitted in
    record {
      lines = l.emits.lines ∙ ap (λ ps. v.lines.items ++ lines_of_placed ps) (sym e);
      unpriced = l.emits.unpriced ∙ ap (λ ps. v.unpriced.items ++ unpriced_labels (length v.lines.items) ps) (sym e);
      saved = l.emits.saved;
      leads = l.leads ∙ nothing_more (way f w);
      judged = l.judged (none_reached (way f w));
      repeats = λ h. l.repeats (omega (arith, h));
    }

pub whole_of : (plan : Plan) (r pc : ℕ) (b : Block) (s : ProgramPoint) (v w : Work) (f : Bool)
    → length v.lines.items ≡ pc → v.now ≡ s → Left plan r b v w f nothing → Whole plan r pc b s v w f
whole_of plan r pc b s v w f e h l = rw (← h) (rw (← e) (whole_here plan r b v w f l))

module _ {plan : Plan} {r pc : ℕ} {b : Block} {s : ProgramPoint} {v w : Work} {f : Bool}
    (h : Whole plan r pc b s v w f) where
  pub whole_length : {n : ℕ} → length v.lines.items ≡ n → length w.lines.items ≡ n + length (places plan r pc b s)
  whole_length at =
      let m = length-append v.lines.items (lines_of_placed (places plan r pc b s)) in
      omega (arith, ap length h.lines, m, length_lines (places plan r pc b s), at)

pub some_is : (g : Bool) (w : Work) → g ≡ is_some (way g w)
some_is true w = refl
some_is false w = refl

-- an emitted line is overwritten
pub aimed : (xs ys : List Line) (i j : Line) (zs : List Line) → zs ≡ (xs ++ i ∷ []) ++ ys
    → slice_set zs (length xs) j ≡ xs ++ j ∷ ys
aimed xs ys i j zs e = ap (λ z. slice_set z (length xs) j) (e ∙ append_assoc xs (i ∷ []) ys) ∙ set-append_seam xs i ys j

-- ---- the jump at the end of a branch

pub jump_length : (line to r : ℕ) (w : Option ProgramPoint) (f : Bool) → is_some w ≡ f
    → length (lines_of_placed (onward w [] (alone line (Jump to) r))) ≡ (if f then 1 else 0)
jump_length line to r None f e = ap (λ b. if b then 1 else 0) e
jump_length line to r (Some u) f e = ap (λ b. if b then 1 else 0) e

-- ---- an applied block

pub left_apply : (plan : Plan) (r line number : ℕ) (named rest : Block) (v w : Work) (f : Bool) → r ≤ 8
    → Left plan r named v w f nothing → Left plan r (apply line number named rest) v w f rest
left_apply plan r line number named rest v w f deep left =
    let pc = length v.lines.items in
    let h = whole_here plan r named v w f left in
    let names = places plan r pc named v.now in
    let emits : Emits v w names = record { lines = h.lines; unpriced = h.unpriced; saved = h.saved } in
    record {
      emitted = names;
      emits = emits;
      whole = ap (λ x. names ++ onward x [] (λ u. places plan r (pc + length names) rest u)) h.leads
          ∙ ap (λ m. names ++ onward (way f w) [] (λ u. places plan r m rest u)) (sym (laid_length v w names emits));
      leads = ap (λ x. onward x None (λ u. point_after plan rest u)) h.leads;
      judged = λ j. (h.judged, subst (λ x. Reached x rest (λ u. IsJudged plan rest u)) (sym h.leads) j);
      only = λ j. subst (λ x. Reached x rest (λ u. IsJudged plan rest u)) h.leads j.1;
      fails = λ at given j. inr (h.judged, rw h.leads j);
      repeats = λ m. let k = h.repeats deep in omega (arith, m, k);
      fewer = omega arith;
    }
