-- One step of emission.
use Rattle.script_compiler.proofs.Words.{[], ◌++◌, ◌∙◌, ◌∷◌, ◌≡◌, Emits, Err, Instr, List, Ok, OnOk, ProgramPoint}
use Rattle.script_compiler.proofs.Words.{Result, Work, alone, ap, append_cancel_left, arith, length, length-append}
use Rattle.script_compiler.proofs.Words.{line_of_instr, refl, sym, unpriced_labels, ℕ}

pub on_ok_map : {A E : Type 0} (x : Result A E) {P Q : Type 0} → (P → Q) → OnOk x P → OnOk x Q
on_ok_map (Ok a) m h = m h
on_ok_map (Err e) m h = h

pub put_lays : (line r : ℕ) (i : Instr) (w v u : Work) → v.lines ≡ w.lines → v.saved ≡ w.saved
    → v.unpriced.items ≡ w.unpriced.items ++ unpriced_labels (length w.lines.items) (alone line i r w.now)
    → u.saved ≡ v.saved → u.unpriced ≡ v.unpriced → u.lines.items ≡ v.lines.items ++ line_of_instr line i ∷ []
    → Emits w u (alone line i r w.now)
put_lays line r i w v u lines saved unpriced saved' marks' lines' = record {
  lines = lines' ∙ ap (λ x. x.items ++ line_of_instr line i ∷ []) lines;
  unpriced = ap (λ x. x.items) marks' ∙ unpriced;
  saved = ap (λ x. x.items) (saved' ∙ saved);
}

-- ---- the point saved last

pub snoc_front : (xs ys : List ProgramPoint) (x y : ProgramPoint) → xs ++ x ∷ [] ≡ ys ++ y ∷ [] → xs ≡ ys
snoc_front [] [] x y e = refl
snoc_front [] (b ∷ ys) x y e = absurd (let n = ap length e in let m = length-append ys (y ∷ []) in omega (arith, n, m))
snoc_front (a ∷ xs) [] x y e = absurd (let n = ap length e in let m = length-append xs (x ∷ []) in omega (arith, n, m))
snoc_front (a ∷ xs) (b ∷ ys) x y e =
    let h : a ≡ b = cc in let t : xs ++ x ∷ [] ≡ ys ++ y ∷ [] = cc in let ih = snoc_front xs ys x y t in
    ap (λ z. z ∷ xs) h ∙ ap (λ zs. b ∷ zs) ih

pub snoc_last : (xs ys : List ProgramPoint) (x y : ProgramPoint) → xs ++ x ∷ [] ≡ ys ++ y ∷ [] → x ≡ y
snoc_last xs ys x y e =
    let g : xs ++ x ∷ [] ≡ xs ++ y ∷ [] = e ∙ ap (λ zs. zs ++ y ∷ []) (sym (snoc_front xs ys x y e)) in
    let h : x ∷ [] ≡ y ∷ [] = append_cancel_left xs (x ∷ []) (y ∷ []) g in cc
