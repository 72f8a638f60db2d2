-- A check of a stream prints one log, and ends in one way.
use Rattle.stream_monitor.proofs.Words.{[], ◌++◌, ◌<◌, ◌∙◌, ◌∷◌, ◌≡◌, ◌≤◌, ◌⊎◌, AllByRecursion, AreFramedAlike, AreSame}
use Rattle.stream_monitor.proofs.Words.{CheckOptions, Ending, EndsFrame, Fib, GoesOn, HasFibSize, IsFramed, IsTooLong}
use Rattle.stream_monitor.proofs.Words.{Line, List, OneOutcome, Reading, StopsAtEnd, StopsWithFib, ap, append_assoc}
use Rattle.stream_monitor.proofs.Words.{arith, concat, false≢true, fib_count, frames_lines, front_framing, inl, inr}
use Rattle.stream_monitor.proofs.Words.{is_full, is_stopped, length, length-append, length-map, map, map-append, most}
use Rattle.stream_monitor.proofs.Words.{refl, subst, sym, totals_after, true, ℕ}
use Rattle.stream_monitor.specs.declared.ending.Ending.TheVariants as endings
use Rattle.stream_monitor.specs.declared.line.Cause.TheVariants as causes
use Rattle.stream_monitor.proofs.Framings.{one_framing}
use Rattle.stream_monitor.proofs.Fronts.{full_before, stopped_before, not_long}

-- ---- the FIBs of bytes

pub record AreLeft (one other p q : List ℕ) : Type 0 where
  pub same : one ≡ other
  pub rest : p ≡ q

pub take_front : (n : ℕ) (a b p q : List ℕ) → length a ≡ n → length b ≡ n → a ++ p ≡ b ++ q → AreLeft a b p q
take_front n [] [] p q la lb e = record { same = refl; rest = e }
take_front n [] (y ∷ b) p q la lb e = absurd (omega (arith, la, lb))
take_front n (x ∷ a) [] p q la lb e = absurd (omega (arith, la, lb))
take_front n (x ∷ a) (y ∷ b) p q la lb e =
    let rest = take_front (length b) a b p q (omega (arith, la, lb)) refl (tails x y (a ++ p) (b ++ q) e) in
    record { same = ap (λ h. h ∷ a) (heads x y (a ++ p) (b ++ q) e) ∙ ap (λ t. y ∷ t) rest.same; rest = rest.rest }
  where
    heads : (x y : ℕ) (xs ys : List ℕ) → x ∷ xs ≡ y ∷ ys → x ≡ y
    heads x y xs ys h = cc

    tails : (x y : ℕ) (xs ys : List ℕ) → x ∷ xs ≡ y ∷ ys → xs ≡ ys
    tails x y xs ys h = cc

-- the same FIBs; or one has more of them
pub data Compared (xs ys : List (List ℕ)) (p q : List ℕ) : Type 0 where
  Equal : xs ≡ ys → p ≡ q → Compared xs ys p q
  Longer : (z : List ℕ) (zs : List (List ℕ)) → ys ≡ xs ++ z ∷ zs → p ≡ z ++ (concat zs ++ q) → HasFibSize z
      → Compared xs ys p q
  Shorter : (z : List ℕ) (zs : List (List ℕ)) → xs ≡ ys ++ z ∷ zs → q ≡ z ++ (concat zs ++ p) → HasFibSize z
      → Compared xs ys p q

pub compare_fibs : (xs ys : List (List ℕ)) (p q : List ℕ) → AllByRecursion HasFibSize xs → AllByRecursion HasFibSize ys
    → concat xs ++ p ≡ concat ys ++ q → Compared xs ys p q
compare_fibs [] [] p q a b e = Equal refl e
compare_fibs [] (y ∷ ys) p q a b e = Longer y ys refl (e ∙ append_assoc y (concat ys) q) b.0
compare_fibs (x ∷ xs) [] p q a b e = Shorter x xs refl (sym e ∙ append_assoc x (concat xs) p) a.0
compare_fibs (x ∷ xs) (y ∷ ys) p q a b e =
    let one = take_front _ _ _ _ _ a.0 b.0 (sym (append_assoc x (concat xs) p) ∙ e ∙ append_assoc y (concat ys) q) in
    grown (compare_fibs xs ys p q a.1 b.1 one.rest) one.same
  where
    grown : Compared xs ys p q → x ≡ y → Compared (x ∷ xs) (y ∷ ys) p q
    grown (Equal s t) h = Equal (ap (λ l. x ∷ l) s ∙ ap (λ f. f ∷ ys) h) t
    grown (Longer z zs s t k) h = Longer z zs (ap (λ l. y ∷ l) s ∙ ap (λ f. f ∷ (xs ++ z ∷ zs)) (sym h)) t k
    grown (Shorter z zs s t k) h = Shorter z zs (ap (λ l. x ∷ l) s ∙ ap (λ f. f ∷ (ys ++ z ∷ zs)) h) t k

-- ---- a check that ends with a FIB goes on behind it in no case

few_fibs : (fibs : List (List ℕ)) → AllByRecursion HasFibSize fibs → length fibs ≤ length (concat fibs)
few_fibs [] all = omega arith
few_fibs (x ∷ xs) all = let rest = few_fibs xs all.1 in let len = length-append x (concat xs) in
    omega (arith, rest, len, all.0)

pub short_enough : (r : Reading) (o : CheckOptions) (fibs : List (List ℕ)) (log : List Line) (g : GoesOn r o fibs log)
    → length (concat fibs) < most → IsTooLong g.skipped g.frames → ⊥
short_enough r o fibs log g short long =
    let few = few_fibs fibs g.sizes in
    let len = length-map fibs r.read in
    not_long (fib_count o.mode) (map r.read fibs) g.skipped g.frames g.rest g.framed (omega (arith, few, len, short))
    long

ends_there : (r : Reading) (o : CheckOptions) (fibs : List (List ℕ)) (fib : List ℕ) (log other : List Line)
    (zs : List (List ℕ)) (skipped : List Fib) (frames : List (List Fib))
    → EndsFrame r o fibs fib log skipped frames → (is_full o frames ≡ true) ⊎ (is_stopped o frames ≡ true)
    → GoesOn r o (fibs ++ fib ∷ zs) other → ⊥
ends_there r o fibs fib log other zs skipped frames e why g =
    let whole = ap (map r.read) (sym (append_assoc fibs (fib ∷ []) zs)) ∙ map-append r.read (fibs ++ fib ∷ []) zs in
    let framed = subst (λ (l : List Fib). IsFramed (fib_count o.mode) l g.skipped g.frames g.rest) whole g.framed in
    let more = front_framing _ _ _ _ _ _ _ _ _ e.framed framed in
    elim why [
      | inl full ↦ false≢true (sym (full_before o frames more.0 (ap (is_full o) (sym more.1) ∙ g.room)) ∙ full)
      | inr stops ↦ false≢true (sym (stopped_before o frames more.0 (ap (is_stopped o) (sym more.1) ∙ g.no_fault))
          ∙ stops)
    ]

pub stopped_not : (r : Reading) (o : CheckOptions) (fibs : List (List ℕ)) (fib : List ℕ) (log other : List Line)
    (zs : List (List ℕ)) (e : Ending) → length (concat fibs) < most
    → StopsWithFib r o fibs fib log e → GoesOn r o (fibs ++ fib ∷ zs) other → ⊥
stopped_not r o fibs fib log other zs (endings.Counted totals) short h g = ends_there _ _ _ _ _ _ _ _ _ h.2 (inr h.4) g
stopped_not r o fibs fib log other zs (endings.Refused causes.Full) short h g =
    ends_there r o fibs fib log other zs h.0 h.1 h.2 (inl h.3) g
stopped_not r o fibs fib log other zs (endings.Refused causes.TooLong) short h g =
    short_enough r o fibs log h.0 short h.2
stopped_not r o fibs fib log other zs _ short h g = h

-- ---- the parts of an outcome

pub goes_at_end : (r : Reading) (o : CheckOptions) (fibs : List (List ℕ)) (part : List ℕ) (log : List Line) (e : Ending)
    → StopsAtEnd r o fibs part log e → GoesOn r o fibs log × (length part < 32)
goes_at_end r o fibs part log (endings.Counted totals) h = let len = ap length h.1 in (h.0, omega (arith, len))
goes_at_end r o fibs part log (endings.Refused causes.NotWhole) h = (h.0, h.2)
goes_at_end r o fibs part log (endings.Refused causes.NoEnsemble) h = let len = ap length h.1 in
    (h.0, omega (arith, len))
goes_at_end r o fibs part log _ h = absurd h

pub goes_before : (r : Reading) (o : CheckOptions) (fibs : List (List ℕ)) (fib : List ℕ) (log : List Line) (e : Ending)
    → StopsWithFib r o fibs fib log e → (so_far : List Line) × GoesOn r o fibs so_far × HasFibSize fib
goes_before r o fibs fib log (endings.Counted totals) h = (h.2.log_before, h.2.before, h.2.size)
goes_before r o fibs fib log (endings.Refused causes.Full) h = (h.2.log_before, h.2.before, h.2.size)
goes_before r o fibs fib log (endings.Refused causes.TooLong) h = (log, h.0, h.1)
goes_before r o fibs fib log (endings.Refused causes.NotWhole) h = absurd h
goes_before r o fibs fib log (endings.Refused causes.NoEnsemble) h = absurd h

-- ---- two outcomes of the same FIBs

alike : (r : Reading) (o : CheckOptions) (fibs : List (List ℕ)) (log other : List Line) (g : GoesOn r o fibs log)
    (h : GoesOn r o fibs other) → AreFramedAlike g.skipped h.skipped g.frames h.frames g.rest h.rest
alike r o fibs log other g h = one_framing _ _ _ _ _ _ _ _ g.framed h.framed

same_text : (o : CheckOptions) (s t : List Fib) (f g : List (List Fib)) → s ≡ t → f ≡ g
    → frames_lines o s [] f ≡ frames_lines o t [] g
same_text o s t f g a b = ap (λ x. frames_lines o x [] f) a ∙ ap (frames_lines o t []) b

same_totals : (o : CheckOptions) (s t : List Fib) (f g : List (List Fib)) (p q : List Fib) → s ≡ t → f ≡ g → p ≡ q
    → totals_after o s f p ≡ totals_after o t g q
same_totals o s t f g p q a b c = cc (a, b, c)

texts_are : (r : Reading) (o : CheckOptions) (fibs : List (List ℕ)) (log other : List Line) → GoesOn r o fibs log
    → GoesOn r o fibs other → log ≡ other
texts_are r o fibs log other g h = let a = alike r o fibs log other g h in
    g.lines ∙ same_text o g.skipped h.skipped g.frames h.frames a.skips a.frames_are ∙ sym h.lines

ends_alike : (r : Reading) (o : CheckOptions) (fibs : List (List ℕ)) (part : List ℕ) (log other : List Line)
    (e d : Ending) → StopsAtEnd r o fibs part log e → StopsAtEnd r o fibs part other d → AreSame log other e d
ends_alike r o fibs part log other (endings.Counted t) (endings.Counted u) g h =
    let a = alike r o fibs log other g.0 h.0 in
    record {
      logs = texts_are r o fibs log other g.0 h.0;
      endings = ap (λ x. endings.Counted x)
          (g.3 ∙ same_totals o g.0.skipped h.0.skipped g.0.frames h.0.frames g.0.rest h.0.rest a.skips a.frames_are
          a.rests ∙ sym h.3);
    }
ends_alike r o fibs part log other (endings.Counted t) (endings.Refused causes.Full) g h = absurd h
ends_alike r o fibs part log other (endings.Counted t) (endings.Refused causes.TooLong) g h = absurd h
ends_alike r o fibs part log other (endings.Counted t) (endings.Refused causes.NotWhole) g h = let len =
    ap length g.1 in absurd (omega (arith, len, h.1))
ends_alike r o fibs part log other (endings.Counted t) (endings.Refused causes.NoEnsemble) g h = absurd (g.2 h.2)
ends_alike r o fibs part log other (endings.Refused causes.Full) d g h = absurd g
ends_alike r o fibs part log other (endings.Refused causes.TooLong) d g h = absurd g
ends_alike r o fibs part log other (endings.Refused causes.NotWhole) (endings.Counted u) g h = let len =
    ap length h.1 in absurd (omega (arith, len, g.1))
ends_alike r o fibs part log other (endings.Refused causes.NotWhole) (endings.Refused causes.Full) g h = absurd h
ends_alike r o fibs part log other (endings.Refused causes.NotWhole) (endings.Refused causes.TooLong) g h = absurd h
ends_alike r o fibs part log other (endings.Refused causes.NotWhole) (endings.Refused causes.NotWhole) g h =
    record { logs = texts_are r o fibs log other g.0 h.0; endings = refl }
ends_alike r o fibs part log other (endings.Refused causes.NotWhole) (endings.Refused causes.NoEnsemble) g h = let len =
    ap length h.1 in absurd (omega (arith, len, g.1))
ends_alike r o fibs part log other (endings.Refused causes.NoEnsemble) (endings.Counted u) g h = absurd (h.2 g.2)
ends_alike r o fibs part log other (endings.Refused causes.NoEnsemble) (endings.Refused causes.Full) g h = absurd h
ends_alike r o fibs part log other (endings.Refused causes.NoEnsemble) (endings.Refused causes.TooLong) g h = absurd h
ends_alike r o fibs part log other (endings.Refused causes.NoEnsemble) (endings.Refused causes.NotWhole) g h = let len =
    ap length g.1 in absurd (omega (arith, len, h.1))
ends_alike r o fibs part log other (endings.Refused causes.NoEnsemble) (endings.Refused causes.NoEnsemble) g h =
    record { logs = texts_are r o fibs log other g.0 h.0; endings = refl }

-- with the same FIB
frames_alike : (r : Reading) (o : CheckOptions) (fibs : List (List ℕ)) (fib : List ℕ) (log other : List Line)
    (s t : List Fib) (f g : List (List Fib)) (a : EndsFrame r o fibs fib log s f) (b : EndsFrame r o fibs fib other t g)
    → AreFramedAlike s t f g a.rest b.rest
frames_alike r o fibs fib log other s t f g a b = one_framing _ _ _ _ _ _ _ _ a.framed b.framed

frame_texts : (r : Reading) (o : CheckOptions) (fibs : List (List ℕ)) (fib : List ℕ) (log other : List Line)
    (s t : List Fib) (f g : List (List Fib)) → EndsFrame r o fibs fib log s f → EndsFrame r o fibs fib other t g
    → log ≡ other
frame_texts r o fibs fib log other s t f g a b = let same = frames_alike r o fibs fib log other s t f g a b in
    a.lines ∙ same_text o s t f g same.skips same.frames_are ∙ sym b.lines

stops_alike : (r : Reading) (o : CheckOptions) (fibs : List (List ℕ)) (fib : List ℕ) (log other : List Line)
    (e d : Ending) → length (concat fibs) < most → StopsWithFib r o fibs fib log e → StopsWithFib r o fibs fib other d
    → AreSame log other e d
stops_alike r o fibs fib log other (endings.Counted t) (endings.Counted u) short g h =
    let a = frames_alike r o fibs fib log other g.0 h.0 g.1 h.1 g.2 h.2 in
    record {
      logs = frame_texts r o fibs fib log other g.0 h.0 g.1 h.1 g.2 h.2;
      endings = ap (λ x. endings.Counted x) (g.5 ∙ same_totals o g.0 h.0 g.1 h.1 [] [] a.skips a.frames_are refl
          ∙ sym h.5);
    }
stops_alike r o fibs fib log other (endings.Counted t) (endings.Refused causes.Full) short g h =
    let a = frames_alike r o fibs fib log other g.0 h.0 g.1 h.1 g.2 h.2 in
    absurd (false≢true (sym g.3 ∙ ap (is_full o) a.frames_are ∙ h.3))
stops_alike r o fibs fib log other (endings.Counted t) (endings.Refused causes.TooLong) short g h =
    absurd (short_enough r o fibs other h.0 short h.2)
stops_alike r o fibs fib log other (endings.Counted t) (endings.Refused causes.NotWhole) short g h = absurd h
stops_alike r o fibs fib log other (endings.Counted t) (endings.Refused causes.NoEnsemble) short g h = absurd h
stops_alike r o fibs fib log other (endings.Refused causes.Full) (endings.Counted u) short g h =
    let a = frames_alike r o fibs fib log other g.0 h.0 g.1 h.1 g.2 h.2 in
    absurd (false≢true (sym h.3 ∙ ap (is_full o) (sym a.frames_are) ∙ g.3))
stops_alike r o fibs fib log other (endings.Refused causes.Full) (endings.Refused causes.Full) short g h =
    record { logs = frame_texts r o fibs fib log other g.0 h.0 g.1 h.1 g.2 h.2; endings = refl }
stops_alike r o fibs fib log other (endings.Refused causes.Full) (endings.Refused causes.TooLong) short g h =
    absurd (short_enough r o fibs other h.0 short h.2)
stops_alike r o fibs fib log other (endings.Refused causes.Full) (endings.Refused causes.NotWhole) short g h = absurd h
stops_alike r o fibs fib log other (endings.Refused causes.Full) (endings.Refused causes.NoEnsemble) short g h =
    absurd h
stops_alike r o fibs fib log other (endings.Refused causes.TooLong) d short g h =
    absurd (short_enough r o fibs log g.0 short g.2)
stops_alike r o fibs fib log other (endings.Refused causes.NotWhole) d short g h = absurd g
stops_alike r o fibs fib log other (endings.Refused causes.NoEnsemble) d short g h = absurd g

-- ---- two outcomes of one stream

pub front_short : (stream front rest : List ℕ) → stream ≡ front ++ rest → length stream < most → length front < most
front_short stream front rest e short = let len = ap length e ∙ length-append front rest in omega (arith, len, short)

-- one at the end, the other with a FIB before it
end_and_fib : (r : Reading) (o : CheckOptions) (fibs others : List (List ℕ)) (part fib more : List ℕ)
    (log other : List Line) (e d : Ending) → length (concat others) < most → concat fibs ++ part ≡ concat others
    ++ (fib ++ more)
    → StopsAtEnd r o fibs part log e → StopsWithFib r o others fib other d → ⊥
end_and_fib r o fibs others part fib more log other e d short same a b =
    let y = goes_before r o others fib other d b in
    chosen (compare_fibs fibs others part (fib ++ more) (goes_at_end r o fibs part log e a).0.sizes y.1.sizes same)
  where
    chosen : Compared fibs others part (fib ++ more) → ⊥
    chosen (Equal s t) =
        let few = (goes_at_end r o fibs part log e a).1 in
        let size = (goes_before r o others fib other d b).2 in
        let len = ap length t ∙ length-append fib more in
        absurd (omega (arith, few, size, len))
    chosen (Longer z zs s t size) =
        let len = ap length t ∙ length-append z (concat zs ++ (fib ++ more)) in
        absurd (omega (arith, (goes_at_end r o fibs part log e a).1, size, len))
    chosen (Shorter z zs s t size) =
        let front = take_front 32 fib z more (concat zs ++ part) (goes_before r o others fib other d b).2 size t in
        let goes = subst (λ (l : List (List ℕ)). GoesOn r o l log) (s ∙ ap (λ f. others ++ f ∷ zs) (sym front.same))
        (goes_at_end r o fibs part log e a).0 in
        stopped_not r o others fib other log zs d short b goes

fib_and_fib : (r : Reading) (o : CheckOptions) (fibs others : List (List ℕ)) (fib more last rest : List ℕ)
    (log other : List Line) (e d : Ending) → length (concat fibs) < most → length (concat others) < most
    → concat fibs ++ (fib ++ more) ≡ concat others ++ (last ++ rest) → StopsWithFib r o fibs fib log e
    → StopsWithFib r o others last other d → AreSame log other e d
fib_and_fib r o fibs others fib more last rest log other e d short few same a b =
    chosen (compare_fibs fibs others (fib ++ more) (last ++ rest) (goes_before r o fibs fib log e a).1.sizes
    (goes_before r o others last other d b).1.sizes same)
  where
    chosen : Compared fibs others (fib ++ more) (last ++ rest) → AreSame log other e d
    chosen (Equal s t) =
        let front = take_front _ _ _ _ _ (goes_before _ _ _ _ _ _ a).2 (goes_before _ _ _ _ _ _ b).2 t in
        let moved = subst (λ (l : List (List ℕ)). StopsWithFib r o l last other d) (sym s) b in
        stops_alike r o fibs fib log other e d short a
        (subst (λ (l : List ℕ). StopsWithFib r o fibs l other d) (sym front.same) moved)
    chosen (Longer z zs s t size) =
        let front = take_front _ _ _ _ _ (goes_before _ _ _ _ _ _ a).2 size t in
        let y = goes_before r o others last other d b in
        absurd (stopped_not r o fibs fib log y.0 zs e short a
        (subst (λ (l : List (List ℕ)). GoesOn r o l y.0) (s ∙ ap (λ f. fibs ++ f ∷ zs) (sym front.same)) y.1))
    chosen (Shorter z zs s t size) =
        let front = take_front _ _ _ _ _ (goes_before _ _ _ _ _ _ b).2 size t in
        let y = goes_before r o fibs fib log e a in
        absurd (stopped_not r o others last other y.0 zs d few b
        (subst (λ (l : List (List ℕ)). GoesOn r o l y.0) (s ∙ ap (λ f. others ++ f ∷ zs) (sym front.same)) y.1))

end_and_end : (r : Reading) (o : CheckOptions) (fibs others : List (List ℕ)) (part last : List ℕ)
    (log other : List Line) (e d : Ending) → concat fibs ++ part ≡ concat others ++ last
    → StopsAtEnd r o fibs part log e → StopsAtEnd r o others last other d → AreSame log other e d
end_and_end r o fibs others part last log other e d same a b =
    chosen (compare_fibs fibs others part last (goes_at_end r o fibs part log e a).0.sizes
    (goes_at_end r o others last other d b).0.sizes same)
  where
    chosen : Compared fibs others part last → AreSame log other e d
    chosen (Equal s t) =
        let moved = subst (λ (l : List (List ℕ)). StopsAtEnd r o l last other d) (sym s) b in
        ends_alike r o fibs part log other e d a (subst (λ (l : List ℕ). StopsAtEnd r o fibs l other d) (sym t) moved)
    chosen (Longer z zs s t size) =
        let few = (goes_at_end r o fibs part log e a).1 in
        let len = ap length t ∙ length-append z (concat zs ++ last) in
        absurd (omega (arith, few, size, len))
    chosen (Shorter z zs s t size) =
        let len = ap length t ∙ length-append z (concat zs ++ part) in
        absurd (omega (arith, (goes_at_end r o others last other d b).1, size, len))

pub one_outcome : OneOutcome
one_outcome r o stream log other e d short (inl a) (inl b) = end_and_end _ _ _ _ _ _ _ _ _ _ (sym a.2 ∙ b.2) a.3 b.3
one_outcome r o stream log other e d short (inl a) (inr b) =
    absurd (end_and_fib _ _ _ _ _ _ _ _ _ _ _ (front_short _ _ _ b.3 short) (sym a.2 ∙ b.3) a.3 b.4)
one_outcome r o stream log other e d short (inr a) (inl b) =
    absurd (end_and_fib _ _ _ _ _ _ _ _ _ _ _ (front_short _ _ _ a.3 short) (sym b.2 ∙ a.3) b.3 a.4)
one_outcome r o stream log other e d short (inr a) (inr b) =
    fib_and_fib r o a.0 b.0 a.1 a.2 b.1 b.2 log other e d (front_short stream (concat a.0) (a.1 ++ a.2) a.3 short)
    (front_short stream (concat b.0) (b.1 ++ b.2) b.3 short) (sym a.3 ∙ b.3) a.4 b.4
