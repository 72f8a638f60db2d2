-- A stream has at most one result.
use Rattle.cli_streams.proofs.Words.{[], ◌<◌, ◌∙◌, ◌∷◌, ◌≡◌, Err, Full, Heard, HearsStream, HearsTheStream, List}
use Rattle.cli_streams.proofs.Words.{Listening, None, NotWhole, Ok, Result, Some, StreamFault, ap, arith, damaged_more}
use Rattle.cli_streams.proofs.Words.{hear_figs, heard_more, inl, inr, refl, subst, sym, ℕ}
use Rattle.fib_codec.specs.Grammar.{Fig, OneList}
use Rattle.fib_reader.specs.Laws.{FaultOrFigs}

some_of : (l m : Listening) → Some l ≡ Some m → l ≡ m
some_of l m e = cc

none_of : (l : Listening) → Some l ≡ None → ⊥
none_of l e = absurd (cc)

-- a FIB's FIGs determine the listener after it
heard_once : OneList → (fib : List ℕ) (now l m : Listening) (f g : List Fig) → hear_figs f now ≡ Some l
    → hear_figs g now ≡ Some m → f ≡ g → l ≡ m
heard_once ones fib now l m f g to also same = some_of l m (sym to ∙ ap (λ (x : List Fig). hear_figs x now) same ∙ also)

not_full : (now l : Listening) (f g : List Fig) → hear_figs f now ≡ Some l → hear_figs g now ≡ None → f ≡ g → ⊥
not_full now l f g to also same = none_of l (sym to ∙ ap (λ (x : List Fig). hear_figs x now) same ∙ also)

pub all_one : OneList → FaultOrFigs → (fibs : List (List ℕ)) (now : Heard) (one other : Result Heard StreamFault)
    → HearsTheStream fibs now one → HearsTheStream fibs now other → one ≡ other
all_one ones apart [] now one other h k = h ∙ sym k
all_one ones apart (fib ∷ fibs) now one other (inl (l, (f, is, to), rest)) (inl (m, (g, also, comes), more)) =
    let same = heard_once ones fib now.listener l m f g to comes (ones fib f g is also) in
    all_one ones apart fibs (heard_more now m) one other
    (subst (λ (x : Listening). HearsTheStream fibs (heard_more now x) one) same rest) more
all_one ones apart (fib ∷ fibs) now one other (inl (l, (f, is, to), rest)) (inr (inl (fault, (wrong, stays), more))) =
    absurd (apart fib f fault is wrong)
all_one ones apart (fib ∷ fibs) now one other (inl (l, (f, is, to), rest))
    (inr (inr (((g, also, none), stays), ends))) =
    absurd (not_full now.listener l f g to none (ones fib f g is also))
all_one ones apart (fib ∷ fibs) now one other (inr (inl (fault, (wrong, stays), rest)))
    (inl (m, (g, also, comes), more)) =
    absurd (apart fib g fault also wrong)
all_one ones apart (fib ∷ fibs) now one other (inr (inl (fault, (wrong, stays), rest)))
    (inr (inl (second, (bad, still), more))) =
    all_one ones apart fibs (damaged_more now fib) one other rest more
all_one ones apart (fib ∷ fibs) now one other (inr (inl (fault, (wrong, stays), rest)))
    (inr (inr (((g, also, none), still), ends))) =
    absurd (apart fib g fault also wrong)
all_one ones apart (fib ∷ fibs) now one other (inr (inr (((f, is, none), stays), ends)))
    (inl (m, (g, also, comes), more)) =
    absurd (not_full now.listener m g f comes none (ones fib g f also is))
all_one ones apart (fib ∷ fibs) now one other (inr (inr (((f, is, none), stays), ends)))
    (inr (inl (fault, (wrong, still), more))) =
    absurd (apart fib f fault is wrong)
all_one ones apart (fib ∷ fibs) now one other (inr (inr (full, ends))) (inr (inr (again, stops))) = ends ∙ sym stops

unequal : (n : ℕ) → 0 < n → n ≡ 0 → ⊥
unequal n lt e = absurd (omega arith)

pub one_answer : OneList → FaultOrFigs → (stream : List ℕ) (one other : Result Heard StreamFault)
    → HearsStream stream one → HearsStream stream other → one ≡ other
one_answer ones apart stream (Ok x) (Ok y) (_, h) (_, k) = all_one ones apart _ _ (Ok x) (Ok y) h k
one_answer ones apart stream (Ok x) (Err Full) (_, h) (_, k) = all_one ones apart _ _ (Ok x) (Err Full) h k
one_answer ones apart stream (Ok x) (Err NotWhole) (whole, h) k = absurd (unequal _ k whole)
one_answer ones apart stream (Err Full) (Ok y) (_, h) (_, k) = all_one ones apart _ _ (Err Full) (Ok y) h k
one_answer ones apart stream (Err Full) (Err Full) h k = refl
one_answer ones apart stream (Err Full) (Err NotWhole) (whole, h) k = absurd (unequal _ k whole)
one_answer ones apart stream (Err NotWhole) (Ok y) h (whole, k) = absurd (unequal _ h whole)
one_answer ones apart stream (Err NotWhole) (Err Full) h (whole, k) = absurd (unequal _ h whole)
one_answer ones apart stream (Err NotWhole) (Err NotWhole) h k = refl
