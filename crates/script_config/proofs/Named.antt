-- The EId that FIBs signal, FIB by FIB.
use Rattle.script_config.proofs.Words.{[], ◌+◌, ◌<◌, ◌∷◌, ◌≡◌, List, NamesAfter, Option, add-one, drop, drop-cons}
use Rattle.script_config.proofs.Words.{get_or, inl, inr, length, named_by_figs, refl, subst, sym, ℕ}
use Rattle.fib_codec.specs.Grammar.{Fig, IsFib}
use Rattle.fib_reader.specs.declared.fault.FibFault.{FibFault}
use Rattle.fib_reader.specs.Faults.{IsFibFault}

fib_by_fib : (fibs : List (List ℕ)) (i : ℕ) → i < length fibs → drop i fibs ≡ get_or fibs i [] ∷ drop (i + 1) fibs
fib_by_fib fibs i lt = rw (add-one, drop-cons fibs i [] lt) refl

-- the EId after the rest of the FIBs, given the one so far, is that after all of them
abbrev pub LeadsOn : List (List ℕ) → Option ℕ → List (List ℕ) → Option ℕ → Type 0
LeadsOn rest now fibs before = (after : Option ℕ) → NamesAfter rest now after → NamesAfter fibs before after

pub whole_more : (fibs : List (List ℕ)) (i : ℕ) (before now new : Option ℕ) (figs : List Fig) → i < length fibs
    → IsFib (get_or fibs i []) figs → new ≡ named_by_figs figs now
    → LeadsOn (drop i fibs) now fibs before → LeadsOn (drop (i + 1) fibs) new fibs before
whole_more fibs i before now new figs lt whole named on after h =
    on after (subst (λ (fs : List (List ℕ)). NamesAfter fs now after) (sym (fib_by_fib fibs i lt))
    (inl (figs, whole, subst (λ (o : Option ℕ). NamesAfter (drop (i + 1) fibs) o after) named h)))

pub damaged_more : (fibs : List (List ℕ)) (i : ℕ) (before now : Option ℕ) (fault : FibFault) → i < length fibs
    → IsFibFault (get_or fibs i []) fault
    → LeadsOn (drop i fibs) now fibs before → LeadsOn (drop (i + 1) fibs) now fibs before
damaged_more fibs i before now fault lt wrong on after h =
    on after (subst (λ (fs : List (List ℕ)). NamesAfter fs now after) (sym (fib_by_fib fibs i lt))
    (inr (fault, wrong, h)))
