-- The steps of a walk that searches for the first fault.
use Rattle.fib_reader.proofs.Words.{[], ◌%◌, ◌+◌, ◌-◌, ◌<◌, ◌==◌, ◌∙◌, ◌∷◌, ◌≡◌, ◌≢◌, ◌≤◌, Bool, FibFault, List, None}
use Rattle.fib_reader.proofs.Words.{Option, Some, ap, arith, cond, drop, entry_len, eq-eqb, eqb-true, false, fig_fault}
use Rattle.fib_reader.proofs.Words.{get_or, le-ltb, length, length-drop, lt-ltb, nat_lt, ne_eqb, or_else, refl, suc}
use Rattle.fib_reader.proofs.Words.{sym, true, zero, ℕ}
use Rattle.fib_reader.specs.FirstFault.{entries_fault, figs_fault}
use Rattle.fib_reader.proofs.Lengths.{some_bytes}

-- the rest to be examined gives this fault
pub record LeadsTo (ext : ℕ) (long : Bool) (at : ℕ) (rest : List ℕ) (fault : Option ℕ) : Type 0 where
  pub left : ℕ
  pub enough : length rest ≤ left
  pub same : entries_fault left ext long at rest ≡ fault

-- the walk is at an entry
entry_here :
    (left ext : ℕ) (long : Bool) (at : ℕ) (rest : List ℕ) (fault : Option ℕ) → length rest ≤ left → 0 < length rest
    → entries_fault left ext long at rest ≡ fault
    → (n : ℕ) × (left ≡ suc n)
    × (cond (nat_lt (length rest) (entry_len ext long rest)) (Some at)
    (entries_fault n ext long (at + entry_len ext long rest) (drop (entry_len ext long rest) rest)) ≡ fault)
unfolding entries_fault
entry_here (suc n) ext long at (b ∷ bs) fault enough some same = (n, refl, same)
entry_here _ ext long at _ fault enough some same = absurd (omega arith)

pub next_entry :
    (ext : ℕ) (long : Bool) (at : ℕ) (rest : List ℕ) (fault : Option ℕ) → LeadsTo ext long at rest fault
    → 0 < length rest → entry_len ext long rest ≤ length rest
    → LeadsTo ext long (at + entry_len ext long rest) (drop (entry_len ext long rest) rest) fault
next_entry ext long at rest fault h some whole =
    let here = entry_here h.left ext long at rest fault h.enough some h.same in
    let len : ℕ = entry_len ext long rest in
    let big : 3 ≤ len = some_bytes ext long rest in
    let fewer : length (drop len rest) ≡ length rest - len = length-drop len rest in
    let enough = h.enough in
    record {
      left = here.0;
      enough = omega arith;
      same = sym (ap (λ t. cond t (Some at) (entries_fault here.0 ext long (at + len) (drop len rest)))
          (le-ltb _ _ whole)) ∙ here.2;
    }

pub missing_bytes :
    (ext : ℕ) (long : Bool) (at : ℕ) (rest : List ℕ) (fault : Option ℕ) → LeadsTo ext long at rest fault
    → 0 < length rest → length rest < entry_len ext long rest → Some at ≡ fault
missing_bytes ext long at rest fault h some short =
    let here = entry_here h.left ext long at rest fault h.enough some h.same in
    let len : ℕ = entry_len ext long rest in
    cc (lt-ltb _ _ short, here.2)

pub none_in_nothing : (left ext : ℕ) (long : Bool) (at : ℕ) → entries_fault left ext long at [] ≡ None
unfolding entries_fault
none_in_nothing zero ext long at = refl
none_in_nothing (suc n) ext long at = refl

pub no_entries :
    (ext : ℕ) (long : Bool) (at : ℕ) (rest : List ℕ) (fault : Option ℕ) → LeadsTo ext long at rest fault
    → length rest ≡ 0 → None ≡ fault
no_entries ext long at [] fault h none = sym (none_in_nothing h.left ext long at) ∙ h.same
no_entries ext long at (b ∷ bs) fault h none = absurd (omega arith)

-- the same for FIGs
pub record LeadsToFig (at : ℕ) (rest : List ℕ) (fault : Option FibFault) : Type 0 where
  pub left : ℕ
  pub enough : length rest ≤ left
  pub same : figs_fault left at rest ≡ fault

fig_here :
    (left at : ℕ) (rest : List ℕ) (fault : Option FibFault) → length rest ≤ left → 0 < length rest
    → figs_fault left at rest ≡ fault
    → (n : ℕ) × (left ≡ suc n)
    × (cond (get_or rest 0 0 == 255) None
    (or_else (fig_fault at (get_or rest 0 0) (drop 1 rest))
    (figs_fault n (at + 1 + get_or rest 0 0 % 32) (drop (get_or rest 0 0 % 32) (drop 1 rest)))) ≡ fault)
unfolding figs_fault
fig_here (suc n) at (h ∷ bs) fault enough some same = (n, refl, same)
fig_here _ at _ fault enough some same = absurd (omega arith)

pub next_fig :
    (at : ℕ) (rest : List ℕ) (fault : Option FibFault) → LeadsToFig at rest fault → 0 < length rest
    → get_or rest 0 0 ≢ 255 → fig_fault at (get_or rest 0 0) (drop 1 rest) ≡ None
    → LeadsToFig (at + (1 + get_or rest 0 0 % 32)) (drop (get_or rest 0 0 % 32) (drop 1 rest)) fault
next_fig at rest fault h some header fine =
    let here = fig_here h.left at rest fault h.enough some h.same in
    let len : ℕ = get_or rest 0 0 % 32 in
    let fewer : length (drop len (drop 1 rest)) ≡ length rest - 1 - len =
    rw (← length-drop 1 rest) (length-drop len (drop 1 rest)) in
    let enough = h.enough in
    let from_here : or_else (fig_fault at (get_or rest 0 0) (drop 1 rest))
    (figs_fault here.0 (at + 1 + len) (drop len (drop 1 rest))) ≡ fault = cc (ne_eqb _ _ header, here.2) in
    record {
      left = here.0;
      enough = omega arith;
      same = ap (λ n. figs_fault here.0 n (drop len (drop 1 rest))) (omega arith)
          ∙ sym (ap (λ f. or_else f (figs_fault here.0 (at + 1 + len) (drop len (drop 1 rest)))) fine) ∙ from_here;
    }

pub at_marker :
    (at : ℕ) (rest : List ℕ) (fault : Option FibFault) → LeadsToFig at rest fault → 0 < length rest
    → get_or rest 0 0 ≡ 255 → None ≡ fault
at_marker at rest fault h some header =
    let here = fig_here h.left at rest fault h.enough some h.same in
    let len : ℕ = get_or rest 0 0 % 32 in
    sym (ap (λ t. cond t None (or_else (fig_fault at (get_or rest 0 0) (drop 1 rest))
    (figs_fault here.0 (at + 1 + len) (drop len (drop 1 rest))))) (eq-eqb _ _ header)) ∙ here.2

pub fault_here :
    (at : ℕ) (rest : List ℕ) (fault : Option FibFault) (e : FibFault) → LeadsToFig at rest fault → 0 < length rest
    → get_or rest 0 0 ≢ 255 → fig_fault at (get_or rest 0 0) (drop 1 rest) ≡ Some e → Some e ≡ fault
fault_here at rest fault e h some header found =
    let here = fig_here h.left at rest fault h.enough some h.same in
    let len : ℕ = get_or rest 0 0 % 32 in
    cc (found, ne_eqb _ _ header, here.2)

pub no_fault_in_nothing : (left at : ℕ) → figs_fault left at [] ≡ None
unfolding figs_fault
no_fault_in_nothing zero at = refl
no_fault_in_nothing (suc n) at = refl

pub no_figs :
    (at : ℕ) (rest : List ℕ) (fault : Option FibFault) → LeadsToFig at rest fault → length rest ≡ 0 → None ≡ fault
no_figs at [] fault h none = sym (no_fault_in_nothing h.left at) ∙ h.same
no_figs at (b ∷ bs) fault h none = absurd (omega arith)

-- the meaning of a test for an empty slice
pub some_left : (n : ℕ) (b : Bool) → b ≡ (n == 0) → b ≡ false → 0 < n
some_left zero b is none = absurd (cc)
some_left (suc n) b is none = omega arith

pub none_left : (n : ℕ) (b : Bool) → b ≡ (n == 0) → b ≡ true → n ≡ 0
none_left n b is none = eqb-true n 0 (sym is ∙ none)
