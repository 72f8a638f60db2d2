-- One iteration of the loops that read tables: reading the remaining items gives the same result as reading all.
use Rattle.plan_code.proofs.Words.{[], ◌++◌, ◌+◌, ◌-◌, ◌<◌, ◌>>=◌, ◌∙◌, ◌∷◌, ◌≡◌, ◌≤◌, CodeFault, Err, Fails}
use Rattle.plan_code.proofs.Words.{List, Memory, Ok, Order, Parses, RecordFault, Result, Short}
use Rattle.plan_code.proofs.Words.{ap, arith, fault_from, in_file, refl, subst, suc, sym, ℕ}
use Rattle.mux_config.specs.declared.record.RecordFault.TheVariants.{Field as FieldOfRecord}
use Rattle.plan_code.specs.Reading.{items_at}

-- the fault of a step is the fault of the whole
pub fails_then : {A B : Type 0} (e : CodeFault) (r : Result A CodeFault) (f : A → Result B CodeFault) → Fails e r
    → Fails e (r >>= f)
fails_then Memory r f h = tt
fails_then _ r f h = rw h refl

-- items read by a reader over `total` bytes, which still has this total at `t`
module _ {T : Type 0} (item_at : ℕ → List ℕ → Parses T) (total t : ℕ) (same : t ≡ total) where
  pub items_next : (before : List T) (count i : ℕ) (bytes : List ℕ) (whole : Parses (List T)) (x : T) (rest : List ℕ)
      → i < count
      → items_at (item_at total) before (count - i) bytes ≡ whole → item_at t bytes ≡ Ok (x, rest)
      → items_at (item_at total) (before ++ x ∷ []) (count - (i + 1)) rest ≡ whole
  unfolding items_at
  items_next before count i bytes whole x rest lt so_far read =
      let more : count - i ≡ suc (count - (i + 1)) = omega (arith, lt) in
      let here : item_at total bytes ≡ Ok (x, rest) = subst (λ (n : ℕ). item_at n bytes ≡ Ok (x, rest)) same read in
      sym (rw (more, here) refl) ∙ so_far

  pub items_fault : (before : List T) (count i : ℕ) (bytes : List ℕ) (whole : Parses (List T)) (e : CodeFault)
      → i < count
      → items_at (item_at total) before (count - i) bytes ≡ whole → Fails e (item_at t bytes) → Fails e whole
  unfolding items_at
  items_fault before count i bytes whole e lt so_far fault =
      let more : count - i ≡ suc (count - (i + 1)) = omega (arith, lt) in
      subst (λ (r : Parses (List T)). Fails e r) (ap (λ (n : ℕ). items_at (item_at total) before n bytes) (sym more)
      ∙ so_far) (fails_then e (item_at total bytes) _ (subst (λ (n : ℕ). Fails e (item_at n bytes)) same fault))

pub items_done : {T : Type 0} (item_at : List ℕ → Parses T) (before : List T) (count i : ℕ) (bytes : List ℕ)
    (whole : Parses (List T)) → count ≤ i
    → items_at item_at before (count - i) bytes ≡ whole → whole ≡ Ok (before, bytes)
unfolding items_at
items_done item_at before count i bytes whole past so_far =
    let none : count - i ≡ 0 = omega (arith, past) in
    sym so_far ∙ rw none refl

-- a fault of a field is a fault of the file
pub fails_in_file : {T : Type 0} (e : RecordFault) (r : Result T RecordFault) → r ≡ Err e
    → Fails (fault_from 0 e) (in_file r)
fails_in_file Short r h = rw h refl
fails_in_file (FieldOfRecord at) r h = rw h refl
fails_in_file Order r h = rw h refl
