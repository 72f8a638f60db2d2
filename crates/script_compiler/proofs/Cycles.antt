-- The search for the pcs that can be reached in a frame finds them all.
use Rattle.script_compiler.proofs.Words.{[], ◌++◌, ◌+◌, ◌<◌, ◌∙◌, ◌∷◌, ◌≡◌, ◌≤◌, ◌⊎◌, Bool, CanReach, CanRevisit}
use Rattle.script_compiler.proofs.Words.{GrowsBy, Instr, IsAt, IsExpanded, IsIn, List, None, Option, Searched, Some}
use Rattle.script_compiler.proofs.Words.{StepsTo, ap, arith, false, get_or, inl, inr, length, length-append, refl}
use Rattle.script_compiler.proofs.Words.{slice_get, slice_get_within, slice_set, subst, suc, sym, true, trues, zero, ℕ}

-- ---- lists

pub in_left : (k : ℕ) (xs ys : List ℕ) → IsIn k xs → IsIn k (xs ++ ys)
in_left k [] ys h = absurd h
in_left k (x ∷ xs) ys (inl e) = inl e
in_left k (x ∷ xs) ys (inr h) = inr (in_left k xs ys h)

pub in_last : (k : ℕ) (xs : List ℕ) → IsIn k (xs ++ k ∷ [])
in_last k [] = inl refl
in_last k (x ∷ xs) = inr (in_last k xs)

pub in_snoc : (k x : ℕ) (xs : List ℕ) → IsIn k (xs ++ x ∷ []) → IsIn k xs ⊎ (k ≡ x)
in_snoc k x [] (inl e) = inr e
in_snoc k x [] (inr h) = absurd h
in_snoc k x (y ∷ xs) (inl e) = inl (inl e)
in_snoc k x (y ∷ xs) (inr h) = elim (in_snoc k x xs h) [ inl a ↦ inl (inr a) | inr b ↦ inr b ]

set_there : (ps : List Bool) (k : ℕ) → k < length ps → IsAt (slice_set ps k true) k
set_there [] k lt = absurd (omega (arith, lt))
set_there (b ∷ ps) zero lt = refl
set_there (b ∷ ps) (suc k) lt = set_there ps k (omega (arith, lt))

set_kept : (ps : List Bool) (j k : ℕ) → IsAt ps j → IsAt (slice_set ps k true) j
set_kept [] j k h = cc
set_kept (b ∷ ps) zero zero h = refl
set_kept (b ∷ ps) (suc j) (suc k) h = set_kept ps j k h
set_kept (b ∷ ps) _ _ h = h

set_only : (ps : List Bool) (j k : ℕ) → IsAt (slice_set ps k true) j → IsAt ps j ⊎ (j ≡ k)
set_only (b ∷ ps) zero zero h = inr refl
set_only (b ∷ ps) (suc j) (suc k) h = elim (set_only ps j k h) [ inl a ↦ inl a | inr e ↦ inr (ap (λ n. suc n) e) ]
set_only _ _ _ h = inl h

set_trues : (ps : List Bool) (k : ℕ) (d : Bool) → k < length ps → get_or ps k d ≡ false
    → trues (slice_set ps k true) ≡ trues ps + 1
set_trues [] k d lt e = absurd (omega (arith, lt))
set_trues (true ∷ ps) zero d lt e = absurd (let h : true ≡ false = e in cc)
set_trues (false ∷ ps) zero d lt e = omega arith
set_trues (b ∷ ps) (suc k) d lt e = (let h = set_trues ps k d (omega (arith, lt)) e in omega (arith, h))

set_long : (ps : List Bool) (k : ℕ) → length (slice_set ps k true) ≡ length ps
set_long (b ∷ ps) (suc k) = (let h = set_long ps k in omega (arith, h))
set_long _ _ = refl

pub trues_most : (ps : List Bool) → trues ps ≤ length ps
trues_most [] = omega arith
trues_most (b ∷ ps) = by b (trues_most ps)
  where
    by : (b : Bool) → trues ps ≤ length ps → trues (b ∷ ps) ≤ length (b ∷ ps)
    by true h = omega (arith, h)
    by false h = omega (arith, h)

pub none_true : (ps : List Bool) → trues ps ≡ 0 → trues (ps ++ false ∷ []) ≡ 0
none_true [] h = refl
none_true (true ∷ ps) h = absurd (omega (arith, h))
none_true (false ∷ ps) h = (let i = none_true ps (omega (arith, h)) in omega (arith, i))

pub none_at : (ps : List Bool) (k : ℕ) → trues ps ≡ 0 → IsAt ps k → ⊥
none_at (true ∷ ps) k h e = absurd (omega (arith, h))
none_at (false ∷ ps) (suc k) h e = none_at ps k (omega (arith, h)) e
none_at _ _ h e = cc

-- ---- adding one pc, or none

pub grows_none : (ps : List Bool) (ws : List ℕ) (wanted : ℕ → Type 0) → ((k : ℕ) → wanted k → k < length ps → IsAt ps k)
    → GrowsBy ps ps ws ws wanted
grows_none ps ws wanted all = record {
  grows = record {
    long = refl;
    kept = λ k h. h;
    only = λ k h. inl h;
    fresh = λ k h. inl h;
    still = λ k h. h;
    waits = λ k h. inl h;
    count = refl;
  };
  all = all;
}

pub grows_one : (ps qs : List Bool) (ws vs : List ℕ) (place : ℕ) (d : Bool) → place < length ps
    → get_or ps place d ≡ false → qs ≡ slice_set ps place true → vs ≡ ws ++ place ∷ []
    → GrowsBy ps qs ws vs (λ k. k ≡ place)
grows_one ps qs ws vs place d lt off e f =
    let there : IsAt qs place = subst (λ (l : List Bool). IsAt l place) (sym e) (set_there ps place lt) in
    record {
      grows = record {
        long = ap length e ∙ set_long ps place;
        kept = λ k h. subst (λ (l : List Bool). IsAt l k) (sym e) (set_kept ps k place h);
        only = λ k h. set_only ps k place (subst (λ (l : List Bool). IsAt l k) e h);
        fresh = λ k h. elim (set_only ps k place (rw (← e) h))
            [ inl a ↦ inl a | inr same ↦ inr (rw f (rw (← same) (in_last k ws))) ];
        still = λ k h. subst (λ (l : List ℕ). IsIn k l) (sym f) (in_left k ws (place ∷ []) h);
        waits = λ k h. elim (in_snoc k place ws (rw (← f) h)) [ inl a ↦ inl a | inr same ↦ inr (rw same there) ];
        count = (let a = ap trues e ∙ set_trues ps place d lt off in
            let b = ap length f ∙ length-append ws (place ∷ []) in omega (arith, a, b));
      };
      all = λ k same _. subst (λ n. IsAt qs n) (sym same) there;
    }

pub grows_both : (ps qs rs : List Bool) (ws vs us : List ℕ) (A B C : ℕ → Type 0) → ((k : ℕ) → A k → C k)
    → ((k : ℕ) → B k → C k) → ((k : ℕ) → C k → A k ⊎ B k) → GrowsBy ps qs ws vs A → GrowsBy qs rs vs us B
    → GrowsBy ps rs ws us C
grows_both ps qs rs ws vs us A B C a b either g h = record {
  grows = record {
    long = h.grows.long ∙ g.grows.long;
    kept = λ k x. h.grows.kept k (g.grows.kept k x);
    only = λ k x. elim (h.grows.only k x) [
      | inl y ↦ elim (g.grows.only k y) [ inl z ↦ inl z | inr z ↦ inr (a k z) ]
      | inr y ↦ inr (b k y)
    ];
    fresh = λ k x. elim (h.grows.fresh k x) [
      | inl y ↦ elim (g.grows.fresh k y) [ inl z ↦ inl z | inr z ↦ inr (h.grows.still k z) ]
      | inr y ↦ inr y
    ];
    still = λ k x. h.grows.still k (g.grows.still k x);
    waits = λ k x. elim (h.grows.waits k x) [
      | inl y ↦ elim (g.grows.waits k y) [ inl z ↦ inl z | inr z ↦ inr (h.grows.kept k z) ]
      | inr y ↦ inr y
    ];
    count = (let x = g.grows.count in let y = h.grows.count in omega (arith, x, y));
  };
  all = λ k x lt. elim (either k x) [
    | inl y ↦ h.grows.kept k (g.all k y lt)
    | inr y ↦ h.all k y (let e = g.grows.long in omega (arith, e, lt))
  ];
}

-- ---- paths

leads_more : (code : List Instr) (n a b c : ℕ) (i : Instr) → CanReach code n a b → slice_get code b ≡ Some i
    → StepsTo i b c → CanReach code (suc n) a c
leads_more code zero a b c i h e g =
    (i, c, subst (λ k. slice_get code k ≡ Some i) (sym h) e, subst (λ k. StepsTo i k c) (sym h) g, refl)
leads_more code (suc n) a b c i h e g = (h.0, h.1, h.2, h.3, leads_more code n h.1 b c i h.4 e g)

-- the reached pcs are closed under steps, so every path stays in them
stays_reached : (code : List Instr) (places : List Bool) (pc : ℕ) → pc < length code
    → ((k : ℕ) → IsAt places k → IsExpanded code places k) → (m k : ℕ) → IsExpanded code places k
    → CanReach code (suc m) k pc → IsAt places pc
stays_reached code places pc lt closed zero k leads h =
    subst (λ n. IsAt places n) h.4 (leads h.0 h.1 h.2 h.3 (subst (λ n. n < length code) (sym h.4) lt))
stays_reached code places pc lt closed (suc m) k leads h =
    let rest = h.4 in
    let within : h.1 < length code = slice_get_within code h.1 rest.0 rest.2 in
    stays_reached code places pc lt closed m h.1 (closed h.1 (leads h.0 h.1 h.2 h.3 within)) rest

-- ---- the search

module _ (code : List Instr) (pc : ℕ) where
  -- the pcs that follow the first one
  pub search_begins : (ps qs : List Bool) (vs : List ℕ) (i : Instr) → length ps ≡ length code → trues ps ≡ 0
      → slice_get code pc ≡ Some i → GrowsBy ps qs [] vs (StepsTo i pc) → Searched code pc 0 qs vs
  search_begins ps qs vs i long none e g = record {
    long = g.grows.long ∙ long;
    sound = λ k h. elim (g.grows.only k h) [
      | inl a ↦ absurd (none_at ps k none a)
      | inr goes ↦ (0, (i, k, e, goes, refl))
    ];
    start = λ j to f goes lt. (
        let same : i ≡ j = (let x : Some i ≡ Some j = sym e ∙ f in cc) in
        g.all to (subst (λ (y : Instr). StepsTo y pc to) (sym same) goes) (omega (arith, lt, long)));
    closed = λ k h. elim (g.grows.fresh k h) [ inl a ↦ absurd (none_at ps k none a) | inr waits ↦ inl waits ];
    waits = λ k h. elim (g.grows.waits k h) [ inl a ↦ absurd a | inr at ↦ at ];
    count = (let x = g.grows.count in omega (arith, x, none));
  }

  step_sound : (n : ℕ) (ps qs : List Bool) (old ws vs : List ℕ) (place : ℕ) (o : Option Instr)
      → slice_get code place ≡ o → (wanted : ℕ → Type 0)
      → ((k : ℕ) → wanted k → (i : Instr) × (slice_get code place ≡ Some i) × StepsTo i place k)
      → ((i : Instr) (k : ℕ) → slice_get code place ≡ Some i → StepsTo i place k → wanted k)
      → old ≡ ws ++ place ∷ [] → Searched code pc n ps old → GrowsBy ps qs ws vs wanted → Searched code pc (n + 1) qs vs
  step_sound n ps qs old ws vs place o at wanted goes all e s g =
      let point_here = s.waits place (subst (λ (l : List ℕ). IsIn place l) (sym e) (in_last place ws)) in
      let leads : IsExpanded code qs place = λ i to f x lt.
      g.all to (all i to f x) (let l = s.long in omega (arith, lt, l)) in
      record {
        long = g.grows.long ∙ s.long;
        sound = λ k h. elim (g.grows.only k h) [
          | inl a ↦ s.sound k a
          | inr w ↦
              let before = s.sound place point_here in
              let last = goes k w in
              (suc before.0, leads_more code (suc before.0) pc place k last.0 before.1 last.1 last.2)
        ];
        start = λ i to f x lt. g.grows.kept to (s.start i to f x lt);
        closed = λ k h. elim (g.grows.fresh k h) [
          | inl a ↦ elim (s.closed k a) [
            | inl waits ↦ elim (in_snoc k place ws (subst (λ (l : List ℕ). IsIn k l) e waits)) [
              | inl still ↦ inl (g.grows.still k still)
              | inr same ↦ inr (subst (λ m. IsExpanded code qs m) (sym same) leads)
            ]
            | inr expanded ↦ inr (λ i to f x lt. g.grows.kept to (expanded i to f x lt))
          ]
          | inr waits ↦ inl waits
        ];
        waits = λ k h. elim (g.grows.waits k h) [
          | inl a ↦ g.grows.kept k (s.waits k (subst (λ (l : List ℕ). IsIn k l) (sym e) (in_left k ws (place ∷ []) a)))
          | inr at' ↦ at'
        ];
        count = (let x = g.grows.count in let y = s.count in let z = ap length e ∙ length-append ws (place ∷ []) in
            omega (arith, x, y, z));
      }

  pub search_complete : (n : ℕ) (places : List Bool) (waiting : List ℕ) → pc < length code → waiting ≡ []
      → Searched code pc n places waiting → CanRevisit code pc → IsAt places pc
  search_complete n places waiting lt none s back =
      stays_reached code places pc lt
      (λ k h. elim (s.closed k h) [
        | inl waits ↦ absurd (subst (λ (l : List ℕ). IsIn k l) none waits)
        | inr leads ↦ leads
      ]) back.0 pc s.start back.1

  -- at most as many pcs are expanded as there are
  pub none_waits : (n : ℕ) (places : List Bool) (waiting : List ℕ) → length code ≤ n → Searched code pc n places waiting
      → waiting ≡ []
  none_waits n places [] le s = refl
  none_waits n places (w ∷ ws) le s =
      (let c = s.count in let m = trues_most places in let l = s.long in absurd (omega (arith, c, m, l, le)))

-- one pc is expanded
pub step_by : (code : List Instr) (pc n : ℕ) (ps qs : List Bool) (old ws vs : List ℕ) (place : ℕ) (i : Instr)
    → slice_get code place ≡ Some i → old ≡ ws ++ place ∷ [] → Searched code pc n ps old
    → GrowsBy ps qs ws vs (StepsTo i place) → Searched code pc (n + 1) qs vs
step_by code pc n ps qs old ws vs place i at e s g =
    step_sound code pc n ps qs old ws vs place (Some i) at (StepsTo i place) (λ k x. (i, at, x))
    (λ j k f x. let same : i ≡ j = (let y : Some i ≡ Some j = sym at ∙ f in cc) in
    subst (λ (z : Instr). StepsTo z place k) (sym same) x) e s g

pub step_past : (code : List Instr) (pc n : ℕ) (ps : List Bool) (old ws : List ℕ) (place : ℕ)
    → slice_get code place ≡ None → old ≡ ws ++ place ∷ [] → Searched code pc n ps old → Searched code pc (n + 1) ps ws
step_past code pc n ps old ws place at e s =
    step_sound code pc n ps ps old ws ws place None at (λ k. ⊥) (λ k x. absurd x)
    (λ j k f x. let y : None ≡ Some j = sym at ∙ f in cc) e s
    (grows_none ps ws (λ k. ⊥) (λ k x lt. absurd x))
