-- The lanes of the unit map: a span is added and removed, and a lane above 1 is found.
use Rattle.mux_tables.proofs.Words.{[], ◌%◌, ◌*◌, ◌+◌, ◌-◌, ◌/◌, ◌<◌, ◌^◌, ◌∙◌, ◌∷◌, ◌≡◌, ◌≤◌, ◌⊎◌, Block, Bool, Counts}
use Rattle.mux_tables.proofs.Words.{List, Span, add-one, ap, arith, cases_lt, cond, false, get_or, inl, inr, le-ltb}
use Rattle.mux_tables.proofs.Words.{length, length-map, lt-ltb, ltb, map, nat_tests, no_units, range_with_len, refl}
use Rattle.mux_tables.proofs.Words.{share, subst, suc, sym, true, units_at, zero, ℕ}
use Rattle.std.specs.Simd.Lanes.{zip2, top, mask_l}
use Rattle.std.specs.Prelude.{replicate}
use Rattle.std.proofs.lemmas.Simd.{zip2-map, zip2_splat_left, mask_l-mod, get_or-replicate}
use Rattle.std.proofs.lemmas.List.FromFn.{get_or-map-range_with_len, length-map-range_with_len}
use Rattle.mux_tables.specs.Units.{counts_of_block}

-- functions that agree on a range
pub map_agree : {X : Type 0} (f g : ℕ → X) (a n : ℕ) → ((j : ℕ) → a ≤ j → j < a + n → f j ≡ g j)
    → map f (range_with_len a n) ≡ map g (range_with_len a n)
map_agree f g a zero h = refl
map_agree f g a (suc n) h =
    cc (h a (omega arith) (omega arith), map_agree f g (a + 1) n (λ j le lt. h j (omega arith) (omega arith)))

pub block_agree : (f g : ℕ → ℕ) (b : ℕ) → ((j : ℕ) → j < 32 → f (32 * b + j) ≡ g (32 * b + j))
    → counts_of_block f b ≡ counts_of_block g b
unfolding counts_of_block
block_agree f g b h = map_agree (λ j. f (32 * b + j)) (λ j. g (32 * b + j)) 0 32 (λ j le lt. h j (omega arith))

top_of : (t : Bool) → top 7 (cond t 255 0) ≡ t
top_of true = refl
top_of false = refl

abbrev pub lane : ℕ → ℕ → ℕ → ℕ
lane from to j = cond (top 7 (cond (ltb j to) 255 0)) (cond (top 7 (cond (ltb j from) 255 0)) 0 1) 0

pub mask_is : (s : Span) (b from to : ℕ)
    → from ≡ cond (ltb s.start (b * 32)) 0 (cond (ltb s.start (b * 32 + 32)) (s.start - b * 32) 32)
    → to ≡ cond (ltb (s.start + s.size) (b * 32)) 0
    (cond (ltb (s.start + s.size) (b * 32 + 32)) (s.start + s.size - b * 32) 32)
    → map (lane from to) (range_with_len 0 32) ≡ counts_of_block (share s) b
unfolding counts_of_block
mask_is s b from to e f =
    map_agree (lane from to) (λ j. share s (32 * b + j)) 0 32
    (λ j le lt. let swapped : b * 32 ≡ 32 * b = omega arith in
    (rw (top_of (ltb j to), top_of (ltb j from), e, f) (grind (arith, nat_tests))) ∙ ap (λ n. share s (n + j)) swapped)

-- ---- counting in and out, block by block

share_small : (s : Span) (u : ℕ) → share s u ≤ 1
share_small s u = grind (arith, nat_tests)

added : (uses : ℕ → ℕ) (s : Span) (b : ℕ) → ((u : ℕ) → uses u < 255)
    → zip2 (λ x y. (x + y) % 256) (counts_of_block uses b) (counts_of_block (share s) b)
    ≡ counts_of_block (λ u. uses u + share s u) b
unfolding counts_of_block
added uses s b small =
    zip2-map (λ x y. (x + y) % 256) (λ j. uses (32 * b + j)) (λ j. share s (32 * b + j)) (range_with_len 0 32)
    ∙ map_agree (λ j. (uses (32 * b + j) + share s (32 * b + j)) % 256) (λ j. uses (32 * b + j) + share s (32 * b + j))
    0 32
    (λ j le lt. let one = small (32 * b + j) in let two = share_small s (32 * b + j) in omega (arith, one, two))

taken : (op : ℕ → ℕ → ℕ) (uses : ℕ → ℕ) (s : Span) (b : ℕ) → ((x y : ℕ) → x < 255 → y ≤ 1 → op (x + y) y ≡ x)
    → ((u : ℕ) → uses u < 255) → zip2 op (counts_of_block (λ u. uses u + share s u) b) (counts_of_block (share s) b)
    ≡ counts_of_block uses b
unfolding counts_of_block
taken op uses s b undoes small =
    zip2-map op (λ j. uses (32 * b + j) + share s (32 * b + j)) (λ j. share s (32 * b + j)) (range_with_len 0 32)
    ∙ map_agree (λ j. op (uses (32 * b + j) + share s (32 * b + j)) (share s (32 * b + j))) (λ j. uses (32 * b + j)) 0
    32
    (λ j le lt. undoes (uses (32 * b + j)) (share s (32 * b + j)) (small (32 * b + j)) (share_small s (32 * b + j)))

pub record Stepped (op : ℕ → ℕ → ℕ) (before blocks : List Block) (s : Span) (from n : ℕ) : Type 0 where
  pub done : (b : ℕ) → from ≤ b → b < n → units_at blocks b ≡ zip2 op (units_at before b) (counts_of_block (share s) b)
  pub low : (b : ℕ) → b < from → units_at blocks b ≡ units_at before b
  pub left : (b : ℕ) → n ≤ b → units_at blocks b ≡ units_at before b

-- a block outside the span has none of its units
none_below : (s : Span) (b j : ℕ) → j < 32 → b < s.start / 32 → share s (32 * b + j) ≡ 0
none_below s b j less lt = let k : 32 * b + j < s.start = omega arith in grind (arith, nat_tests, k)

none_above : (s : Span) (b j n : ℕ) → s.start + s.size ≤ 32 * n → n ≤ b → share s (32 * b + j) ≡ 0
none_above s b j n le more = let k : s.start + s.size ≤ 32 * b + j = omega arith in grind (arith, nat_tests, k)

same_outside : (uses : ℕ → ℕ) (s : Span) (b : ℕ) → ((j : ℕ) → j < 32 → share s (32 * b + j) ≡ 0)
    → counts_of_block (λ u. uses u + share s u) b ≡ counts_of_block uses b
same_outside uses s b none = block_agree (λ u. uses u + share s u) uses b
    (λ j lt. let z = none j lt in omega (arith, z))

outside : (s : Span) (from n b : ℕ) → from ≡ s.start / 32 → s.start + s.size ≤ 32 * n → (b < from) ⊎ (n ≤ b) → (j : ℕ)
    → j < 32 → share s (32 * b + j) ≡ 0
outside s from n b is le (inl lt) j less = none_below s b j less (omega (arith, is, lt))
outside s from n b is le (inr ge) j less = none_above s b j n le ge

kept : (op : ℕ → ℕ → ℕ) (before blocks : List Block) (s : Span) (from n b : ℕ) → Stepped op before blocks s from n
    → (b < from) ⊎ (n ≤ b) → units_at blocks b ≡ units_at before b
kept op before blocks s from n b h (inl lt) = h.low b lt
kept op before blocks s from n b h (inr ge) = h.left b ge

pub raised : (before blocks : List Block) (s : Span) (from n : ℕ) → from ≡ s.start / 32 → s.start + s.size ≤ 32 * n
    → Stepped (λ x y. (x + y) % 256) before blocks s from n
    → (uses : ℕ → ℕ) → ((u : ℕ) → uses u < 255) → Counts before uses → Counts blocks (λ u. uses u + share s u)
raised before blocks s from n is le h uses small counts = record {
  each = λ b lt. elim (cases_lt b from) [
    | inl low ↦ kept (λ x y. (x + y) % 256) before blocks s from n b h (inl low) ∙ counts.each b lt
        ∙ sym (same_outside uses s b (outside s from n b is le (inl low)))
    | inr high ↦ elim (cases_lt b n) [
      | inl in_span ↦ h.done b high in_span ∙ rw (counts.each b lt) (added uses s b small)
      | inr past ↦ kept (λ x y. (x + y) % 256) before blocks s from n b h (inr past) ∙ counts.each b lt
          ∙ sym (same_outside uses s b (outside s from n b is le (inr past)))
    ]
  ];
}

undoes : (x y : ℕ) → x < 255 → y ≤ 1 → (x + y + (256 - y)) % 256 ≡ x
undoes x y small one = omega arith

pub lowered : (before blocks : List Block) (s : Span) (from n : ℕ) → from ≡ s.start / 32 → s.start + s.size ≤ 32 * n
    → Stepped (λ x y. (x + (256 - y)) % 256) before blocks s from n
    → (uses : ℕ → ℕ) → ((u : ℕ) → uses u < 255) → Counts before (λ u. uses u + share s u) → Counts blocks uses
lowered before blocks s from n is le h uses small counts = record {
  each = λ b lt. elim (cases_lt b from) [
    | inl low ↦ kept (λ x y. (x + (256 - y)) % 256) before blocks s from n b h (inl low) ∙ counts.each b lt
        ∙ same_outside uses s b (outside s from n b is le (inl low))
    | inr high ↦ elim (cases_lt b n) [
      | inl in_span ↦ h.done b high in_span ∙ rw (counts.each b lt)
          (taken (λ x y. (x + (256 - y)) % 256) uses s b undoes small)
      | inr past ↦ kept (λ x y. (x + (256 - y)) % 256) before blocks s from n b h (inr past) ∙ counts.each b lt
          ∙ same_outside uses s b (outside s from n b is le (inr past))
    ]
  ];
}

-- ---- a lane above 1

pub lane_at : (uses : ℕ → ℕ) (b j : ℕ) → j < 32 → get_or (counts_of_block uses b) j 0 ≡ uses (32 * b + j)
unfolding counts_of_block
lane_at uses b j lt = get_or-map-range_with_len (λ k. uses (32 * b + k)) 0 32 j j 0 lt (omega arith)

abbrev pub is_high : ℕ → Bool
is_high x = ltb 1 x

pub length_block : (uses : ℕ → ℕ) (b : ℕ) → length (counts_of_block uses b) ≡ 32
unfolding counts_of_block
length_block uses b = length-map-range_with_len (λ j. uses (32 * b + j)) 0 32

-- `block.simd_gt(u8x32::splat(1)).to_bitmask()`: the model of `a > b` is that of `b < a`
abbrev pub bits_above : List ℕ → ℕ
bits_above xs = mask_l (map (top 7) (zip2 (λ a b. cond (ltb a b) 255 0) (replicate 32 1) xs)) % 2 ^ 64

tops_high : (xs : List ℕ) → map (top 7) (map (λ y. cond (ltb 1 y) 255 0) xs) ≡ map is_high xs
tops_high [] = refl
tops_high (x ∷ xs) = rw (top_of (ltb 1 x), tops_high xs) refl

bits_are : (xs : List ℕ) → length xs ≡ 32 → bits_above xs ≡ mask_l (map is_high xs)
bits_are xs long =
    rw (zip2_splat_left {Z = ℕ} (λ a b. cond (ltb a b) 255 0) 1 32 xs long, tops_high xs)
    (mask_l-mod (map is_high xs) 64 (simp length-map (omega (arith, long))))

set_told : (xs : List ℕ) → (mask_l (map is_high xs) ≡ 0 → ⊥) → (j : ℕ) × (j < length xs) × (1 < get_or xs j 0)
set_told [] some = absurd (some refl)
set_told (x ∷ xs) some =
    elim (cases_lt 1 x) [
      | inl lt ↦ (0, omega arith, lt)
      | inr ge ↦
          let found = set_told xs (λ e. some (rw ((le-ltb 1 x ge), e) refl)) in
          (found.0 + 1, omega (arith, found.1), rw (add-one) found.2)
    ]

unset_told : (xs : List ℕ) → mask_l (map is_high xs) ≡ 0 → (j : ℕ) → j < length xs → get_or xs j 0 ≤ 1
unset_told [] none j lt = absurd (omega arith)
unset_told (x ∷ xs) none zero lt =
    elim (cases_lt 1 x) [
      | inl lt' ↦ let high : ltb 1 x ≡ true = lt-ltb 1 x lt' in
          absurd (let e = rw high at none in omega (arith, e))
      | inr ge ↦ ge
    ]
unset_told (x ∷ xs) none (suc j) lt = unset_told xs (omega (arith, none)) j (omega arith)

pub above_told : (xs : List ℕ) → length xs ≡ 32 → (bits_above xs ≡ 0 → ⊥) → (j : ℕ) × (j < 32) × (1 < get_or xs j 0)
above_told xs long some =
    let found = set_told xs (λ z. some (bits_are xs long ∙ z)) in
    (found.0, omega (arith, found.1), found.2)

pub above_none : (xs : List ℕ) → length xs ≡ 32 → bits_above xs ≡ 0 → (j : ℕ) → j < 32 → get_or xs j 0 ≤ 1
above_none xs long none j lt = unset_told xs (sym (bits_are xs long) ∙ none) j (omega arith)

pub high_told : (lanes : List Block) (uses : ℕ → ℕ) (b j : ℕ) → Counts lanes uses → b < 27 → j < 32
    → 1 < get_or (units_at lanes b) j 0 → 1 < uses (32 * b + j)
high_told lanes uses b j counts lt less high = let e = lane_at uses b j less in let f = counts.each b lt in let g =
    rw (f, e) at high in g

pub none_high : (lanes : List Block) (uses : ℕ → ℕ) → Counts lanes uses
    → ((b j : ℕ) → b < 27 → j < 32 → get_or (units_at lanes b) j 0 ≤ 1) → (u : ℕ) → u < 864 → uses u ≤ 1
none_high lanes uses counts h u lt =
    let b : u / 32 < 27 = omega arith in
    let j : u % 32 < 32 = omega arith in
    let at : 32 * (u / 32) + u % 32 ≡ u = omega arith in
    let f = counts.each (u / 32) b in
    subst (λ (n : ℕ). uses n ≤ 1) at (rw (f, (lane_at uses (u / 32) (u % 32) j)) at (h (u / 32) (u % 32) b j))

-- ---- no spans

zeros : (b : ℕ) → counts_of_block (λ u. 0) b ≡ replicate 32 0
unfolding counts_of_block
zeros b = refl

abbrev pub blank : Block
blank = record { units = replicate 32 0 }

pub none_counted : (uses : ℕ → ℕ) → ((u : ℕ) → uses u ≡ 0) → Counts (replicate 27 blank) uses
none_counted uses h = record {
  each = λ b lt. ap (λ (k : Block). k.units) (get_or-replicate 27 b blank no_units lt)
      ∙ sym (block_agree uses (λ u. 0) b (λ j less. h (32 * b + j)) ∙ zeros b);
}
