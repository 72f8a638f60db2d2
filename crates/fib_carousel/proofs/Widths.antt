-- The number of FIBs of a page: two to four.
use Rattle.fib_carousel.proofs.Words.{◌%◌, ◌*◌, ◌+◌, ◌/◌, ◌<◌, ◌≡◌, ◌≤◌, FrameLayout, I, II, III, IV, ReserveOne}
use Rattle.fib_carousel.proofs.Words.{ReserveTwo, Whole, arith, suc, used_fibs, ℕ}

-- what holds of each width holds of each layout
pub by_width : (P : ℕ → Type 0) → P 2 → P 3 → P 4 → (layout : FrameLayout) → P (used_fibs layout)
by_width P two three four (Whole I) = three
by_width P two three four (Whole II) = three
by_width P two three four (Whole III) = four
by_width P two three four (Whole IV) = three
by_width P two three four (ReserveOne I) = two
by_width P two three four (ReserveOne II) = two
by_width P two three four (ReserveOne III) = three
by_width P two three four (ReserveOne IV) = two
by_width P two three four ReserveTwo = two

pub some_fibs : (layout : FrameLayout) → (2 ≤ used_fibs layout) × (used_fibs layout ≤ 4)
some_fibs layout = by_width (λ w. (2 ≤ w) × (w ≤ 4)) (omega arith, omega arith) (omega arith, omega arith)
    (omega arith, omega arith) layout

-- of two successive FIBs at most one is the first of a page
pub apart : (layout : FrameLayout) (n : ℕ) → (n + 1) % used_fibs layout ≡ 0 → (n + 2) % used_fibs layout ≡ 0 → ⊥
apart layout n =
    by_width (λ w. (n + 1) % w ≡ 0 → (n + 2) % w ≡ 0 → ⊥) (λ a b. omega (arith, a, b)) (λ a b. omega (arith, a, b))
    (λ a b. omega (arith, a, b)) layout

pub first_of_page : (layout : FrameLayout) (k : ℕ) → (used_fibs layout * k) % used_fibs layout ≡ 0
first_of_page layout k = by_width (λ w. (w * k) % w ≡ 0) (omega arith) (omega arith) (omega arith) layout

pub no_page : (layout : FrameLayout) → used_fibs layout * 0 ≡ 0
no_page layout = by_width (λ w. w * 0 ≡ 0) (omega arith) (omega arith) (omega arith) layout

-- the first FIB of the next page
pub next_page : (layout : FrameLayout) (k : ℕ) → used_fibs layout * suc k ≡ used_fibs layout * k + used_fibs layout
next_page layout k = by_width (λ w. w * suc k ≡ w * k + w) (omega arith) (omega arith) (omega arith) layout

pub in_its_page : (layout : FrameLayout) (k n : ℕ) → used_fibs layout * k ≤ n
    → n < used_fibs layout * k + used_fibs layout → n / used_fibs layout ≡ k
in_its_page layout k n =
    by_width (λ w. w * k ≤ n → n < w * k + w → n / w ≡ k) (λ low high. omega (arith, low, high))
    (λ low high. omega (arith, low, high)) (λ low high. omega (arith, low, high)) layout

pub before_its_page : (layout : FrameLayout) (k n : ℕ) → n < used_fibs layout * k → n / used_fibs layout ≡ k → ⊥
before_its_page layout k n =
    by_width (λ w. n < w * k → n / w ≡ k → ⊥) (λ low h. omega (arith, low, h)) (λ low h. omega (arith, low, h))
    (λ low h. omega (arith, low, h)) layout

pub behind_its_page : (layout : FrameLayout) (k n : ℕ) → used_fibs layout * k + used_fibs layout ≤ n
    → n / used_fibs layout ≡ k → ⊥
behind_its_page layout k n =
    by_width (λ w. w * k + w ≤ n → n / w ≡ k → ⊥) (λ high h. omega (arith, high, h)) (λ high h. omega (arith, high, h))
    (λ high h. omega (arith, high, h)) layout

-- later FIBs are in the same page or in a later one
pub later_page : (layout : FrameLayout) (m n : ℕ) → m ≤ n → m / used_fibs layout ≤ n / used_fibs layout
later_page layout m n = by_width (λ w. m ≤ n → m / w ≤ n / w) (λ h. omega (arith, h)) (λ h. omega (arith, h))
    (λ h. omega (arith, h)) layout

-- a FIB comes before the page after its own
pub within_its_page : (layout : FrameLayout) (n : ℕ) → n < used_fibs layout * (n / used_fibs layout + 1)
within_its_page layout n = by_width (λ w. n < w * (n / w + 1)) (omega arith) (omega arith) (omega arith) layout

-- with at most two FIBs to an entry there is at most one page more than entries
pub few_pages : (layout : FrameLayout) (n count : ℕ) → n ≤ 0 + 2 * count → n / used_fibs layout + 1 ≤ count + 1
few_pages layout n count =
    by_width (λ w. n ≤ 0 + 2 * count → n / w + 1 ≤ count + 1) (λ h. omega (arith, h)) (λ h. omega (arith, h))
    (λ h. omega (arith, h)) layout

pub few_fibs : (layout : FrameLayout) (w k : ℕ) → w ≡ used_fibs layout → w * k ≤ 4 * k
few_fibs layout w k e = rw e (by_width (λ n. n * k ≤ 4 * k) (omega arith) (omega arith) (omega arith) layout)
