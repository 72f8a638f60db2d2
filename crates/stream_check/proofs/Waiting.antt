-- Where every entry was last heard late enough, none is silent yet.
use Rattle.stream_check.proofs.Words.{[], ◌+◌, ◌<◌, ◌∷◌, ◌≡◌, ◌≤◌, AllByRecursion, Heard, List, arith, cases_lt}
use Rattle.stream_check.proofs.Words.{heard_kept, inl, inr, later, length, ne_eqb, quiet_findings, refl, ℕ}
use Rattle.stream_check.specs.declared.finding.Fault.TheVariants as faults
use Rattle.stream_check.proofs.Tables.{each_kept}
use Rattle.stream_check.proofs.Knowing.{later_first, later_second}

pub later_grows : (a b swapped : ℕ) → a ≤ b → later a swapped ≤ later b swapped
later_grows a b swapped le = elim (cases_lt a swapped) [
  | inl below ↦ elim (cases_lt b swapped) [
    | inl low ↦
        let one = later_second a swapped (omega (arith, below)) in
        let other = later_second b swapped (omega (arith, low)) in
        omega (arith, one, other)
    | inr high ↦
        let one = later_second a swapped (omega (arith, below)) in
        let other = later_first b swapped high in
        omega (arith, one, other, high)
  ]
  | inr above ↦
      omega (arith, later_first a swapped above, later_first b swapped (omega (arith, le, above)), le)
]

pub none_quiet : (swapped period frames oldest : ℕ) (hs : List Heard) → AllByRecursion (λ (h : Heard). oldest ≤ h.at) hs
    → frames + 1 < later oldest swapped + period → quiet_findings swapped period frames hs ≡ []
none_quiet swapped period frames oldest [] all soon = refl
none_quiet swapped period frames oldest (h ∷ hs) all soon =
    let grown = later_grows oldest h.at swapped all.0 in
    let loud = ne_eqb (later h.at swapped + period) (frames + 1) (λ is. omega (arith, is, grown, soon)) in
    rw (loud) (none_quiet swapped period frames oldest hs all.1 soon)

-- a time before which none was last heard, with one more entry
pub kept_since : (n m : ℕ) (h : Heard) (hs : List Heard) → n ≤ m → n ≤ h.at
    → AllByRecursion (λ (x : Heard). m ≤ x.at) hs → AllByRecursion (λ (x : Heard). n ≤ x.at) (heard_kept h hs)
kept_since n m h hs le now all =
    each_kept (λ x. m ≤ x.at) (λ x. n ≤ x.at) h hs now (λ x other late. omega (arith, le, late)) all

pub each_of_none : (P : Heard → Type 0) (hs : List Heard) → length hs ≡ 0 → AllByRecursion P hs
each_of_none P [] none = tt
each_of_none P (h ∷ hs) none = absurd cc
