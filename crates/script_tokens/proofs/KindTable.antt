-- The table of the kinds of bytes.
use Rattle.script_tokens.proofs.Words.{[], ◌&&◌, ◌+◌, ◌<◌, ◌==◌, ◌∙◌, ◌∷◌, ◌≡◌, Bad, Blank, Bool, Brace, Hash, Kind}
use Rattle.script_tokens.proofs.Words.{Letter, LineEnd, List, and_parts, ap, arith, eqb-true, get_or, kind_numbered}
use Rattle.script_tokens.proofs.Words.{kind_of, length, refl, suc, true, zero, ℕ}
use Rattle.script_tokens.specs.declared.kinds.TheConstants.{KINDS}

abbrev number_of : Kind → ℕ
number_of Blank = 0
number_of LineEnd = 1
number_of Hash = 2
number_of Brace = 3
number_of Letter = 4
number_of Bad = 5

numbered_back : (k : Kind) → kind_numbered (number_of k) ≡ k
numbered_back Blank = refl
numbered_back LineEnd = refl
numbered_back Hash = refl
numbered_back Brace = refl
numbered_back Letter = refl
numbered_back Bad = refl

-- these are the numbers of the kinds of the bytes from this one on
abbrev are_numbers : List ℕ → ℕ → Bool
are_numbers [] b = true
are_numbers (n ∷ ns) b = (n == number_of (kind_of b)) && are_numbers ns (suc b)

table : are_numbers KINDS 0 ≡ true
table = refl

at_place : (ns : List ℕ) (b i : ℕ) → are_numbers ns b ≡ true → i < length ns
    → get_or ns i 0 ≡ number_of (kind_of (b + i))
at_place [] b i h lt = absurd (omega arith)
at_place (n ∷ ns) b zero h lt =
    let here : b ≡ b + 0 = omega arith in
    eqb-true _ _ (and_parts _ _ h).0 ∙ ap (λ a. number_of (kind_of a)) here
at_place (n ∷ ns) b (suc i) h lt =
    let there : suc b + i ≡ b + suc i = omega arith in
    at_place ns (suc b) i (and_parts _ _ h).1 (omega arith) ∙ ap (λ a. number_of (kind_of a)) there

pub in_kinds : (b : ℕ) → b < 256 → kind_numbered (get_or KINDS b 0) ≡ kind_of b
in_kinds b h =
    let start : 0 + b ≡ b = omega arith in
    ap kind_numbered (at_place KINDS 0 b table h) ∙ numbered_back (kind_of (0 + b)) ∙ ap kind_of start
