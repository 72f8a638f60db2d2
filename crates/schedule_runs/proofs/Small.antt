-- Options of numbers.
use Rattle.std.proofs.Common.{◌≡◌, None, Option, Some, ap, ℕ}

abbrev number_in : Option ℕ → ℕ
number_in None = 0
number_in (Some n) = n

pub some_is : (m n : ℕ) → Some m ≡ Some n → m ≡ n
some_is m n e = ap number_in e

pub absurd_none : {T : Type 0} → (n : ℕ) → Some n ≡ None → T
absurd_none n e = absurd cc
