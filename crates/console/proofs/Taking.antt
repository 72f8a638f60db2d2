-- What a writer has taken when all was written and it was flushed.
use Rattle.std.proofs.Common.{◌≡◌, List, ℕ, Option, length, take, take_all, subst, arith}
use Rattle.std.specs.Io.KnownBytes.{Appends, Keeps}
use Rattle.std.proofs.KnownBytes.{Appends-kept}

pub all_taken : (before mid after : Option (List ℕ)) (bytes : List ℕ) (count : ℕ)
    → Appends before mid (take count bytes) → count ≡ length bytes → Keeps mid after → Appends before after bytes
all_taken before mid after bytes count taken all kept =
    let whole : take count bytes ≡ bytes = take_all count bytes (omega (arith, all)) in
    Appends-kept before mid after bytes (subst (Appends before mid) whole taken) kept
