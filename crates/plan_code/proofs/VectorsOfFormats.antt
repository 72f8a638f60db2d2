-- Formats: for each way to make one, an example that is read and one that is refused, and what is spelled.
use Rattle.plan_code.proofs.Words.{[], ◌∷◌, ◌≡◌, Bool, Err, Ok, false, refl, true, ℕ}
use Rattle.std.specs.Prelude.{◌+◌, ◌-◌, zero, suc}
use Rattle.mux_config.specs.declared.record.RecordFault.TheVariants.{Field, Short}
use Rattle.plan_code.specs.Formats.{Format, Kind, ◌▸◌, any_byte, byte_from, flag, follows, kind, mapped, tagged_at}

-- a byte up to 9, and a flag
abbrev pair : Format (ℕ × Bool)
pair = byte_from 0 9 ▸ flag

both_are_read : pair.read 3 (7 ∷ 1 ∷ 5 ∷ []) ≡ Ok ((7, true), 5 ∷ [])
both_are_read = refl

the_second_is_at_fault : pair.read 3 (7 ∷ 2 ∷ 5 ∷ []) ≡ Err (Field 1)
the_second_is_at_fault = refl

the_second_is_missing : pair.read 1 (7 ∷ []) ≡ Err Short
the_second_is_missing = refl

both_are_spelled : pair.spell (7, false) ≡ 7 ∷ 0 ∷ []
both_are_spelled = refl

-- a bound, and a byte that is not below it
abbrev ascending : Format (ℕ × ℕ)
ascending = follows any_byte (λ low. byte_from low 255)

not_below : ascending.read 2 (3 ∷ 3 ∷ []) ≡ Ok ((3, 3), [])
not_below = refl

below : ascending.read 2 (3 ∷ 2 ∷ []) ≡ Err (Field 1)
below = refl

-- one more than a byte
abbrev one_more : Format ℕ
one_more = mapped (λ n. n + 1) (λ n. n - 1) any_byte

one_more_is_read : one_more.read 1 (4 ∷ []) ≡ Ok (5, [])
one_more_is_read = refl

one_less_is_spelled : one_more.spell 5 ≡ 4 ∷ []
one_less_is_spelled = refl

nothing_is_more : one_more.read 0 [] ≡ Err Short
nothing_is_more = refl

-- what follows a byte: a flag after 0, a byte up to 9 after any other
abbrev after : ℕ → Kind ℕ
after zero = kind flag (λ b. 0)
after (suc n) = kind (byte_from 0 9) (λ m. m)

by_its_tag : tagged_at any_byte after 2 (1 ∷ 9 ∷ []) ≡ Ok (9, [])
by_its_tag = refl

of_another_tag : tagged_at any_byte after 2 (0 ∷ 9 ∷ []) ≡ Err (Field 1)
of_another_tag = refl
