-- What the rest of a piece begins with.
use Rattle.std.specs.Prelude.{◌≡◌, ℕ, ◌<◌, ◌≤◌, List, [], length, take}
use Rattle.stream_monitor.specs.declared.fibs.Next.{Next}
use Rattle.stream_monitor.specs.declared.fibs.Next.TheVariants.{Fib, Part, End}

-- a FIB; fewer bytes; none
abbrev pub BeginsWith : List ℕ → Next → Type 0
BeginsWith rest (Fib fib) = (32 ≤ length rest) × (fib ≡ take 32 rest)
BeginsWith rest Part = (0 < length rest) × (length rest < 32)
BeginsWith rest End = rest ≡ []
