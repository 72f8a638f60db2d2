-- The capacity units of a sub-channel.
use Rattle.std.specs.Prelude.{ℕ, ◌+◌, Result, Ok, Err}
use Rattle.mux_types.specs.declared.parts.Sub.{Sub}
use Rattle.mux_eep.specs.declared.fault.EepFault.{EepFault}
use Rattle.mux_eep.specs.Sizes.{size_or_fault}

-- the size of a sub-channel; one whose profile has no size at its rate has no units
abbrev pub size_if_any : Result ℕ EepFault → ℕ
size_if_any (Ok size) = size
size_if_any (Err fault) = 0

abbrev pub units_of : Sub → ℕ
units_of s = size_if_any (size_or_fault s.protection s.kbits)

-- the first unit after it
abbrev pub end_of : Sub → ℕ
end_of s = s.start + units_of s
