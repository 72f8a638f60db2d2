-- Sizes of equal error protection, in capacity units (EN 300 401 clauses 6.2.1 and 11.3).
use Rattle.std.specs.Prelude.{◌≡◌, ℕ, ◌*◌, ◌/◌, ◌%◌, ◌<◌, ◌≤◌, ◌==◌, if◌then◌else◌, nat_lt, Result, Ok, Err}
use Rattle.mux_eep.specs.declared.limits.TheConstants.{CAPACITY_UNITS}
use Rattle.mux_eep.specs.declared.sizes.EepSet.{EepSet}
use Rattle.mux_eep.specs.declared.sizes.EepSet.TheVariants.{A, B}
use Rattle.mux_eep.specs.declared.fault.EepFault.{EepFault}
use Rattle.mux_eep.specs.declared.fault.EepFault.TheVariants.{NotMultiple, ZeroRate, PastMultiplex}

-- a protection profile, such as 3-A: its set of levels, and its level from 1 to 4
pub record Profile : Type 0 where
  pub set : EepSet
  pub level : ℕ

-- the rates of a set are the multiples of this, in kbit/s
abbrev pub rate_step : EepSet → ℕ
rate_step A = 8
rate_step B = 32

-- the table of the standard: the capacity units that a profile takes for each step of its rate
abbrev pub units_of_step : EepSet → ℕ → ℕ
units_of_step A level =
    if level == 1 then 12 else if level == 2 then 8 else if level == 3 then 6 else 4
units_of_step B level =
    if level == 1 then 27 else if level == 2 then 21 else if level == 3 then 18 else 15

-- the size of a sub-channel of this profile and rate, for a rate that its set has
abbrev pub table_size : Profile → ℕ → ℕ
table_size p kbits = units_of_step p.set p.level * (kbits / rate_step p.set)

-- this is the size of a sub-channel: the rate is one of the set's, and the size fits in a multiplex
pub record IsSize (p : Profile) (kbits size : ℕ) : Type 0 where
  pub positive : 0 < kbits
  pub multiple : kbits % rate_step p.set ≡ 0
  pub from_table : size ≡ table_size p kbits
  pub within : size ≤ CAPACITY_UNITS

-- the size, or the first of the three faults that applies
abbrev pub size_or_fault : Profile → ℕ → Result ℕ EepFault
size_or_fault p kbits =
    if kbits == 0 then Err ZeroRate
    else if nat_lt 0 (kbits % rate_step p.set) then Err NotMultiple
    else if nat_lt CAPACITY_UNITS (table_size p kbits) then Err PastMultiplex
    else Ok (table_size p kbits)

-- for each profile the size grows strictly with the rate
abbrev pub SizesGrow : Type 0
SizesGrow =
    (p : Profile) (low high low_size high_size : ℕ) → IsSize p low low_size → IsSize p high high_size
    → low < high → low_size < high_size

-- so no two rates of a profile share a size
abbrev pub OneRate : Type 0
OneRate = (p : Profile) (one other size : ℕ) → IsSize p one size → IsSize p other size → one ≡ other
