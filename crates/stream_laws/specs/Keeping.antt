-- What a stream without a fault sends of the current configuration between two swaps (EN 300 401 clause 6.5).
use Rattle.std.specs.Prelude.{◌≡◌, ℕ, ◌≤◌, true, false, List, Option, Some}
use Rattle.mux_config.specs.Tables.{entry_at}
use Rattle.fib_reader.specs.Raw.{Raw}
use Rattle.fib_reader.specs.Listening.{Pictured, identifier_of}
use Rattle.stream_check.specs.Frames.{Fib}
use Rattle.stream_check.specs.Lookup.{list_for}
use Rattle.stream_check.specs.History.{Item, Moment, frames_ended, listener_after, is_member, settles_at}
use Rattle.stream_laws.specs.Faultless.{IsFaultless, IsSaidIn}

-- the entry of a picture with the extension and the identifier of this one
abbrev pub entry_like : Raw → Pictured → Option Raw
entry_like raw p = entry_at identifier_of (identifier_of raw) (list_for raw p)

-- an entry with C/N 0 agrees with the one in the picture before it, and is in it once the current configuration is
-- settled
pub record IsKept (period : ℕ) (past : List Moment) (i : Item) : Type 0 where
  pub agrees : (known : Raw) → entry_like i.raw (listener_after past).current ≡ Some known → known ≡ i.raw
  pub there : settles_at period past ≤ frames_ended past → entry_like i.raw (listener_after past).current ≡ Some i.raw

-- the law of the current configuration
abbrev pub CurrentIsKept : Type 0
CurrentIsKept =
    (size step period : ℕ) (frames : List (List Fib)) (past : List Moment) (i : Item)
    → IsFaultless size step period frames → IsSaidIn step frames past i
    → is_member past i ≡ true → i.next ≡ false → IsKept period past i
