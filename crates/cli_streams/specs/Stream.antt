-- The state of a new listener after a stream of FIBs.
use Rattle.std.specs.Prelude.{◌≡◌, ℕ, ◌+◌, ◌/◌, ◌%◌, ◌<◌, ◌==◌, ◌⊎◌, Bool, false, if◌then◌else◌, List, [], ◌∷◌, length}
use Rattle.std.specs.Prelude.{Result, Ok, Err}
use Rattle.std.specs.Simd.{first_chunks}
use Rattle.fib_reader.specs.Listening.{Listening, untuned, Hears}
use Rattle.fib_reader.specs.declared.fault.FibFault.{FibFault}
use Rattle.fib_reader.specs.declared.fault.ListenFault.TheVariants.{Fib, Full}
use Rattle.cli_streams.specs.declared.listen.StreamFault.{StreamFault}
use Rattle.cli_streams.specs.declared.listen.StreamFault.TheVariants.{NotWhole, Full as NoRoom}
use Rattle.stream_monitor.specs.Formats.{is_other}
use Rattle.cli_streams.specs.declared.listen.Heard.{Heard}

-- the FIBs of a stream, 32 bytes each
abbrev pub fibs_of_stream : List ℕ → List (List ℕ)
fibs_of_stream stream = first_chunks 32 (length stream / 32) stream

-- one more FIB, and one more damaged FIB; if that is the first one, it may be the beginning of another format
abbrev pub heard_more : Heard → Listening → Heard
heard_more h l = record { fibs = h.fibs + 1; damaged = h.damaged; is_other = h.is_other; listener = l }

abbrev pub damaged_more : Heard → List ℕ → Heard
damaged_more h fib = record {
  fibs = h.fibs + 1;
  damaged = h.damaged + 1;
  is_other = if h.fibs == 0 then is_other fib else h.is_other;
  listener = h.listener;
}

-- these FIBs, one after the other, from this state on: each is received, or is damaged and only counted; where a
-- picture has no room for an entry, decoding ends
abbrev pub HearsTheStream : List (List ℕ) → Heard → Result Heard StreamFault → Type 0
HearsTheStream [] now given = given ≡ Ok now
HearsTheStream (fib ∷ fibs) now given =
    ((new : Listening) × Hears fib now.listener new (Ok tt) × HearsTheStream fibs (heard_more now new) given)
    ⊎ (((fault : FibFault) × Hears fib now.listener now.listener (Err (Fib fault))
    × HearsTheStream fibs (damaged_more now fib) given)
    ⊎ (Hears fib now.listener now.listener (Err Full) × (given ≡ Err NoRoom)))

-- before the first FIB
abbrev pub unheard : Heard
unheard = record { fibs = 0; damaged = 0; is_other = false; listener = untuned }

-- the result after these FIBs, depending on whether a picture had room
abbrev pub ended : (has_room : Bool) → Heard → Result Heard StreamFault
ended has_room heard = if has_room then Ok heard else Err NoRoom

-- the result of decoding a stream; one that is not whole FIBs is refused
abbrev pub HearsStream : List ℕ → Result Heard StreamFault → Type 0
HearsStream stream (Err NotWhole) = 0 < length stream % 32
HearsStream stream given = (length stream % 32 ≡ 0) × HearsTheStream (fibs_of_stream stream) unheard given

-- a stream has at most one result
abbrev pub OneAnswer : Type 0
OneAnswer = (stream : List ℕ) (one other : Result Heard StreamFault) → HearsStream stream one
    → HearsStream stream other → one ≡ other
