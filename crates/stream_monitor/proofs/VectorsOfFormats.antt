-- First bytes of streams: for each definition one in which it holds, and one in which it does not.
use Rattle.stream_monitor.proofs.Words.{[], ◌∷◌, ◌≡◌, List, None, Some, false, refl, true, ℕ}
use Rattle.stream_monitor.specs.Formats.{are_at, format_of, is_edi, is_eti, is_other, is_sync}
use Rattle.stream_monitor.specs.declared.format.Format.TheVariants.{Eti, Edi}

-- a raw frame of ETI, and the next one
abbrev raw : List ℕ
raw = 255 ∷ 7 ∷ 58 ∷ 182 ∷ []

abbrev inverted : List ℕ
inverted = 255 ∷ 248 ∷ 197 ∷ 73 ∷ []

-- behind the size of the frame
abbrev streamed : List ℕ
streamed = 0 ∷ 24 ∷ raw

-- behind the number of frames, and the size
abbrev framed : List ℕ
framed = 1 ∷ 0 ∷ 0 ∷ 0 ∷ streamed

-- an AF packet of 24 bytes, number 1, with a check sum, version 1.0, of tags
abbrev packet : List ℕ
packet = 65 ∷ 70 ∷ 0 ∷ 0 ∷ 0 ∷ 24 ∷ 0 ∷ 1 ∷ 144 ∷ 84 ∷ []

-- the same of another type
abbrev of_other_type : List ℕ
of_other_type = 65 ∷ 70 ∷ 0 ∷ 0 ∷ 0 ∷ 24 ∷ 0 ∷ 1 ∷ 144 ∷ 85 ∷ []

-- fragment 2 of 5 of a packet, and what has more fragments than there can be
abbrev fragment : List ℕ
fragment = 80 ∷ 70 ∷ 0 ∷ 1 ∷ 0 ∷ 0 ∷ 2 ∷ 0 ∷ 0 ∷ 5 ∷ []

abbrev no_fragment : List ℕ
no_fragment = 80 ∷ 70 ∷ 0 ∷ 1 ∷ 0 ∷ 0 ∷ 2 ∷ 9 ∷ 0 ∷ 5 ∷ []

-- a FIB that begins with a FIG 0/0
abbrev fib : List ℕ
fib = 5 ∷ 0 ∷ 225 ∷ 197 ∷ 0 ∷ 0 ∷ 255 ∷ 0 ∷ 0 ∷ 0 ∷ []

stands_there : are_at raw 1 7 58 182 ≡ true
stands_there = refl

stands_not_there : are_at raw 0 7 58 182 ≡ false
stands_not_there = refl

a_sync : is_sync inverted 1 ≡ true
a_sync = refl

no_sync : is_sync inverted 2 ≡ false
no_sync = refl

in_each_form : (is_eti raw ≡ true) × (is_eti inverted ≡ true) × (is_eti streamed ≡ true) × (is_eti framed ≡ true)
in_each_form = (refl, refl, refl, refl)

no_eti : is_eti packet ≡ false
no_eti = refl

in_packets : (is_edi packet ≡ true) × (is_edi fragment ≡ true)
in_packets = (refl, refl)

in_no_packets : (is_edi of_other_type ≡ false) × (is_edi no_fragment ≡ false) × (is_edi raw ≡ false)
in_no_packets = (refl, refl, refl)

one_or_the_other : (is_other framed ≡ true) × (is_other fragment ≡ true)
one_or_the_other = (refl, refl)

neither : is_other fib ≡ false
neither = refl

formats : (format_of raw ≡ Some Eti) × (format_of packet ≡ Some Edi) × (format_of fib ≡ None)
formats = (refl, refl, refl)
