-- What a listener and the checker of streams know of FIBs that were filled.
use Rattle.std.specs.Prelude.{◌≡◌, ◌↔◌, ℕ, Bool, true, List, [], ◌∷◌, ◌++◌, length, map, flat_map, Option, Some, None}
use Rattle.std.specs.List.{list_all}
use Rattle.mux_types.specs.Facts.{Marked}
use Rattle.fib_codec.specs.Grammar.{Other}
use Rattle.fib_codec.specs.Heard.{IsInFib}
use Rattle.stream_check.specs.Listening.{Listening, untuned, hear_figs}
use Rattle.stream_check.specs.Frames.{Fib, Reading, IsFramed}
use Rattle.stream_check.specs.Stream.{findings_of, frames_full}
use Rattle.fig_merge.specs.Taking.{Merging, IsMerging, nothing_taken, after_take}
use Rattle.fig_merge.specs.Filling.{merged, carried_by, after_fill, agrees_with, hearing}
use Rattle.fig_merge.specs.Steps.{Step, Take, Fill}

-- a FIB of the plan with the FIGs that are carried in it behind its own; a damaged one stays damaged
abbrev pub with_carried : Fib → List (List ℕ) → Fib
with_carried None carried = None
with_carried (Some figs) carried = Some (figs ++ map Other carried)

-- the law of filling: the filled FIB is damaged where the plan's is, and otherwise read as the plan's FIGs, in order,
-- followed by those that are carried, with their bytes
abbrev pub FilledIsRead : Type 0
FilledIsRead =
    (r : Reading) (bytes : List ℕ) (m : Merging) → IsMerging m
    → r.read (merged bytes (r.read bytes) m) ≡ with_carried (r.read bytes) (carried_by (r.read bytes) m)

-- what a listener knows after a FIB; a damaged one changes nothing
abbrev pub hear_fib : Fib → Listening → Option Listening
hear_fib None l = Some l
hear_fib (Some figs) l = hear_figs figs l

-- the law of hearing: from every state, a listener knows the same after the filled FIB as after the plan's
abbrev pub FilledIsHeardAlike : Type 0
FilledIsHeardAlike =
    (r : Reading) (bytes : List ℕ) (m : Merging) (l : Listening) → IsMerging m
    → hear_fib (r.read (merged bytes (r.read bytes) m)) l ≡ hear_fib (r.read bytes) l

-- the law of entries: the tagged entries of this ensemble in the filled FIB are those in the plan's, by the bytes alone
abbrev pub FilledHasTheEntries : Type 0
FilledHasTheEntries =
    (r : Reading) (bytes : List ℕ) (m : Merging) (entry : Marked) → IsMerging m
    → IsInFib (merged bytes (r.read bytes) m) entry ↔ IsInFib bytes entry

-- the law of lengths
abbrev pub FilledIsAsLong : Type 0
FilledIsAsLong = (r : Reading) (bytes : List ℕ) (m : Merging) → IsMerging m
    → length (merged bytes (r.read bytes) m) ≡ length bytes

-- ---- streams

-- whether the FIGs that are carried in a FIB of the plan may be, given what a listener knows before it
abbrev pub Judge : Type 0
Judge = Listening → Fib → List (List ℕ) → Bool

-- whatever they are; and only if each agrees with the current configuration, as far as it was heard with the FIB
abbrev pub any_carried : Judge
any_carried l fib carried = true

abbrev pub agreeing : Judge
agreeing l None carried = true
agreeing l (Some figs) carried = list_all (agrees_with figs l) carried

-- what a listener knows after a FIB, or FIBs; where it has no room for an entry, what it knew before the FIB
abbrev pub hearing_fib : Fib → Listening → Listening
hearing_fib None l = l
hearing_fib (Some figs) l = hearing figs l

abbrev pub hearing_fibs : List Fib → Listening → Listening
hearing_fibs [] l = l
hearing_fibs (fib ∷ fibs) l = hearing_fibs fibs (hearing_fib fib l)

-- FIBs of a plan as they are read, one after the other, and the same FIBs with FIGs carried behind theirs, where these
-- may be, for a listener that is in this state before them
abbrev pub AreFilled : Judge → Listening → List Fib → List Fib → Type 0
AreFilled may l [] sent = sent ≡ []
AreFilled may l (fib ∷ fibs) sent =
    (carried : List (List ℕ)) × (others : List Fib) × (sent ≡ with_carried fib carried ∷ others)
    × (may l fib carried ≡ true) × AreFilled may (hearing_fib fib l) fibs others

-- the FIBs that are filled in these steps, and their bytes afterwards
abbrev pub fibs_in : Reading → List Step → List Fib
fibs_in r [] = []
fibs_in r (Take fib ∷ ss) = fibs_in r ss
fibs_in r (Fill fib ∷ ss) = r.read fib ∷ fibs_in r ss

abbrev pub sent_in : Reading → List Step → Merging → List (List ℕ)
sent_in r [] m = []
sent_in r (Take fib ∷ ss) m = sent_in r ss (after_take (r.read fib) m)
sent_in r (Fill fib ∷ ss) m = merged fib (r.read fib) m ∷ sent_in r ss (after_fill (r.read fib) m)

-- the law of streams: after any sequence of calls of a new merger, and each FIG that is carried agrees
abbrev pub AllAreFilled : Type 0
AllAreFilled =
    (r : Reading) (steps : List Step)
    → AreFilled agreeing untuned (fibs_in r steps) (map r.read (sent_in r steps nothing_taken))

-- frames of them
abbrev pub AreFilledFrames : Judge → Listening → List (List Fib) → List (List Fib) → Type 0
AreFilledFrames may l [] sent = sent ≡ []
AreFilledFrames may l (frame ∷ frames) sent =
    (first : List Fib) × (others : List (List Fib)) × (sent ≡ first ∷ others)
    × AreFilled may l frame first × AreFilledFrames may (hearing_fibs frame l) frames others

-- the law of checking: in the frames of a stream with FIGs carried behind its own that agree, the checker finds what it
-- finds in the frames of the stream
abbrev pub FilledIsCheckedAlike : Type 0
FilledIsCheckedAlike =
    (size step period : ℕ) (frames sent : List (List Fib)) → AreFilledFrames agreeing untuned frames sent
    → findings_of size step period [] sent ≡ findings_of size step period [] frames

-- the law of room: whatever is carried, the checker has room for all entries of both, or of neither
abbrev pub FilledIsFullAlike : Type 0
FilledIsFullAlike =
    (may : Judge) (l : Listening) (step period : ℕ) (frames sent : List (List Fib)) → AreFilledFrames may l frames sent
    → frames_full step period [] sent ≡ frames_full step period [] frames

-- a stream filled so
pub record IsFramedAlike (may : Judge) (size : ℕ) (skipped : List Fib) (frames : List (List Fib))
    (rest sent : List Fib) : Type 0 where
  pub skipped_sent : List Fib
  pub frames_sent : List (List Fib)
  pub rest_sent : List Fib
  pub framed : IsFramed size sent skipped_sent frames_sent rest_sent
  pub skipped_alike : AreFilled may untuned skipped skipped_sent
  pub frames_alike : AreFilledFrames may untuned frames frames_sent
  pub rest_alike : AreFilled may (hearing_fibs (flat_map (λ frame. frame) frames) untuned) rest rest_sent

-- the law of framing: whatever is carried, such a stream is cut into frames at the same places
abbrev pub FilledIsFramedAlike : Type 0
FilledIsFramedAlike =
    (may : Judge) (size : ℕ) (stream sent skipped : List Fib) (frames : List (List Fib)) (rest : List Fib)
    → AreFilled may untuned stream sent → IsFramed size stream skipped frames rest
    → IsFramedAlike may size skipped frames rest sent
