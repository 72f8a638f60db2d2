-- Merging two streams: the frames so far, one more of each, and how it ends.
use Rattle.cli_streams.proofs.Words.{[], ◌++◌, ◌∙◌, ◌∷◌, ◌≡◌, ◌≤◌, ◌⊎◌, AllByRecursion, Appends, Appends-kept, Bool}
use Rattle.cli_streams.proofs.Words.{Consumes, Consumes-nil, Done, Keeps, List, Merging, None, Option, Reading, Some}
use Rattle.cli_streams.proofs.Words.{Status, TakesFrames, after_filling, after_frame_filled, after_merging}
use Rattle.cli_streams.proofs.Words.{after_taking, ap, append-nil, append_known, arith, bytes_of, concat, concat-append}
use Rattle.cli_streams.proofs.Words.{fibs_of_stream, filled_frame, frame_filled, inl, inr, length, map, map-append}
use Rattle.cli_streams.proofs.Words.{merged_frames, next_of, nothing_taken, refl, subst, suc, sym, true, ℕ}
use Rattle.cli_streams.proofs.Merging.{merged_next, after_next, bytes_next}

pub record MergesSoFar (size : ℕ) (plan plan_left other other_left old new : Option (List ℕ)) (is_open : Bool)
    (status : Status) (count : ℕ) (m : Merging) : Type 0 where
  pub frames : List (List ℕ)
  pub taken : List (List ℕ)
  pub number : length frames ≡ count
  pub whole : AllByRecursion (λ frame. length frame ≡ size) frames
  pub bytes : Consumes plan plan_left (concat frames)
  pub takes : TakesFrames size other other_left is_open status count taken
  pub merger : (r : Reading) → m ≡ after_merging r (map fibs_of_stream frames) (map fibs_of_stream taken) nothing_taken
  pub written : (r : Reading) → Appends old new (bytes_of
      (merged_frames r (map fibs_of_stream frames) (map fibs_of_stream taken) nothing_taken))

-- before the first frame
pub none_taken : (size : ℕ) (other : Option (List ℕ)) (is_open : Bool) (status : Status) → is_open ≡ true
    → status ≡ Done → TakesFrames size other other is_open status 0 []
none_taken size other is_open status opened done =
    subst (λ (b : Bool). TakesFrames size other other b status 0 []) (sym opened)
    (subst (λ (s : Status). TakesFrames size other other true s 0 []) (sym done)
    (record { cut = []; whole = tt; bytes = Consumes-nil other; ends = (refl, refl) }))

abbrev pub none_merged : (size : ℕ) (plan other old now : Option (List ℕ)) (is_open : Bool) (status : Status)
    (m : Merging) → Appends old now [] → is_open ≡ true → status ≡ Done → m ≡ nothing_taken
    → MergesSoFar size plan plan other other old now is_open status 0 m
none_merged size plan other old now is_open status m none opened done new = record {
  frames = [];
  taken = [];
  number = refl;
  whole = tt;
  bytes = Consumes-nil plan;
  takes = none_taken size other is_open status opened done;
  merger = λ r. new;
  written = λ r. none;
}

-- nothing is held at first
pub none_held : (known : Option (List ℕ)) (held : List ℕ) → held ≡ [] → Appends known (append_known known held) []
none_held None held none = tt
none_held (Some x) held none = ap (λ (l : List ℕ). x ++ l) none

-- what was finished so far is kept
abbrev pub kept_on : {size count : ℕ} {plan plan_left other other_left old now kept : Option (List ℕ)} {is_open : Bool}
    {status : Status} {m : Merging}
    → MergesSoFar size plan plan_left other other_left old now is_open status count m → Keeps now kept
    → MergesSoFar size plan plan_left other other_left old kept is_open status count m
kept_on {size} {count} {plan} {plan_left} {other} {other_left} {old} {now} {kept} so_far keeps = record {
  frames = so_far.frames;
  taken = so_far.taken;
  number = so_far.number;
  whole = so_far.whole;
  bytes = so_far.bytes;
  takes = so_far.takes;
  merger = so_far.merger;
  written = λ r. Appends-kept old now kept _ (so_far.written r) keeps;
}

-- ---- one more frame

pub concat_next : (frames : List (List ℕ)) (frame : List ℕ) → concat (frames ++ frame ∷ []) ≡ concat frames ++ frame
concat_next frames frame = concat-append frames (frame ∷ [])
    ∙ ap (λ (l : List ℕ). concat frames ++ l) (append-nil frame)

fibs_next : (frames : List (List ℕ)) (frame : List ℕ) → map fibs_of_stream (frames ++ frame ∷ [])
    ≡ map fibs_of_stream frames ++ fibs_of_stream frame ∷ []
fibs_next frames frame = map-append fibs_of_stream frames (frame ∷ [])

pub length-fibs : (frames : List (List ℕ)) → length (map fibs_of_stream frames) ≡ length frames
length-fibs [] = refl
length-fibs (f ∷ fs) = ap suc (length-fibs fs)

turn_of : (count : ℕ) (frames taken next : List (List ℕ)) → length frames ≡ count → (length taken ≡ count)
    ⊎ ((length taken ≤ count) × (next ≡ []))
    → (length (map fibs_of_stream taken) ≡ length (map fibs_of_stream frames))
    ⊎ ((length (map fibs_of_stream taken) ≤ length (map fibs_of_stream frames)) × (map fibs_of_stream next ≡ []))
turn_of count frames taken next number (inl e) = inl (length-fibs taken ∙ e ∙ sym number ∙ sym (length-fibs frames))
turn_of count frames taken next number (inr (le, e)) =
    inr (omega (arith, le, number, length-fibs taken, length-fibs frames), ap (map fibs_of_stream) e)

-- the merged frames with one more of the plan, and the next one of the multiplexer
module _ (r : Reading) (count : ℕ) (frames taken next : List (List ℕ)) (frame : List ℕ) (old mid new : Merging)
    (number : length frames ≡ count)
    (turn : (length taken ≡ count) ⊎ ((length taken ≤ count) × (next ≡ [])))
    (before : old ≡ after_merging r (map fibs_of_stream frames) (map fibs_of_stream taken) nothing_taken)
    (take_next : mid ≡ after_taking r (next_of (map fibs_of_stream next)) old) where
  abbrev so_far : List (List (List ℕ))
  so_far = merged_frames r (map fibs_of_stream frames) (map fibs_of_stream taken) nothing_taken

  mid_is : mid ≡ after_taking r (next_of (map fibs_of_stream next))
      (after_merging r (map fibs_of_stream frames) (map fibs_of_stream taken) nothing_taken)
  mid_is = take_next ∙ ap (after_taking r (next_of (map fibs_of_stream next))) before

  pub frames_next : merged_frames r (map fibs_of_stream (frames ++ frame ∷ [])) (map fibs_of_stream (taken ++ next))
      nothing_taken
      ≡ so_far ++ filled_frame r (fibs_of_stream frame) mid ∷ []
  frames_next =
      ap (λ (l : List (List (List ℕ))). merged_frames r l (map fibs_of_stream (taken ++ next)) nothing_taken)
      (fibs_next frames frame)
      ∙ ap (λ (l : List (List (List ℕ))). merged_frames r (map fibs_of_stream frames ++ fibs_of_stream frame ∷ []) l
      nothing_taken) (map-append fibs_of_stream taken next)
      ∙ merged_next r (map fibs_of_stream frames) (fibs_of_stream frame) (map fibs_of_stream taken)
      (map fibs_of_stream next) nothing_taken (turn_of count frames taken next number turn)
      ∙ ap (λ (m : Merging). so_far ++ filled_frame r (fibs_of_stream frame) m ∷ []) (sym mid_is)

  pub merger_next : new ≡ after_frame_filled r frame mid
      → new ≡ after_merging r (map fibs_of_stream (frames ++ frame ∷ [])) (map fibs_of_stream (taken ++ next))
      nothing_taken
  merger_next filled =
      filled ∙ ap (after_filling r (fibs_of_stream frame)) mid_is
      ∙ sym (after_next r (map fibs_of_stream frames) (fibs_of_stream frame) (map fibs_of_stream taken)
      (map fibs_of_stream next) nothing_taken (turn_of count frames taken next number turn))
      ∙ sym (ap (λ (l : List (List (List ℕ))). after_merging r (map fibs_of_stream frames ++ fibs_of_stream frame ∷ [])
      l nothing_taken) (map-append fibs_of_stream taken next))
      ∙ sym (ap (λ (l : List (List (List ℕ))). after_merging r l (map fibs_of_stream (taken ++ next)) nothing_taken)
      (fibs_next frames frame))

  -- all of it, or the first bytes of the new frame
  pub bytes_of_all : bytes_of (merged_frames r (map fibs_of_stream (frames ++ frame ∷ []))
      (map fibs_of_stream (taken ++ next)) nothing_taken)
      ≡ bytes_of so_far ++ frame_filled r frame mid
  bytes_of_all = ap bytes_of frames_next ∙ bytes_next so_far (filled_frame r (fibs_of_stream frame) mid)
