-- Merging two streams: one more frame, and the end of the plan's.
use Rattle.cli_streams.proofs.Words.{[], ◌++◌, ◌+◌, ◌∙◌, ◌∷◌, ◌≡◌, AllByRecursion, AllByRecursion-append, Appends}
use Rattle.cli_streams.proofs.Words.{Appends-trans, Bool, Consumes, Consumes-trans, IsAtEnd, List, MergeSummary, Merges}
use Rattle.cli_streams.proofs.Words.{Merging, Ok, Option, Reading, ReadsFrame, Status, TakesFrames, TakesNext}
use Rattle.cli_streams.proofs.Words.{after_frame_filled, ap, append-nil, bytes_of, concat, false, fibs_of_stream}
use Rattle.cli_streams.proofs.Words.{frame_filled, length, length-append, map, merged_frames, nothing_taken, subst}
use Rattle.cli_streams.proofs.Words.{summary_of, sym, true, ℕ}
use Rattle.cli_streams.proofs.MergingStreams.{MergesSoFar, concat_next, merger_next, bytes_of_all}

-- a frame of the plan that was read, and filled behind the FIGs of the multiplexer's next one
pub record MergesOne (size : ℕ) (plan_left other other_left : Option (List ℕ)) (plan_now other_now : Option (List ℕ))
    (is_open : Bool) (status : Status) (count : ℕ) (taken : List (List ℕ)) (old mid new : Merging)
    (frame filled : List ℕ) : Type 0 where
  pub whole : length frame ≡ size
  pub bytes : Consumes plan_left plan_now frame
  pub takes : TakesNext size other other_now is_open status count taken old mid
  pub filled_is : (r : Reading) → filled ≡ frame_filled r frame mid
  pub merger : (r : Reading) → new ≡ after_frame_filled r frame mid

pub whole_read : (left now : Option (List ℕ)) (frame : List ℕ) (more : Bool) → more ≡ true
    → ReadsFrame left now frame (Ok more) → Consumes left now frame
whole_read left now frame true is read = read
whole_read left now frame false is read = absurd (cc)

-- what is taken of a frame of this size, whatever was before
abbrev pub TakesOn : ℕ → (left now : Option (List ℕ)) → (was_open is_open : Bool) → (was status : Status)
    → (old new : Merging) → Type 0
TakesOn size left now was_open is_open was status old new =
    (before : Option (List ℕ)) (count : ℕ) (taken : List (List ℕ))
    → TakesFrames size before left was_open was count taken
    → TakesNext size before now is_open status count taken old new

pub one_of : (had : List ℕ) {size count : ℕ}
    {plan plan_left plan_now other other_left other_now old written : Option (List ℕ)} {was_open is_open more : Bool}
    {before status : Status} {m mid new : Merging} {frame filled : List ℕ}
    → (so_far : MergesSoFar size plan plan_left other other_left old written was_open before count m)
    → length had ≡ size → length frame ≡ length had → more ≡ true
    → ReadsFrame plan_left plan_now frame (Ok more) → TakesOn (length frame) other_left other_now was_open is_open
    before status m mid
    → ((r : Reading) → filled ≡ frame_filled r frame mid) → ((r : Reading) → new ≡ after_frame_filled r frame mid)
    → MergesOne size plan_left other other_left plan_now other_now is_open status count so_far.taken m mid new frame
    filled
one_of had {size} {count} {plan} {plan_left} {plan_now} {other} {other_left} {other_now} {old} {written} {was_open}
    {is_open} {more} {before} {status} {m} {mid} {new} {frame} {filled} so_far same kept is read takes fills after =
    let sized : TakesOn size other_left other_now was_open is_open before status m mid =
    subst (λ s. TakesOn s other_left other_now was_open is_open before status m mid) (kept ∙ same) takes in
    record {
      whole = kept ∙ same;
      bytes = whole_read plan_left plan_now frame more is read;
      takes = sized other count so_far.taken so_far.takes;
      filled_is = fills;
      merger = after;
    }

module _ {size count : ℕ} {plan plan_left plan_now other other_left other_now old written : Option (List ℕ)}
    {was_open is_open : Bool} {before status : Status} {m mid new : Merging} {frame filled : List ℕ}
    (now : Option (List ℕ))
    (so_far : MergesSoFar size plan plan_left other other_left old written was_open before count m)
    (one : MergesOne size plan_left other other_left plan_now other_now is_open status count so_far.taken m mid new
    frame filled) where
  abbrev frames : List (List ℕ)
  frames = so_far.frames ++ frame ∷ []

  abbrev taken : List (List ℕ)
  taken = so_far.taken ++ one.takes.next

  pub long : length frames ≡ count + 1
  long = length-append so_far.frames (frame ∷ []) ∙ ap (λ n. n + 1) so_far.number

  pub all_whole : AllByRecursion (λ f. length f ≡ size) frames
  all_whole = AllByRecursion-append (λ f. length f ≡ size) so_far.frames (frame ∷ []) so_far.whole (one.whole, tt)

  pub consumed : Consumes plan plan_now (concat frames)
  consumed = subst (Consumes plan plan_now) (sym (concat_next so_far.frames frame))
      (Consumes-trans plan plan_left plan_now (concat so_far.frames) frame so_far.bytes one.bytes)

  -- all of it is written
  pub text : (r : Reading) → Appends written now filled
      → Appends old now (bytes_of
      (merged_frames r (map fibs_of_stream frames) (map fibs_of_stream taken) nothing_taken))
  text r put =
      subst (Appends old now)
      (ap (λ (l : List ℕ). bytes_of
      (merged_frames r (map fibs_of_stream so_far.frames) (map fibs_of_stream so_far.taken) nothing_taken) ++ l)
      (one.filled_is r)
      ∙ sym (bytes_of_all r count so_far.frames so_far.taken one.takes.next frame m mid new so_far.number
      one.takes.in_turn (so_far.merger r) (one.takes.after r)))
      (Appends-trans old written now _ filled (so_far.written r) put)

  abbrev pub one_more : Appends written now filled → MergesSoFar size plan plan_now other other_now old now is_open
      status (count + 1) new
  one_more put = record {
    frames = frames;
    taken = taken;
    number = long;
    whole = all_whole;
    bytes = consumed;
    takes = one.takes.takes;
    merger = λ r. merger_next r count so_far.frames so_far.taken one.takes.next frame m mid new so_far.number
        one.takes.in_turn (so_far.merger r) (one.takes.after r) (one.merger r);
    written = λ r. text r put;
  }

module _ {size count : ℕ} {plan plan_left other other_left old written : Option (List ℕ)} {is_open : Bool}
    {status : Status} {m : Merging}
    (so_far : MergesSoFar size plan plan_left other other_left old written is_open status count m) where
  number_taken : TakesFrames size other other_left is_open status (length so_far.frames) so_far.taken
  number_taken = subst (λ n. TakesFrames size other other_left is_open status n so_far.taken) (sym so_far.number)
      so_far.takes

  -- the plan's frames end
  pub ends_whole : (plan_now : Option (List ℕ)) (summary : MergeSummary) → Consumes plan_left plan_now []
      → IsAtEnd plan_now → summary ≡ summary_of count m
      → Merges size plan other old written status summary
  ends_whole plan_now summary consumed end is = record {
    frames = so_far.frames;
    taken = so_far.taken;
    plan_left = plan_now;
    other_left = other_left;
    is_open = is_open;
    whole = so_far.whole;
    bytes = subst (Consumes plan plan_now) (append-nil (concat so_far.frames))
        (Consumes-trans plan plan_left plan_now (concat so_far.frames) [] so_far.bytes consumed);
    end = end;
    takes = number_taken;
    counts = λ r. is ∙ ap (λ n. summary_of n m) (sym so_far.number)
        ∙ ap (summary_of (length so_far.frames)) (so_far.merger r);
    written = so_far.written;
  }
