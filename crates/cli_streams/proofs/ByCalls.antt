-- Merged frames are what the calls of a merger make of the plan's FIBs.
use Rattle.cli_streams.proofs.Words.{[], ◌++◌, ◌∙◌, ◌∷◌, ◌≡◌, Fib, Fill, IsMerging, List, Listening}
use Rattle.cli_streams.proofs.Words.{MergedAreCheckedAlike, MergedAreFilled, MergesByCalls, Merging, Reading, Step}
use Rattle.cli_streams.proofs.Words.{Take, after_fill, after_filling, after_steps, after_take, after_taking, ap}
use Rattle.cli_streams.proofs.Words.{append_assoc, arith, calls_of, carried_by, drop, fibs_in_frames, filled_frame, map}
use Rattle.cli_streams.proofs.Words.{map-append, merged, merged_frames, next_of, nothing_taken, refl, subst, sym, ℕ}
use Rattle.fig_merge.specs.Passing.{FilledIsRead, FilledIsCheckedAlike, agreeing, hearing_fibs, AreFilled}
use Rattle.fig_merge.specs.Passing.{AreFilledFrames, fibs_in, sent_in}
use Rattle.fig_merge.proofs.Alike.{take_heard, fill_heard, carried_agree}
use Rattle.fig_merge.proofs.Carried.{merging_step}

-- ---- the calls of one frame

sent_takes : (r : Reading) (fibs : List (List ℕ)) (ss : List Step) (m : Merging)
    → sent_in r (map Take fibs ++ ss) m ≡ sent_in r ss (after_taking r fibs m)
sent_takes r [] ss m = refl
sent_takes r (fib ∷ fibs) ss m = sent_takes r fibs ss (after_take (r.read fib) m)

sent_fills : (r : Reading) (fibs : List (List ℕ)) (ss : List Step) (m : Merging)
    → sent_in r (map Fill fibs ++ ss) m ≡ filled_frame r fibs m ++ sent_in r ss (after_filling r fibs m)
sent_fills r [] ss m = refl
sent_fills r (fib ∷ fibs) ss m =
    ap (λ (l : List (List ℕ)). merged fib (r.read fib) m ∷ l) (sent_fills r fibs ss (after_fill (r.read fib) m))

given_takes : (r : Reading) (fibs : List (List ℕ)) (ss : List Step) → fibs_in r (map Take fibs ++ ss) ≡ fibs_in r ss
given_takes r [] ss = refl
given_takes r (fib ∷ fibs) ss = given_takes r fibs ss

given_fills : (r : Reading) (fibs : List (List ℕ)) (ss : List Step) → fibs_in r (map Fill fibs ++ ss) ≡ map r.read fibs
    ++ fibs_in r ss
given_fills r [] ss = refl
given_fills r (fib ∷ fibs) ss = ap (λ (l : List Fib). r.read fib ∷ l) (given_fills r fibs ss)

after_takes : (r : Reading) (fibs : List (List ℕ)) (ss : List Step) (m : Merging)
    → after_steps r (map Take fibs ++ ss) m ≡ after_steps r ss (after_taking r fibs m)
after_takes r [] ss m = refl
after_takes r (fib ∷ fibs) ss m = after_takes r fibs ss (after_take (r.read fib) m)

after_fills : (r : Reading) (fibs : List (List ℕ)) (ss : List Step) (m : Merging)
    → after_steps r (map Fill fibs ++ ss) m ≡ after_steps r ss (after_filling r fibs m)
after_fills r [] ss m = refl
after_fills r (fib ∷ fibs) ss m = after_fills r fibs ss (after_fill (r.read fib) m)

-- ---- all frames

pub by_calls : MergesByCalls
by_calls r [] other m = record { given = refl; sent = refl; after = refl }
by_calls r (frame ∷ frames) other m =
    let next = next_of other in
    let calls = calls_of frames (drop 1 other) in
    let taken = after_taking r next m in
    let rest = by_calls r frames (drop 1 other) (after_filling r frame taken) in
    let cut : calls_of (frame ∷ frames) other ≡ map Take next ++ (map Fill frame ++ calls) =
    append_assoc (map Take next) (map Fill frame) calls in
    record {
      given = ap (fibs_in r) cut ∙ given_takes r next (map Fill frame ++ calls) ∙ given_fills r frame calls
          ∙ ap (λ (l : List Fib). map r.read frame ++ l) rest.given
          ∙ sym (map-append r.read frame (fibs_in_frames frames));
      sent = ap (λ (l : List Step). sent_in r l m) cut ∙ sent_takes r next (map Fill frame ++ calls) m
          ∙ sent_fills r frame calls taken
          ∙ ap (λ (l : List (List ℕ)). filled_frame r frame taken ++ l) rest.sent;
      after = ap (λ (l : List Step). after_steps r l m) cut ∙ after_takes r next (map Fill frame ++ calls) m
          ∙ after_fills r frame calls taken
          ∙ rest.after;
    }

-- ---- FIGs behind those of the plan

merging_taken : (r : Reading) (fibs : List (List ℕ)) (m : Merging) → IsMerging m → IsMerging (after_taking r fibs m)
merging_taken r [] m h = h
merging_taken r (fib ∷ fibs) m h = merging_taken r fibs (after_take (r.read fib) m) (merging_step r (Take fib) m h)

merging_filled : (r : Reading) (fibs : List (List ℕ)) (m : Merging) → IsMerging m → IsMerging (after_filling r fibs m)
merging_filled r [] m h = h
merging_filled r (fib ∷ fibs) m h = merging_filled r fibs (after_fill (r.read fib) m) (merging_step r (Fill fib) m h)

-- what the merger has heard
heard_taking : (r : Reading) (fibs : List (List ℕ)) (m : Merging) → (after_taking r fibs m).heard ≡ m.heard
heard_taking r [] m = refl
heard_taking r (fib ∷ fibs) m = heard_taking r fibs (after_take (r.read fib) m) ∙ take_heard (r.read fib) m

heard_filling : (r : Reading) (fibs : List (List ℕ)) (m : Merging)
    → (after_filling r fibs m).heard ≡ hearing_fibs (map r.read fibs) m.heard
heard_filling r [] m = refl
heard_filling r (fib ∷ fibs) m = heard_filling r fibs (after_fill (r.read fib) m)
    ∙ ap (hearing_fibs (map r.read fibs)) (fill_heard (r.read fib) m)

frame_is_filled : FilledIsRead → (r : Reading) (fibs : List (List ℕ)) (m : Merging) → IsMerging m
    → AreFilled agreeing m.heard (map r.read fibs) (map r.read (filled_frame r fibs m))
frame_is_filled law r [] m h = refl
frame_is_filled law r (fib ∷ fibs) m h =
    let later = after_fill (r.read fib) m in
    let sent = map r.read (filled_frame r fibs later) in (
      carried_by (r.read fib) m,
      sent,
      ap (λ (f : Fib). f ∷ sent) (law r fib m h),
      carried_agree (r.read fib) m,
      subst (λ (l : Listening). AreFilled agreeing l (map r.read fibs) sent) (fill_heard (r.read fib) m)
          (frame_is_filled law r fibs later (merging_step r (Fill fib) m h)),
    )

frames_are_filled : FilledIsRead → (r : Reading) (plan other : List (List (List ℕ))) (m : Merging) → IsMerging m
    → AreFilledFrames agreeing m.heard (map (map r.read) plan) (map (map r.read) (merged_frames r plan other m))
frames_are_filled law r [] other m h = refl
frames_are_filled law r (frame ∷ frames) other m h =
    let taken = after_taking r (next_of other) m in
    let later = after_filling r frame taken in
    let valid = merging_taken r (next_of other) m h in
    let before = heard_taking r (next_of other) m in
    let first = map r.read (filled_frame r frame taken) in
    let others = map (map r.read) (merged_frames r frames (drop 1 other) later) in (
      first,
      others,
      refl,
      subst (λ (l : Listening). AreFilled agreeing l (map r.read frame) first) before
          (frame_is_filled law r frame taken valid),
      subst (λ (l : Listening). AreFilledFrames agreeing l (map (map r.read) frames) others)
          (heard_filling r frame taken ∙ ap (hearing_fibs (map r.read frame)) before)
          (frames_are_filled law r frames (drop 1 other) later (merging_filled r frame taken valid)),
    )

pub merged_are_filled : FilledIsRead → MergedAreFilled
merged_are_filled law r plan other =
    frames_are_filled law r plan other nothing_taken (record { few = omega arith; passed_over = tt })

pub merged_alike : FilledIsRead → FilledIsCheckedAlike → MergedAreCheckedAlike
merged_alike law checked r plan other size step period =
    checked size step period (map (map r.read) plan) (map (map r.read) (merged_frames r plan other nothing_taken))
    (merged_are_filled law r plan other)
