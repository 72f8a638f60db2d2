-- Merged FIBs are heard and checked as the plan's.
use Rattle.stream_laws.proofs.Words.{[], ◌++◌, ◌↔◌, ◌∙◌, ◌∷◌, ◌≡◌, AllByRecursion, AreFibBytes, Fib, Fig}
use Rattle.stream_laws.proofs.Words.{FramesAreOfBytes, HearsAll, HearsFib, IsFibBytes, IsFramed, List}
use Rattle.stream_laws.proofs.Words.{ListenersAreRight, Listening, None, OneList, Other, Reading, Reads}
use Rattle.stream_laws.proofs.Words.{RunsAreFaultless, RunsAreFramed, Some, SwapsAreAnnounced, ap, arith, count_step}
use Rattle.stream_laws.proofs.Words.{fibs_of, flat_map, frame_fibs, frames_of, hear_figs, layout_mode, map, read_frames}
use Rattle.stream_laws.proofs.Words.{refl, run, run_frames, subst, sym, untuned, ℕ}
use Rattle.fig_merge.specs.Taking.{Merging, IsMerging, nothing_taken, after_take}
use Rattle.fig_merge.specs.Filling.{merged, carried_by, after_fill}
use Rattle.fig_merge.specs.Steps.{Step, Take, Fill}
use Rattle.fig_merge.specs.Passing.{with_carried, FilledIsRead, hear_fib, FilledIsHeardAlike, FilledHasTheEntries}
use Rattle.fig_merge.specs.Passing.{FilledIsAsLong, agreeing, AreFilled, fibs_in, sent_in, AllAreFilled}
use Rattle.fig_merge.specs.Passing.{FilledIsCheckedAlike, FilledIsFullAlike, FilledIsFramedAlike}
use Rattle.fig_merge.proofs.Carried.{merging_step}
use Rattle.stream_laws.specs.Merging.{filled_in, IsMergedOf, HaveSameEntries, MergedHaveTheEntries, MergedAreHeardAlike}
use Rattle.stream_laws.specs.Merging.{MergedListenersAreRight, MergedRunsAreFaultless, MergedSwapsAreAnnounced}
use Rattle.stream_laws.proofs.Bytes.{is_read}
use Rattle.stream_laws.proofs.Clean.{all_left, all_right}

-- ---- one FIB

-- a listener hears a FIB as it is read
record HearsRead (r : Reading) (bytes : List ℕ) (old new : Listening) : Type 0 where
  figs : List Fig
  is : r.read bytes ≡ Some figs
  heard : hear_figs figs old ≡ Some new

heard_read : OneList → (r : Reading) (bytes : List ℕ) (old new : Listening) → HearsFib bytes old new
    → HearsRead r bytes old new
heard_read one r bytes old new h = record { figs = h.0; is = is_read one r bytes h.0 h.1; heard = h.2 }

read_heard : (r : Reading) (bytes : List ℕ) (old new : Listening) → HearsRead r bytes old new → HearsFib bytes old new
read_heard r bytes old new h = (h.figs, subst (λ (f : Fib). Reads bytes f) h.is (r.right bytes), h.heard)

plan_figs : (fib : Fib) (carried : List (List ℕ)) (figs : List Fig) → with_carried fib carried ≡ Some figs
    → (own : List Fig) × (fib ≡ Some own)
plan_figs None carried figs e = absurd (cc)
plan_figs (Some own) carried figs e = (own, refl)

fib_alike : OneList → FilledIsRead → FilledIsHeardAlike
    → (r : Reading) (bytes : List ℕ) (m : Merging) (old new : Listening) → IsMerging m
    → HearsFib (merged bytes (r.read bytes) m) old new ↔ HearsFib bytes old new
fib_alike one read heard r bytes m old new valid =
    let sent = merged bytes (r.read bytes) m in
    let carried = carried_by (r.read bytes) m in (
      λ there.
          let h = heard_read one r sent old new there in
          let own = plan_figs (r.read bytes) carried h.figs (sym (read r bytes m valid) ∙ h.is) in
          read_heard r bytes old new (record {
            figs = own.0;
            is = own.1;
            heard = ap (λ (f : Fib). hear_fib f old) (sym own.1) ∙ sym (heard r bytes m old valid)
                ∙ ap (λ (f : Fib). hear_fib f old) h.is ∙ h.heard;
          }),
      λ there.
          let h = heard_read one r bytes old new there in
          let is = read r bytes m valid ∙ ap (λ (f : Fib). with_carried f carried) h.is in
          read_heard r sent old new (record {
            figs = h.figs ++ map Other carried;
            is = is;
            heard = ap (λ (f : Fib). hear_fib f old) (sym is) ∙ heard r bytes m old valid
                ∙ ap (λ (f : Fib). hear_fib f old) h.is ∙ h.heard;
          }),
    )

-- ---- entries

calls_have : FilledHasTheEntries → FilledIsAsLong → (r : Reading) (calls : List Step) (m : Merging) → IsMerging m
    → HaveSameEntries (filled_in calls) (sent_in r calls m)
calls_have entries long r [] m valid = refl
calls_have entries long r (Take fib ∷ calls) m valid =
    calls_have entries long r calls (after_take (r.read fib) m) (merging_step r (Take fib) m valid)
calls_have entries long r (Fill fib ∷ calls) m valid =
    let later = after_fill (r.read fib) m in (
      merged fib (r.read fib) m,
      sent_in r calls later,
      refl,
      long r fib m valid,
      (λ entry. entries r fib m entry valid),
      calls_have entries long r calls later (merging_step r (Fill fib) m valid),
    )

pub merged_have_the_entries : FilledHasTheEntries → FilledIsAsLong → MergedHaveTheEntries
merged_have_the_entries entries long r fibs sent w =
    subst (λ (xs : List (List ℕ)). HaveSameEntries fibs xs) w.sends
    (subst (λ (xs : List (List ℕ)). HaveSameEntries xs (sent_in r w.calls nothing_taken)) w.fills
    (calls_have entries long r w.calls nothing_taken (record { few = omega arith; passed_over = tt })))

-- ---- listeners

calls_alike : OneList → FilledIsRead → FilledIsHeardAlike
    → (r : Reading) (calls : List Step) (m : Merging) (old new : Listening) → IsMerging m
    → HearsAll (sent_in r calls m) old new ↔ HearsAll (filled_in calls) old new
calls_alike one read heard r [] m old new valid = (λ h. h, λ h. h)
calls_alike one read heard r (Take fib ∷ calls) m old new valid =
    calls_alike one read heard r calls (after_take (r.read fib) m) old new (merging_step r (Take fib) m valid)
calls_alike one read heard r (Fill fib ∷ calls) m old new valid =
    let later = after_fill (r.read fib) m in
    let still = merging_step r (Fill fib) m valid in (
      λ h. (
        h.0,
        (fib_alike one read heard r fib m old h.0 valid).0 h.1,
        (calls_alike one read heard r calls later h.0 new still).0 h.2,
      ),
      λ h. (
        h.0,
        (fib_alike one read heard r fib m old h.0 valid).1 h.1,
        (calls_alike one read heard r calls later h.0 new still).1 h.2,
      ),
    )

pub merged_are_heard_alike : OneList → FilledIsRead → FilledIsHeardAlike → MergedAreHeardAlike
merged_are_heard_alike one read heard r fibs sent old new w =
    let base = calls_alike one read heard r w.calls _ old new (record { few = omega arith; passed_over = tt }) in
    rw (← w.sends) (rw (← w.fills) base)

pub merged_listeners : MergedAreHeardAlike → ListenersAreRight → MergedListenersAreRight
merged_listeners alike right r p s played =
    let known = right p s played in
    record {
      room = λ events sent w.
          let there = known.room events in
          (there.0, (alike r (fibs_of p.plan.layout (run_frames p s events)) sent untuned there.0 w).1 there.1);
      current = λ waiting window sent heard tuned phase long w h.
          known.current waiting window heard tuned phase long ((alike r _ sent untuned heard w).0 h);
      after_swap = λ waiting notice after fibs sent heard tuned is_notice until some w h.
          known.after_swap waiting notice after fibs heard tuned is_notice until some
          ((alike r _ sent untuned heard w).0 h);
    }

-- ---- the checker

fibs_read : (r : Reading) (calls : List Step) → fibs_in r calls ≡ map r.read (filled_in calls)
fibs_read r [] = refl
fibs_read r (Take fib ∷ calls) = fibs_read r calls
fibs_read r (Fill fib ∷ calls) = ap (λ (fs : List Fib). r.read fib ∷ fs) (fibs_read r calls)

are_filled : AllAreFilled → (r : Reading) (fibs sent : List (List ℕ)) → IsMergedOf r fibs sent
    → AreFilled agreeing untuned (map r.read fibs) (map r.read sent)
are_filled all r fibs sent w = rw (← w.sends) (rw (← fibs_read r w.calls ∙ ap (map r.read) w.fills) (all r w.calls))

pub merged_faultless : AllAreFilled → FilledIsFramedAlike → FilledIsCheckedAlike → FilledIsFullAlike → RunsAreFramed
    → FramesAreOfBytes → RunsAreFaultless → MergedRunsAreFaultless
merged_faultless all framed checked full runs cuts faultless r p s period waiting events sent played untold on_step w =
    let size = frame_fibs p.plan.layout in
    let step = count_step (layout_mode p.plan.layout) in
    let fibs = fibs_of p.plan.layout (run_frames p s (waiting ++ events)) in
    let skipped = map r.read (fibs_of p.plan.layout (run_frames p s waiting)) in
    let frames = read_frames r (frames_of p.plan.layout (run_frames p (run p s waiting) events)) in
    let a = framed agreeing size (map r.read fibs) (map r.read sent) skipped frames [] (are_filled all r fibs sent w)
    (runs r p s waiting events played untold on_step) in
    let same = checked size step period frames a.frames_sent a.frames_alike in
    let cut : IsFramed size (map r.read sent) a.skipped_sent a.frames_sent [] =
    subst (λ (rest : List Fib). IsFramed size (map r.read sent) a.skipped_sent a.frames_sent rest) a.rest_alike
    a.framed in
    record {
      skipped = a.skipped_sent;
      frames = a.frames_sent;
      framed = cut;
      cut = cuts r size sent a.skipped_sent a.frames_sent [] cut;
      findings = same;
      faultless = λ long.
          let none = faultless r p s period waiting events played on_step long in
          record {
            room = full agreeing untuned step period frames a.frames_sent a.frames_alike ∙ none.room;
            plain = rw same none.plain;
          };
    }

-- ---- swaps

frames_all : (P : List ℕ → Type 0) (frames : List (List (List ℕ))) → AllByRecursion P (flat_map (λ frame. frame) frames)
    → AllByRecursion (AllByRecursion P) frames
frames_all P [] h = tt
frames_all P (f ∷ fs) h = (
  all_left P f (flat_map (λ frame. frame) fs) h,
  frames_all P fs (all_right P f (flat_map (λ frame. frame) fs) h),
)

pub merged_announced : SwapsAreAnnounced → MergedSwapsAreAnnounced
merged_announced swaps r p s period events sent checked long bytes past i now next said swap whole is_now is_next
    shows_now shows_next =
    let size = frame_fibs p.plan.layout in
    let step = count_step (layout_mode p.plan.layout) in
    let cut = checked.cut in
    let framed = all_right IsFibBytes cut.before (flat_map (λ frame. frame) cut.bytes ++ cut.after)
    (subst (λ (xs : List (List ℕ)). AllByRecursion IsFibBytes xs) cut.whole bytes) in
    let all : AllByRecursion AreFibBytes cut.bytes = frames_all _ _ (all_left _ _ _ framed) in
    swaps r size step period cut.bytes past i now next all (rw cut.reads (checked.faultless long)) (rw cut.reads said)
    swap whole is_now is_next shows_now shows_next
