-- The entries of a filled FIB are those of the plan's, and the checker has room for those of both or of neither.
use Rattle.fig_merge.proofs.Words.{[], ◌++◌, ◌↔◌, ◌∙◌, ◌∷◌, ◌≡◌, AllByRecursion, AreFilledFrames, Bool, Contains}
use Rattle.fig_merge.proofs.Words.{Contains-append_cases, Contains-append_left, Fib, Fig, FilledHasTheEntries}
use Rattle.fig_merge.proofs.Words.{FilledIsAsLong, FilledIsFullAlike, IsFib, IsMerging, Judge, List, Listening, Merging}
use Rattle.fig_merge.proofs.Words.{Moment, None, Other, Reads, Some, agrees_with, ap, ap₂, carried_in, cond, filled_fib}
use Rattle.fig_merge.proofs.Words.{frames_full, hearing_fibs, inl, inr, length, map, merged, one_fib, past_after_frame}
use Rattle.fig_merge.proofs.Words.{refl, room_of, runs_full, sym, true, ℕ}
use Rattle.mux_types.proofs.Elements.{each_contains}
use Rattle.mux_types.specs.Facts.{Marked}
use Rattle.fib_codec.specs.Heard.{IsInFib, IsInFig}
use Rattle.fib_codec.specs.Laws.{FibHas32Bytes}
use Rattle.fig_merge.proofs.Passing.{filled_is}
use Rattle.fig_merge.proofs.Alike.{frame_alike, after_alike}

-- ---- entries

abbrev NoEntry : Marked → Fig → Type 0
NoEntry entry fig = IsInFig fig entry → ⊥

none_carried : (carried : List (List ℕ)) (entry : Marked) → AllByRecursion (NoEntry entry) (map Other carried)
none_carried [] entry = tt
none_carried (c ∷ cs) entry = (λ inside. inside, none_carried cs entry)

in_either : (bytes : List ℕ) (m : Merging) (entry : Marked) (fib : Fib) → Reads bytes fib → IsMerging m
    → IsInFib (merged bytes fib m) entry ↔ IsInFib bytes entry
in_either bytes m entry None damaged h = (λ there. there, λ there. there)
in_either bytes m entry (Some figs) is h =
    let carried = map Other (carried_in (agrees_with figs m.heard) (room_of figs) m.waiting) in
    let new = filled_fib figs m.heard m.waiting in
    let new_is : IsFib new (figs ++ carried) = filled_is bytes figs m.heard m.waiting is h.passed_over in (
      λ there.
          let here : Contains (figs ++ carried) there.1 = rw (← one_fib new there.0 (figs ++ carried) there.2 new_is)
          there.3 in
          elim (Contains-append_cases figs carried there.1 here) [
            | inl own ↦ (figs, there.1, is, own, there.4)
            | inr other ↦ absurd (each_contains (NoEntry entry) carried there.1
                (none_carried (carried_in (agrees_with figs m.heard) (room_of figs) m.waiting) entry) other there.4)
          ],
      λ there.
          let here : Contains figs there.1 = rw (← one_fib bytes there.0 figs there.2 is) there.3 in
          (figs ++ carried, there.1, new_is, Contains-append_left figs carried there.1 here, there.4),
    )

pub filled_has_the_entries : FilledHasTheEntries
filled_has_the_entries r bytes m entry h = in_either bytes m entry (r.read bytes) (r.right bytes) h

-- ---- lengths

as_long : FibHas32Bytes → (bytes : List ℕ) (m : Merging) (fib : Fib) → Reads bytes fib → IsMerging m
    → length (merged bytes fib m) ≡ length bytes
as_long size bytes m None damaged h = refl
as_long size bytes m (Some figs) is h =
    size (filled_fib figs m.heard m.waiting)
    (figs ++ map Other (carried_in (agrees_with figs m.heard) (room_of figs) m.waiting))
    (filled_is bytes figs m.heard m.waiting is h.passed_over) ∙ sym (size bytes figs is)

pub filled_is_as_long : FibHas32Bytes → FilledIsAsLong
filled_is_as_long size r bytes m h = as_long size bytes m (r.read bytes) (r.right bytes) h

-- ---- room

full_alike_from : (may : Judge) (l : Listening) (step period : ℕ) (frames sent : List (List Fib)) (past : List Moment)
    → AreFilledFrames may l frames sent
    → frames_full step period past sent ≡ frames_full step period past frames
full_alike_from may l step period [] sent past h = ap (frames_full step period past) h
full_alike_from may l step period (frame ∷ frames) sent past h =
    let a = frame_alike may l frame h.0 h.3 in
    let rest = ap (λ (p : List Moment). frames_full step period p h.1) (after_alike step past frame h.0 a)
    ∙ full_alike_from may (hearing_fibs frame l) step period frames h.1 (past_after_frame step past frame) h.4 in
    rw (h.2) (ap₂ (λ (full others : Bool). cond full true others) (ap (runs_full step period past) (a.items true)) rest)

pub full_alike : FilledIsFullAlike
full_alike may l step period frames sent h = full_alike_from may l step period frames sent [] h
