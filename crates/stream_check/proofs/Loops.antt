-- Hearing what is sent in a loop: what was heard so far, and the rest.
use Rattle.stream_check.proofs.Words.{[], ◌++◌, ◌∙◌, ◌≡◌, CheckerState, FrameAt, Hears, IsLater, IsSane, List, Reported}
use Rattle.stream_check.proofs.Words.{Sent, ap, append_assoc, false, refl, sym, true}
use Rattle.stream_check.proofs.Chain.{hears_nothing, hears_more, hears_full}
use Rattle.stream_check.proofs.Steps.{later_itself, later_twice}

-- of all that is sent, this remains
pub record IsOnItsWay (at : FrameAt) (all left : List Sent) (old : CheckerState) (before : Reported)
    (now : CheckerState) (reported : Reported) : Type 0 where
  pub done : List Sent
  pub whole : done ++ left ≡ all
  pub later : IsLater old now
  pub heard : Hears at done old before now reported false

pub sets_out : (at : FrameAt) (all : List Sent) (old : CheckerState) (before : Reported) → IsSane old
    → IsOnItsWay at all all old before old before
sets_out at all old before s =
    record { done = []; whole = refl; later = later_itself old s; heard = hears_nothing at old before }

pub goes_on : (at : FrameAt) (all left some rest : List Sent) (old now new : CheckerState)
    (before reported after : Reported) → left ≡ some ++ rest → IsLater now new
    → Hears at some now reported new after false
    → IsOnItsWay at all left old before now reported → IsOnItsWay at all rest old before new after
goes_on at all left some rest old now new before reported after e l h w = record {
  done = w.done ++ some;
  whole = append_assoc w.done some rest ∙ ap (λ r. w.done ++ r) (sym e) ∙ w.whole;
  later = later_twice old now new w.later l;
  heard = hears_more at w.done some old now new before reported after false w.later.step w.later.period w.heard h;
}

pub breaks_off : (at : FrameAt) (all left some rest : List Sent) (old now new : CheckerState)
    (before reported after : Reported) → left ≡ some ++ rest → Hears at some now reported new after true
    → IsOnItsWay at all left old before now reported → Hears at all old before new after true
breaks_off at all left some rest old now new before reported after e h w =
    rw (← append_assoc w.done some rest ∙ ap (λ r. w.done ++ r) (sym e) ∙ w.whole)
    (hears_full at (w.done ++ some) rest old new before after
    (hears_more at w.done some old now new before reported after true w.later.step w.later.period w.heard h))
