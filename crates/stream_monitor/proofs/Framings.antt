-- A stream is cut into frames in one way.
use Rattle.stream_monitor.proofs.Words.{[], ◌++◌, ◌∙◌, AreFramedAlike, Fib, IsFramed, List, ap, append-nil}
use Rattle.stream_monitor.proofs.Words.{append_cancel_left, flat, front_framing, none_more, same_skipped, sym, ℕ}

whole_front : (size : ℕ) (stream skipped : List Fib) (frames : List (List Fib)) (rest : List Fib)
    → IsFramed size stream skipped frames rest → IsFramed size (stream ++ []) skipped frames rest
whole_front size stream skipped frames rest framed = rw (append-nil stream) framed

pub one_framing : (size : ℕ) (stream skipped later : List Fib) (f g : List (List Fib)) (r s : List Fib)
    → IsFramed size stream skipped f r → IsFramed size stream later g s → AreFramedAlike skipped later f g r s
one_framing size stream skipped later f g r s a b =
    let split = same_skipped _ _ _ _ a.before b.before a.begun b.begun (sym a.whole ∙ b.whole) in
    let more = front_framing size stream [] skipped later f g r s a (whole_front size stream later g s b) in
    let less = front_framing size stream [] later skipped g f s r b (whole_front size stream skipped f r a) in
    let frames = none_more f g more.0 less.0 more.1 less.1 in
    record {
      skips = split.one;
      frames_are = frames;
      rests = append_cancel_left (flat g) r s (ap (λ (l : List (List Fib)). flat l ++ r) (sym frames) ∙ split.rest);
    }
