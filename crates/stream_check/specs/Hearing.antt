-- Hearing entries: what is reported, and what is known afterwards.
use Rattle.std.specs.Prelude.{◌≡◌, ℕ, Bool, false, List, map}
use Rattle.stream_check.specs.declared.reporting.FrameAt.{FrameAt}
use Rattle.stream_check.specs.declared.checker_state.CheckerState.{CheckerState}
use Rattle.stream_check.specs.declared.contradiction.Contradiction.{Contradiction}
use Rattle.stream_check.specs.Reporting.{in_frame}
use Rattle.stream_check.specs.Frames.{Fib}
use Rattle.stream_check.specs.Contradictions.{new_findings, noted_with}
use Rattle.stream_check.specs.History.{Item, Moment, said, frame_items}
use Rattle.stream_check.specs.Sent.{Sent, items_in, noted_after}
use Rattle.stream_check.specs.Stream.{findings_at_items, findings_at_sent, runs_full, findings_in, noted_in}
use Rattle.stream_check.specs.Stream.{past_after_frame}
use Rattle.stream_check.specs.CheckerState.{IsSane, Knows}
use Rattle.stream_check.specs.Reported.{Reported, with_more}

-- what does not change within a frame
pub record IsLater (old new : CheckerState) : Type 0 where
  pub step : new.step ≡ old.step
  pub period : new.period ≡ old.period
  pub frames : new.frames ≡ old.frames
  pub sane : IsSane new

-- after these entries, or up to one for which there is no room
pub record AreItemsHeard (at : FrameAt) (step period : ℕ) (past : List Moment) (items : List Item)
    (reported after : Reported) (new : CheckerState) (full : Bool) : Type 0 where
  pub findings : after ≡ with_more reported (map (in_frame at) (findings_at_items step period past items))
  pub room : runs_full step period past items ≡ full
  pub knows : full ≡ false → Knows step period (said items past) new

abbrev pub HearsItems : FrameAt → List Item → CheckerState → Reported → CheckerState → Reported → Bool → Type 0
HearsItems at items old reported new after full =
    (past : List Moment) → Knows old.step old.period past old
    → AreItemsHeard at old.step old.period past items reported after new full

-- some contradictions are reported, as far as they are new
pub record AreNoted (at : FrameAt) (some : List Contradiction)
    (old : List Contradiction) (reported : Reported) (new : List Contradiction) (after : Reported) : Type 0 where
  pub noted : new ≡ noted_with old some
  pub findings : after ≡ with_more reported (map (in_frame at) (new_findings old some))

-- after all that is sent, or up to an entry for which there is no room
pub record IsHeard (at : FrameAt) (step period : ℕ) (past : List Moment) (old : List Contradiction) (sent : List Sent)
    (reported after : Reported) (new : CheckerState) (full : Bool) : Type 0 where
  pub findings : after ≡ with_more reported (map (in_frame at) (findings_at_sent step period past old sent))
  pub room : runs_full step period past (items_in sent) ≡ full
  pub knows : full ≡ false → Knows step period (said (items_in sent) past) new
  pub noted : full ≡ false → new.noted ≡ noted_after period past old sent

abbrev pub Hears : FrameAt → List Sent → CheckerState → Reported → CheckerState → Reported → Bool → Type 0
Hears at sent old reported new after full =
    (past : List Moment) → Knows old.step old.period past old
    → IsHeard at old.step old.period past old.noted sent reported after new full

-- after a frame
pub record IsFrameHeard (size step period : ℕ) (past : List Moment) (old : List Contradiction) (frame : List Fib)
    (reported after : Reported) (new : CheckerState) (full : Bool) : Type 0 where
  pub findings : after ≡ with_more reported (findings_in size step period past old frame)
  pub room : runs_full step period past (frame_items frame) ≡ full
  pub knows : full ≡ false → Knows step period (past_after_frame step past frame) new
  pub noted : full ≡ false → new.noted ≡ noted_in period past old frame

abbrev pub HearsFrame : ℕ → List Fib → CheckerState → Reported → CheckerState → Reported → Bool → Type 0
HearsFrame size frame old reported new after full =
    (past : List Moment) → Knows old.step old.period past old
    → IsFrameHeard size old.step old.period past old.noted frame reported after new full
