-- A check of a stream that is known, and the frame of a record that is.
use Rattle.cli_streams.proofs.Words.{◌++◌, ◌∙◌, ◌≡◌, Appends, Bool, ChecksFile, Done, Err, IfSome, Keeps, List, None}
use Rattle.cli_streams.proofs.Words.{Ok, Option, PrintsFrame, Reading, Refused, Result, ShowsFrame, Some, Status, ap}
use Rattle.cli_streams.proofs.Words.{append-nil, append_assoc, check_status, concat, frame_of, inl, inr, most_bytes}
use Rattle.cli_streams.proofs.Words.{refl, subst, sym, take, true, ℕ}
use Rattle.stream_monitor.specs.declared.ending.Ending.{Ending}
use Rattle.stream_monitor.specs.declared.line.Line.{Line}
use Rattle.stream_monitor.specs.declared.options.CheckOptions.{CheckOptions}
use Rattle.stream_monitor.specs.Outcome.{Checks, ChecksInput}
use Rattle.cli_streams.specs.Success.{HasFrame, StreamsFrame}
use Rattle.cli_streams.specs.declared.frame.FrameFault.{FrameFault}
use Rattle.cli_streams.specs.declared.frame.FrameRequest.{FrameRequest}

-- what follows the bytes that were read does not matter
pub checks_known : (r : Reading) (o : CheckOptions) (stream : List ℕ) (old left : Option (List ℕ)) (log : List Line)
    (e : Ending) → Keeps (Some stream) old → ChecksInput r o old left log e → Checks r o stream log e
checks_known r o stream None left log e kept h = absurd kept
checks_known r o stream (Some xs) None log e kept (inl h) = absurd h.2
checks_known r o stream (Some xs) None log e kept (inr h) = absurd h.3
checks_known r o stream (Some xs) (Some ys) log e kept (inl h) =
    inl (h.0, h.1, sym kept ∙ h.2 ∙ ap (λ l. (concat h.0 ++ h.1) ++ l) h.3 ∙ append-nil (concat h.0 ++ h.1), h.4)
checks_known r o stream (Some xs) (Some ys) log e kept (inr h) =
    inr (
      h.0,
      h.1,
      h.2 ++ ys,
      sym kept ∙ h.3 ∙ append_assoc (concat h.0) (h.1 ++ h.2) ys
          ∙ ap (λ l. concat h.0 ++ l) (append_assoc h.1 h.2 ys),
      h.4,
    )

-- and so of a file whose bytes are known
pub checks_file : (o : CheckOptions) (known left now : Option (List ℕ)) (e : Ending) (status : Status)
    → Keeps known left
    → ((r : Reading) → (log : List Line) × ChecksInput r o left now log e) → status ≡ check_status e
    → ChecksFile o known status
checks_file o None left now e status kept h is = tt
checks_file o (Some stream) left now e status kept h is = λ r.
    let one = h r in (e, one.0, checks_known r o stream left now one.0 e kept one.1, is)

-- ---- the frame of a record that is known

printed_frame : (raw : Bool) (made : Result (List ℕ) FrameFault) (frame : List ℕ) (old new : Option (List ℕ))
    (status : Status) → Ok frame ≡ made → status ≡ Done
    → (raw ≡ true → Appends old new frame) → PrintsFrame raw made old new status
printed_frame raw made frame old new status is done put =
    subst (λ (m : Result (List ℕ) FrameFault). PrintsFrame raw m old new status) is (done, put)

refused_frame : (raw : Bool) (made : Result (List ℕ) FrameFault) (fault : FrameFault) (old new : Option (List ℕ))
    (status : Status) → Err fault ≡ made → status ≡ Refused
    → PrintsFrame raw made old new status
refused_frame raw made fault old new status is refused =
    subst (λ (m : Result (List ℕ) FrameFault). PrintsFrame raw m old new status) is refused

-- the frame of the bytes that were read is that of the request
pub has_frame : (r : FrameRequest) (given : Option (List ℕ)) (bytes_read : List ℕ) (made : Result (List ℕ) FrameFault)
    → IfSome given (λ bytes. bytes_read ≡ take most_bytes bytes)
    → made ≡ frame_of r.layout r.ensemble r.page bytes_read → HasFrame r given made
has_frame r None bytes_read made read is = tt
has_frame r (Some bytes) bytes_read made read is =
    is ∙ ap (λ (l : List ℕ). frame_of r.layout r.ensemble r.page l) read

pub shows_frame : (r : FrameRequest) (given old new : Option (List ℕ)) (frame : List ℕ) → HasFrame r given (Ok frame)
    → (r.raw ≡ true → Appends old new frame) → ShowsFrame r given old new Done
shows_frame r None old new frame has put = tt
shows_frame r (Some bytes) old new frame has put = printed_frame r.raw _ frame old new Done has refl put

pub shows_fault : (r : FrameRequest) (given old new : Option (List ℕ)) (fault : FrameFault)
    → HasFrame r given (Err fault) → ShowsFrame r given old new Refused
shows_fault r None old new fault has = tt
shows_fault r (Some bytes) old new fault has = refused_frame r.raw _ fault old new Refused has refl

pub streams_frame : (r : FrameRequest) (given old new : Option (List ℕ)) (frame : List ℕ) → HasFrame r given (Ok frame)
    → Appends old new frame → StreamsFrame r given old new Done
streams_frame r None old new frame has put = tt
streams_frame r (Some bytes) old new frame has put =
    printed_frame true _ frame old new Done has refl (λ raw. put)

pub streams_fault : (r : FrameRequest) (given old new : Option (List ℕ)) (fault : FrameFault)
    → HasFrame r given (Err fault) → StreamsFrame r given old new Refused
streams_fault r None old new fault has = tt
streams_fault r (Some bytes) old new fault has = refused_frame true _ fault old new Refused has refl
