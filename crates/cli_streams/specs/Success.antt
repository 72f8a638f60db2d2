-- What the statuses of the commands mean, over files whose bytes are known.
use Rattle.std.specs.Prelude.{◌≡◌, ◌≢◌, ℕ, Bool, true, nat_lt, ◌==◌, ◌&&◌, if◌then◌else◌, codes, take, IfSome, List}
use Rattle.std.specs.Prelude.{Option, Result, Ok, Err}
use Rattle.std.specs.Str.{bytes_eq}
use Rattle.std.specs.Io.KnownBytes.{Appends}
use Rattle.stream_check.specs.Frames.{Reading}
use Rattle.stream_monitor.specs.declared.ending.Ending.{Ending}
use Rattle.stream_monitor.specs.declared.ending.Ending.TheVariants as endings
use Rattle.stream_monitor.specs.declared.line.Line.{Line}
use Rattle.stream_monitor.specs.declared.options.CheckOptions.{CheckOptions}
use Rattle.stream_monitor.specs.Outcome.{Checks}
use Rattle.console.specs.declared.exit.Status.{Status}
use Rattle.console.specs.declared.exit.Status.TheVariants.{Done, Refused, Faulty}
use Rattle.cli_streams.specs.Frame.{frame_of, most_bytes}
use Rattle.cli_streams.specs.Merged.{Merges}
use Rattle.cli_streams.specs.Stream.{HearsStream}
use Rattle.cli_streams.specs.declared.frame.FrameFault.{FrameFault}
use Rattle.cli_streams.specs.declared.frame.FrameRequest.{FrameRequest}
use Rattle.cli_streams.specs.declared.listen.Heard.{Heard}
use Rattle.cli_streams.specs.declared.listen.StreamFault.{StreamFault}
use Rattle.cli_streams.specs.declared.merge.MergeSummary.{MergeSummary}

-- the bytes of the file of a path, or of standard input if the path is `-`
abbrev pub known_at : (List ℕ → Option (List ℕ)) → (input : Option (List ℕ)) → List ℕ → Option (List ℕ)
known_at known input path = if bytes_eq path (codes "-") then input else known path

-- ---- `check FILE`

-- status 0 without a fault, 3 with one, 1 if the stream is refused, whatever was found before
abbrev pub check_status : Ending → Status
check_status (endings.Counted totals) = if nat_lt 0 totals.faults then Faulty else Done
check_status (endings.Refused cause) = Refused

-- the stream is checked, and so the check ends
abbrev pub ChecksFile : CheckOptions → (given : Option (List ℕ)) → Status → Type 0
ChecksFile o given status = IfSome given (λ stream. (r : Reading)
    → (ending : Ending) × (log : List Line) × Checks r o stream log ending × (status ≡ check_status ending))

-- ---- `listen FILE`

-- status 0 if the stream can be decoded, 1 if it is refused, or is of another format and has no FIB that is not damaged
abbrev pub listen_status : Result Heard StreamFault → Status
listen_status (Ok heard) = if heard.is_other && heard.damaged == heard.fibs then Refused else Done
listen_status (Err fault) = Refused

abbrev pub ListensTo : (given : Option (List ℕ)) → Status → Type 0
ListensTo given status = IfSome given (λ stream. (heard : Result Heard StreamFault) × HearsStream stream heard
    × (status ≡ listen_status heard))

-- ---- `frame CONFIG`

-- status 0 if the record has the frame, 1 if not; with --raw standard output has its bytes
abbrev pub PrintsFrame : (raw : Bool) → Result (List ℕ) FrameFault → (old new : Option (List ℕ)) → Status → Type 0
PrintsFrame raw (Ok frame) old new status = (status ≡ Done) × (raw ≡ true → Appends old new frame)
PrintsFrame raw (Err fault) old new status = status ≡ Refused

-- the frame of the request, or why there is none
abbrev pub HasFrame : FrameRequest → (given : Option (List ℕ)) → Result (List ℕ) FrameFault → Type 0
HasFrame r given frame = IfSome given (λ bytes. frame ≡ frame_of r.layout r.ensemble r.page (take most_bytes bytes))

abbrev pub ShowsFrame : FrameRequest → (given old new : Option (List ℕ)) → Status → Type 0
ShowsFrame r given old new status = IfSome given (λ bytes.
    PrintsFrame r.raw (frame_of r.layout r.ensemble r.page (take most_bytes bytes)) old new status)

-- the same with --raw, whatever the request says: standard output takes the bytes of the frame, and nothing else
abbrev pub StreamsFrame : FrameRequest → (given old new : Option (List ℕ)) → Status → Type 0
StreamsFrame r given old new status = IfSome given (λ bytes.
    PrintsFrame true (frame_of r.layout r.ensemble r.page (take most_bytes bytes)) old new status)

-- ---- `merge PLAN OTHER`

-- they are not both standard input
abbrev pub AreTwo : List ℕ → List ℕ → Type 0
AreTwo path other = path ≡ codes "-" → other ≢ codes "-"

-- status 0: standard output has all frames of the plan, merged with those of the multiplexer; 1: with those that could
-- be read of it
abbrev pub MergesFiles : (size : ℕ) (plan other old new : Option (List ℕ)) → Status → Type 0
MergesFiles size plan other old new status = (summary : MergeSummary) × Merges size plan other old new status summary
