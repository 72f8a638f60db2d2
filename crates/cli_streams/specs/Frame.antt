-- One frame of the configuration in a record, or the first fault.
use Rattle.std.specs.Prelude.{ℕ, ◌%◌, ◌==◌, nat_lt, if◌then◌else◌, List, length, Option, Some, None, Result, Ok, Err}
use Rattle.mux_config.specs.Configuration.{Configuration}
use Rattle.mux_types.specs.Entries.{EnsembleInformation}
use Rattle.mux_config.specs.FieldReading.{Reads}
use Rattle.mux_config.specs.Reading.{config_at}
use Rattle.mux_config.specs.Sound.{sound_or_fault}
use Rattle.mux_config.specs.declared.fault.ConfigFault.{ConfigFault}
use Rattle.fib_codec.specs.Layouts.{layout_mode}
use Rattle.fib_codec.specs.Modes.{count_step}
use Rattle.fib_codec.specs.declared.frame_layout.FrameLayout.{FrameLayout}
use Rattle.fib_codec.specs.declared.modes.Mode.{Mode}
use Rattle.fib_carousel.specs.Pages.{page_set, rounds}
use Rattle.fib_carousel.specs.Bytes.{page_bytes}
use Rattle.cli_streams.specs.declared.frame.FrameFault.{FrameFault}
use Rattle.cli_streams.specs.declared.frame.FrameFault.TheVariants.{Record, Trailing, Unsound, NoSuchPage}

-- FIG 0/0 is sent in frames whose count is a multiple of the mode's step
abbrev pub sent : Mode → EnsembleInformation → Option EnsembleInformation
sent mode ensemble = if ensemble.count % count_step mode == 0 then Some ensemble else None

abbrev pub page_or_fault : FrameLayout → EnsembleInformation → ℕ → Configuration → Result (List ℕ) FrameFault
page_or_fault layout ensemble page c =
    if nat_lt page (rounds layout (page_set c None))
    then Ok (page_bytes layout (sent (layout_mode layout) ensemble) page (page_set c None))
    else Err NoSuchPage

abbrev pub frame_or_fault : Result (Unit {0}) ConfigFault → Result (List ℕ) FrameFault → Result (List ℕ) FrameFault
frame_or_fault (Err fault) page = Err (Unsound fault)
frame_or_fault (Ok sound) page = page

abbrev pub frame_of_read : FrameLayout → EnsembleInformation → ℕ → Reads Configuration → Result (List ℕ) FrameFault
frame_of_read layout ensemble page (Err fault) = Err (Record fault)
frame_of_read layout ensemble page (Ok (c, rest)) =
    if nat_lt 0 (length rest) then Err Trailing
    else frame_or_fault (sound_or_fault c) (page_or_fault layout ensemble page c)

-- the bytes of a page of the configuration in the record, or the first fault: of the record, bytes after it, of
-- the configuration, of the page
abbrev pub frame_of : FrameLayout → EnsembleInformation → ℕ → List ℕ → Result (List ℕ) FrameFault
frame_of layout ensemble page bytes = frame_of_read layout ensemble page (config_at bytes)

-- the longest record: three numbers, 64 sub-channels and packet components of 7 bytes, 64 services of 4 bytes with 12
-- components of 3; and one byte more, to detect a longer file
abbrev pub most_bytes : ℕ
most_bytes = 3460
