-- The file of a plan code. Numbers of two or four bytes are big-endian.
use Rattle.std.specs.Prelude.{ℕ, List, [], ◌∷◌, ◌++◌, length}
use Rattle.std.specs.Int.{w32, to_be_bytes}
use Rattle.std.specs.List.{flat_map}
use Rattle.mux_config.specs.FieldSpelling.{u16_bytes}
use Rattle.mux_config.specs.Spelling.{config_bytes}
use Rattle.fib_codec.specs.declared.modes.Mode.{Mode}
use Rattle.fib_codec.specs.declared.modes.Mode.TheVariants.{I, II, III, IV}
use Rattle.fib_codec.specs.declared.frame_layout.FrameLayout.{FrameLayout}
use Rattle.fib_codec.specs.declared.frame_layout.FrameLayout.TheVariants.{Whole, ReserveOne, ReserveTwo}
use Rattle.plan_code.specs.declared.plan.Plan.{Plan}
use Rattle.plan_code.specs.declared.instr.Line.{Line}
use Rattle.plan_code.specs.declared.limits.TheConstants.{LONGEST_PERIOD, SHORTEST_NOTICE, LONGEST_NOTICE}
use Rattle.plan_code.specs.Formats.{Format, ◌▸◌, mapped, any_u16, byte_from}
use Rattle.plan_code.specs.Parts.{label_bytes, line}
use Rattle.plan_code.specs.Program.{Program}

-- the letters DABP as a number of four bytes
abbrev pub magic : ℕ
magic = 0x44414250

-- the version of the format without reserve: 1 in mode I; in the other modes 2, followed by the mode's number
abbrev pub mode_bytes : Mode → List ℕ
mode_bytes I = 1 ∷ []
mode_bytes II = 2 ∷ 2 ∷ []
mode_bytes III = 2 ∷ 3 ∷ []
mode_bytes IV = 2 ∷ 4 ∷ []

abbrev pub mode_number : Mode → ℕ
mode_number I = 1
mode_number II = 2
mode_number III = 3
mode_number IV = 4

-- with a reserve version 3, followed by the mode's number and the number of reserved FIBs of a frame
abbrev pub layout_bytes : FrameLayout → List ℕ
layout_bytes (Whole mode) = mode_bytes mode
layout_bytes (ReserveOne mode) = 3 ∷ mode_number mode ∷ 1 ∷ []
layout_bytes ReserveTwo = 3 ∷ mode_number III ∷ 2 ∷ []

-- the fields of a plan after its layout
abbrev pub plan_after : FrameLayout → Format Plan
plan_after layout =
    mapped (λ x. record { eid = x.0.0.0; layout = layout; period = x.0.0.1; notice = x.0.1; budget = x.1 })
    (λ p. (((p.eid, p.period), p.notice), p.budget))
    (any_u16 ▸ byte_from 1 LONGEST_PERIOD ▸ byte_from SHORTEST_NOTICE LONGEST_NOTICE ▸ byte_from 1 255)

abbrev pub plan_bytes : Plan → List ℕ
plan_bytes p = layout_bytes p.layout ++ (plan_after p.layout).spell p

-- with the numbers of configurations, labels and instructions
abbrev pub header_bytes : Plan → (configurations labels lines : ℕ) → List ℕ
header_bytes plan configurations labels lines =
    to_be_bytes w32 magic ++ plan_bytes plan
    ++ u16_bytes configurations ++ u16_bytes labels ++ u16_bytes lines

abbrev pub line_bytes : Line → List ℕ
line_bytes l = line.spell l

abbrev pub code_bytes : Program → List ℕ
code_bytes p =
    header_bytes p.plan (length p.configurations) (length p.labels) (length p.lines)
    ++ flat_map config_bytes p.configurations
    ++ flat_map label_bytes p.labels
    ++ flat_map line_bytes p.lines
