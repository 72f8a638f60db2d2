-- Small runs, computed by the checker: the bytes and counts are those of worked examples from practice.
use Rattle.plan_runs.proofs.Words.{[], ◌∷◌, ◌≡◌, AddComponent, AddService, AddSub, CommitIn, Edits, End, Event, Frame}
use Rattle.plan_runs.proofs.Words.{Idle, Instr, Join, Label, Line, List, Program, Some, counters, frame_bytes}
use Rattle.plan_runs.proofs.Words.{frame_steps, is_due, nothing, plan, refl, run, sub_at_rate, suc, take, true, zero, ℕ}
use Rattle.mux_types.specs.declared.parts.Component.TheVariants.{Sound}
use Rattle.mux_types.specs.declared.numbers.Sid.TheVariants.{Short}
use Rattle.plan_runs.proofs.Samples.{first_state}

abbrev line : ℕ → Instr → Line
line number instr = record { number = number; instr = instr }

abbrev frames : ℕ → List Event
frames zero = []
frames (suc n) = Frame ∷ frames n

-- ---- a first sub-channel and a service, from an empty multiplex

abbrev empty_label : Label
empty_label = record { pc = 0; cur = 0; next = 0; pending = Idle; counters = counters 0; cost = 5 }

abbrev begins : Program
begins =
    record {
      plan = plan;
      configurations = nothing ∷ [];
      labels = empty_label ∷ [];
      lines =
          line 1 (Edits (AddSub (sub_at_rate 128)))
          ∷ line 2 (Edits (AddService (Short 0xc221)))
          ∷ line 3 (Edits (AddComponent (Short 0xc221) (Sound 63 1)))
          ∷ line 4 (CommitIn 24)
          ∷ line 5 Join
          ∷ line 6 End
          ∷ [];
    }

-- the first frame executes five instructions, and then 25 frames are left
first_frame : (frame_steps begins (first_state nothing 4990) ≡ 5)
    × ((run begins (first_state nothing 4990) (frames 1)).left ≡ Some 25)
first_frame = (refl, refl)

-- the first flagged frame has count 4992: change flags 11, occurrence change 16, the next configuration
first_flagged : take 20 (frame_bytes begins (run begins (first_state nothing 4990) (frames 2)))
    ≡ 0x06 ∷ 0x00 ∷ 0xe1 ∷ 0xc5 ∷ 0xd3 ∷ 0xf2 ∷ 0x10 ∷ 0x05 ∷ 0x81 ∷ 0x04 ∷ 0x00 ∷ 0x88 ∷ 0x60 ∷ 0x06 ∷ 0x82 ∷ 0xc2
    ∷ 0x21 ∷ 0x01 ∷ 0x3f ∷ 0x06 ∷ []
first_flagged = refl

-- the swap is in the frame of count 16, which is not flagged
swap_count : ((run begins (first_state nothing 4990) (frames 26)).count ≡ 16)
    × (is_due (run begins (first_state nothing 4990) (frames 26)).left ≡ true)
swap_count = (refl, refl)
