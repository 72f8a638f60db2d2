-- What is known of the configurations and the swap alone: what holds after an instruction, and where two paths merge.
use Rattle.std.specs.Prelude.{◌≡◌, ℕ, ◌-◌, Bool, true, false, if◌then◌else◌, min, max}
use Rattle.mux_config.specs.Configuration.{Configuration}
use Rattle.plan_code.specs.declared.plan.Plan.{Plan}
use Rattle.plan_code.specs.declared.flags.Counters.{Counters}
use Rattle.plan_code.specs.declared.label.Swap.{Swap}
use Rattle.plan_code.specs.declared.label.Swap.TheVariants.{Idle, Within, Perhaps}
use Rattle.plan_code.specs.declared.instr.Instr.{Instr}
use Rattle.plan_code.specs.declared.instr.Instr.TheVariants.{Wait, Until, WaitContact, WaitAny, Join, Set, Loop}
use Rattle.plan_code.specs.Flags.{is_set, with_counter, without_counter}
use Rattle.plan_verifier.specs.declared.flow.Flow.{Flow as FlowIn}
use Rattle.plan_verifier.specs.Rules.{Known, leaves, FitsSwap}

-- a flow over configurations
abbrev pub Flow : Type 0
Flow = FlowIn Configuration

-- a flow over stores, with their contents
abbrev pub held : {S : Type 0} → (S → Configuration) → FlowIn S → Flow
held content f = record { current = content f.current; next = content f.next; pending = f.pending }

-- ---- what is known

-- adds these counters and this allowance
abbrev pub known_with : Flow → Counters → ℕ → Known
known_with t counters allowance =
    record { current = t.current; next = t.next; pending = t.pending; counters = counters; allowance = allowance }

-- without counters and an allowance: what a statement needs and leaves depends on the configurations and the swap alone
abbrev pub known_at : Flow → Known
known_at t = record {
  current = t.current;
  next = t.next;
  pending = t.pending;
  counters = record { 0 = 0 };
  allowance = 0;
}

abbrev pub flow_of : Known → Flow
flow_of t = record { current = t.current; next = t.next; pending = t.pending }

-- the flow after an instruction
abbrev pub after_instr : Plan → Instr → Flow → Flow
after_instr plan i t = flow_of (leaves plan i (known_at t))

-- a loop's counter is set
abbrev pub HasItsCounter : Instr → Counters → Type 0
HasItsCounter (Loop counter target) counters = is_set counters counter ≡ true
HasItsCounter _ counters = Unit {0}

-- ---- counters and the allowance

-- the counters that are set after an instruction
abbrev pub set_after : Instr → Counters → Counters
set_after (Set counter times) c = with_counter counter c
set_after (Loop counter target) c = without_counter counter c
set_after _ c = c

-- the next instruction runs in a later frame, which has the whole budget
abbrev pub rests : Instr → Bool
rests (Wait frames) = true
rests (Until day) = true
rests (WaitContact contact closed) = true
rests (WaitAny closed opened until frames) = true
rests Join = true
rests _ = false

abbrev pub left_over : Plan → Instr → ℕ → ℕ
left_over plan i allowance = if rests i then plan.budget else allowance - 1

-- ---- paths that merge at a label

-- a flow fits another: it implies what the other says
abbrev pub FitsFlow : Flow → Flow → Type 0
FitsFlow s t = FitsSwap s.pending t.pending (known_at s) (known_at t)

-- the maximum number of frames until a swap that is or may be pending; 0 where none is
abbrev pub latest : Swap → ℕ
latest Idle = 0
latest (Within lo hi) = hi
latest (Perhaps hi) = hi

-- the union of the bounds if both swaps are pending; otherwise the swap may be pending, up to the later maximum
abbrev pub widest : Swap → Swap → Swap
widest Idle Idle = Idle
widest (Within lo hi) (Within least most) = Within (min lo least) (max hi most)
widest s t = Perhaps (max (latest s) (latest t))

-- the flow whose configurations are kept: the first if a swap is or may be pending on it, else the second
abbrev pub pending_flow : Swap → Flow → Flow → Flow
pending_flow Idle s t = t
pending_flow _ s t = s

abbrev pub merged : Flow → Flow → Flow
merged s t = record (pending_flow s.pending s t) { pending = widest s.pending t.pending }
