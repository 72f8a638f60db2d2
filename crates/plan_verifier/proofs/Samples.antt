-- What vectors speak of: a plan, a sub-channel, labels, instructions and small codes, and that all of them are within
-- their limits.
use Rattle.plan_verifier.proofs.Words.{[], ◌*◌, ◌+◌, ◌<◌, ◌∷◌, ◌≤◌, Configuration, Counters, Idle, Instr, IsAscending}
use Rattle.plan_verifier.proofs.Words.{IsConfiguration, IsInstr, IsLabel, IsLine, IsPlaced, IsPlan, IsProgram, Label}
use Rattle.plan_verifier.proofs.Words.{Line, List, Plan, Program, arith, label_key, length, nothing, suc, zero, ℕ}
use Rattle.std.specs.List.{AllByRecursion}
use Rattle.mux_eep.specs.declared.sizes.EepSet.TheVariants.{A}
use Rattle.mux_types.specs.declared.parts.Sub.{Sub}
use Rattle.fib_codec.specs.declared.frame_layout.FrameLayout.TheVariants.{Whole}
use Rattle.fib_codec.specs.declared.modes.Mode.TheVariants.{I}

abbrev pub plan : Plan
plan = record { eid = 0xe1c5; layout = Whole I; period = 4; notice = 24; budget = 20 }

pub plan_is : IsPlan plan
plan_is = grind arith

-- ---- configurations

abbrev pub sub_at_rate : ℕ → Sub
sub_at_rate kbits = record { id = 1; start = 0; protection = record { set = A; level = 3 }; kbits = kbits }

abbrev pub with_sub : ℕ → Configuration
with_sub kbits = record { subs = sub_at_rate kbits ∷ []; services = []; packets = [] }

abbrev pub sub : Sub
sub = sub_at_rate 128

abbrev pub one_sub : Configuration
one_sub = with_sub 128

-- n sub-channels of 8 kbit/s, one after the other: 24 of them take two pages
abbrev pub small_subs : ℕ → ℕ → List Sub
small_subs zero id = []
small_subs (suc n) id = record { id = id; start = 6 * id; protection = record { set = A; level = 3 }; kbits = 8 }
    ∷ small_subs n (id + 1)

abbrev pub many_subs : Configuration
many_subs = record { subs = small_subs 24 0; services = []; packets = [] }

pub empty_is : IsConfiguration nothing
empty_is = grind arith

with_sub_is : (kbits : ℕ) → IsPlaced (sub_at_rate kbits) → IsConfiguration (with_sub kbits)
with_sub_is kbits placed = record {
  subs_ascend = (tt, tt);
  services_ascend = tt;
  packets_ascend = tt;
  subs_placed = (placed, tt);
  services_formed = tt;
  packets_addressed = tt;
  subs_few = omega arith;
  services_few = omega arith;
  packets_few = omega arith;
}

pub one_sub_is : IsConfiguration one_sub
one_sub_is = with_sub_is 128 (grind arith)

-- at a lower rate
pub lower_is : IsConfiguration (with_sub 96)
lower_is = with_sub_is 96 (grind arith)

-- ---- labels and instructions

abbrev pub counters : ℕ → Counters
counters set = record { 0 = set }

-- with the first configuration, no swap pending, these counters set, and this cost
abbrev pub counting : ℕ → ℕ → ℕ → Label
counting pc set cost = record { pc = pc; cur = 0; next = 0; pending = Idle; counters = counters set; cost = cost }

-- with no counter set
abbrev pub label : ℕ → ℕ → Label
label pc cost = counting pc 0 cost

pub counting_is : (pc set cost : ℕ) → pc < 65536 → set < 256 → 1 ≤ cost → cost ≤ 255 → IsLabel 1 (counting pc set cost)
counting_is pc set cost low few from to = grind arith

pub label_is : (pc cost : ℕ) → pc < 65536 → 1 ≤ cost → cost ≤ 255 → IsLabel 1 (label pc cost)
label_is pc cost low from to = counting_is pc 0 cost low (omega arith) from to

abbrev pub line : Instr → Line
line i = record { number = 1; instr = i }

pub line_is : (i : Instr) → IsInstr i → IsLine (line i)
line_is i h = grind arith

-- ---- codes

abbrev pub code_under : Plan → Configuration → List Label → List Line → Program
code_under plan c labels lines = record { plan = plan; configurations = c ∷ []; labels = labels; lines = lines }

-- with this first configuration
abbrev pub code_from : Configuration → List Label → List Line → Program
code_from c labels lines = code_under plan c labels lines

-- with an empty one
abbrev pub code : List Label → List Line → Program
code labels lines = code_from nothing labels lines

code_under_is : (plan : Plan) (c : Configuration) (labels : List Label) (lines : List Line) → IsPlan plan
    → IsConfiguration c → AllByRecursion (IsLabel 1) labels → IsAscending label_key labels
    → 1 ≤ length labels → length labels ≤ 1024 → AllByRecursion IsLine lines → 1 ≤ length lines → length lines ≤ 4096
    → IsProgram (code_under plan c labels lines)
code_under_is plan c labels lines planned is formed ascend from to each first last = record {
  planned = planned;
  configurations_from = omega arith;
  configurations_to = omega arith;
  configurations_formed = (is, tt);
  labels_from = from;
  labels_to = to;
  labels_formed = formed;
  labels_ascend = ascend;
  lines_from = first;
  lines_to = last;
  lines_formed = each;
}

pub code_from_is : (c : Configuration) (labels : List Label) (lines : List Line) → IsConfiguration c
    → AllByRecursion (IsLabel 1) labels → IsAscending label_key labels → 1 ≤ length labels → length labels ≤ 1024
    → AllByRecursion IsLine lines → 1 ≤ length lines → length lines ≤ 4096 → IsProgram (code_from c labels lines)
code_from_is c labels lines = code_under_is plan c labels lines plan_is

-- with one label, at the first instruction, of this cost
pub first_under_is : (plan : Plan) (c : Configuration) (cost : ℕ) (lines : List Line) → IsPlan plan → IsConfiguration c
    → 1 ≤ cost → cost ≤ 255
    → AllByRecursion IsLine lines → 1 ≤ length lines → length lines ≤ 4096
    → IsProgram (code_under plan c (label 0 cost ∷ []) lines)
first_under_is plan c cost lines planned is from to =
    code_under_is _ _ _ _ planned is (label_is 0 cost (omega arith) from to, tt) (tt, tt) (omega arith) (omega arith)

pub first_from_is : (c : Configuration) (cost : ℕ) (lines : List Line) → IsConfiguration c → 1 ≤ cost → cost ≤ 255
    → AllByRecursion IsLine lines → 1 ≤ length lines → length lines ≤ 4096
    → IsProgram (code_from c (label 0 cost ∷ []) lines)
first_from_is c cost lines = first_under_is plan c cost lines plan_is

pub first_is : (cost : ℕ) (lines : List Line) → 1 ≤ cost → cost ≤ 255 → AllByRecursion IsLine lines → 1 ≤ length lines
    → length lines ≤ 4096
    → IsProgram (code (label 0 cost ∷ []) lines)
first_is cost lines = first_from_is nothing cost lines empty_is
