-- What vectors of runs speak of: a start in range, the state in which a code begins there, and that it begins so.
use Rattle.plan_runs.proofs.Words.{[], ◌<◌, ◌∷◌, Configuration, Contacts, Ended, EnsembleInformation}
use Rattle.plan_runs.proofs.Words.{IsEnsembleInformation, IsStart, Line, List, Mode, None, Option, Plan, Program}
use Rattle.plan_runs.proofs.Words.{Running, Some, Start, StartIsInRange, State, Whole, arith, false, refl, replicate, ℕ}
pub use Rattle.plan_verifier.proofs.Samples.{plan, with_sub, one_sub, many_subs, empty_is, one_sub_is, counters, label}
pub use Rattle.plan_verifier.proofs.Samples.{line, line_is, code, code_under, code_from, first_under_is, first_from_is}
use Rattle.plan_runs.proofs.Right.{plain_within, flagged_within}

abbrev pub all_open : Contacts
all_open = record { 0 = 0 }

-- at this count, and in the first frame of a day
abbrev pub start_at : ℕ → Start
start_at count = record { eid = 0xe1c5; count = count; day = 0; contacts = all_open }

pub in_range : (count : ℕ) → count < 5000 → StartIsInRange (start_at count)
in_range count low = record { eid = omega arith; count = low; day = omega arith; contacts = omega arith }

-- with this first configuration
abbrev pub first_state : Configuration → ℕ → State
first_state c count =
    record {
      current = c;
      next = c;
      left = None;
      pc = 0;
      hold = Running;
      counters = replicate 8 0;
      contacts = all_open;
      count = count;
      day = 0;
      eid = 0xe1c5;
      page_index = 0;
    }

pub starts_under : (plan : Plan) (c : Configuration) (lines : List Line) (count cost : ℕ)
    → IsStart (code_under plan c (label 0 cost ∷ []) lines) (start_at count) (first_state c count)
starts_under under c lines count cost = record {
  label = label 0 cost;
  first = refl;
  current = refl;
  next = refl;
  left = refl;
  pc = refl;
  hold = refl;
  counters = refl;
  contacts = refl;
  count = refl;
  day = refl;
  eid = refl;
  page_index = refl;
}

pub it_starts : (c : Configuration) (lines : List Line) (count cost : ℕ)
    → IsStart (code_from c (label 0 cost ∷ []) lines) (start_at count) (first_state c count)
it_starts c lines count cost = starts_under plan c lines count cost

-- ---- codes that have ended

-- periods of one frame; FIG 0/0 is in every fourth frame of mode I, and in every frame of mode II
abbrev pub short_plan : Mode → ℕ → ℕ → Plan
short_plan mode notice budget =
    record { eid = 0xe1c5; layout = Whole mode; period = 1; notice = notice; budget = budget }

abbrev pub ended : Plan → Program
ended plan = record { plan = plan; configurations = []; labels = []; lines = [] }

-- on the air with 128 kbit/s; a swap, if one is pending, changes it to 96 kbit/s
abbrev pub lowering : Option ℕ → ℕ → State
lowering left count = record (first_state one_sub count) { next = with_sub 96; left = left; hold = Ended }

-- ---- ensemble information

abbrev pub unflagged : ℕ → EnsembleInformation
unflagged count = record { eid = 0xe1c5; change = 0; al = false; count = count; occurrence = None }

-- with the change flag of the sub-channel organization
abbrev pub flagged : ℕ → ℕ → EnsembleInformation
flagged count low = record { eid = 0xe1c5; change = 1; al = false; count = count; occurrence = Some low }

pub unflagged_is : (count : ℕ) → count < 5000 → IsEnsembleInformation (unflagged count)
unflagged_is count below = plain_within 0xe1c5 count (omega arith) below

pub flagged_is : (count low : ℕ) → count < 5000 → low < 256 → IsEnsembleInformation (flagged count low)
flagged_is count low below last = flagged_within 0xe1c5 count 1 low (omega arith) below (omega arith) (omega arith) last
