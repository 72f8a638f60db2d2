-- The preconditions of a frame: examples that hold and examples that fail.
use Rattle.plan_player.proofs.Words.{◌<◌, CanContinue, CanRun, after_burst, all_open, arith, first, join_traps, joins}
use Rattle.plan_player.proofs.Words.{one_instruction, one_sub_is, ready, unflagged_is, waits}

-- ---- instructions

waits_for_a_frame : CanRun waits (ready first)
waits_for_a_frame = record {
  steps = 1;
  end = after_burst waits first;
  within = omega arith;
  executes = one_instruction;
}

joins_no_swap : CanRun joins (ready first) → ⊥
joins_no_swap h = join_traps all_open h.steps h.end h.executes

-- ---- a frame

progress : CanContinue waits first
progress = record {
  runs = waits_for_a_frame;
  sent = record {
    page_index = omega arith;
    current = one_sub_is;
    next = one_sub_is;
    count = omega arith;
    ensemble = unflagged_is 0 (omega arith);
  };
  few = omega arith;
}

-- all entries are on page 0
no_second_page : CanContinue waits (record first { page_index = 1 }) → ⊥
no_second_page h = let e : 1 < 1 = h.sent.page_index in omega (arith, e)
