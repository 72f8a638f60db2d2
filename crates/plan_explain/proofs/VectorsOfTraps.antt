-- Waits behind a test of the time of day that can be those of the next day, and such that can't.
use Rattle.std.proofs.Common.{arith, ◌≡◌, ◌↔◌, ℕ, ◌+◌, ◌≤◌, inl, List, [], ◌∷◌, Some, refl}
use Rattle.mux_config.specs.declared.edit.Edit.TheVariants.{DropSub}
use Rattle.plan_code.specs.declared.instr.Instr.{Instr}
use Rattle.plan_code.specs.declared.instr.Instr.TheVariants.{Until, CommitIn, Join, Edit, Test, TestTime, Jump}
use Rattle.plan_code.specs.declared.instr.Line.{Line}
use Rattle.plan_explain.specs.declared.day_trap.DayTrap.{DayTrap}
use Rattle.plan_explain.specs.declared.warning.Warning.TheVariants.{Trapped}
use Rattle.plan_explain.specs.DayTraps.{wait_of, first_late, HasTrap, traps}

-- a way that takes this many frames misses a time of day just where it is begun in that frame, or later
pub late_from_there : (from frames until day : ℕ) → first_late from frames until ≤ day
    ↔ wait_of from until ≤ day + frames
late_from_there from frames until day = (λ h. omega (arith, h), λ h. omega (arith, h))

-- a minute and a day
a_minute : wait_of 3598750 1250 ≡ 2500
a_minute = refl

a_day : wait_of 900000 900000 ≡ 3600000
a_day = refl

-- from six o'clock, 900000, up to a frame: a commit in 250 frames, its join, and a wait for six seconds before nine
abbrev line : ℕ → Instr → Line
line number instr = record { number = number; instr = instr }

abbrev until_nine : ℕ → List Line
until_nine to =
    line 1 (TestTime 900000 to 7)
    ∷ line 2 (Test 5 6)
    ∷ line 3 (Edit (DropSub 3))
    ∷ line 4 (CommitIn 250)
    ∷ line 5 Join
    ∷ line 6 (Until 1349750)
    ∷ line 7 (Jump 0)
    ∷ []

abbrev trap : ℕ → DayTrap
trap to = record {
  line = 6;
  until = 1349750;
  passage = record { line = 1; from = 900000; to = to };
  first = 1349500;
  way = record { from = 900000; frames = 250; swap = Some 250 };
}

-- where the window ends with the wait, it is missed from the frame on that is 250 frames before
is_trapped : HasTrap (until_nine 1349750) (trap 1349750)
is_trapped = record {
  front = [];
  test = line 1 (TestTime 900000 1349750 7);
  behind = line 2 (Test 5 6)
      ∷ line 3 (Edit (DropSub 3))
      ∷ line 4 (CommitIn 250)
      ∷ line 5 Join
      ∷ line 6 (Until 1349750)
      ∷ line 7 (Jump 0)
      ∷ [];
  is = refl;
  leads = inl (record {
    between = line 2 (Test 5 6) ∷ line 3 (Edit (DropSub 3)) ∷ line 4 (CommitIn 250) ∷ line 5 Join ∷ [];
    last = line 6 (Until 1349750);
    behind = line 7 (Jump 0) ∷ [];
    is = refl;
    leads = (refl, (refl, (refl, (refl, tt))));
    ends = refl;
    waits = refl;
    at = refl;
    window = refl;
    takes = refl;
    first = refl;
    late = refl;
  });
}

is_listed : traps (until_nine 1349750) ≡ Trapped (trap 1349750) ∷ []
is_listed = refl

last_frame : traps (until_nine 1349501) ≡ Trapped (trap 1349501) ∷ []
last_frame = refl

-- where it ends a whole way before, it is never missed
in_time : traps (until_nine 1349500) ≡ []
in_time = refl

-- outside of the window: what is at the target, from the window's end to its beginning
abbrev else_until : ℕ → List Line
else_until frame = line 1 (TestTime 1350000 900000 2) ∷ line 2 (Jump 0) ∷ line 3 (CommitIn 250) ∷ line 4 Join
    ∷ line 5 (Until frame) ∷ []

abbrev outside : DayTrap
outside = record {
  line = 5;
  until = 1350000;
  passage = record { line = 1; from = 900000; to = 1350000 };
  first = 1349750;
  way = record { from = 900000; frames = 250; swap = Some 250 };
}

other_hours : traps (else_until 1350000) ≡ Trapped outside ∷ []
other_hours = refl

later_hours : traps (else_until 1350250) ≡ []
later_hours = refl
