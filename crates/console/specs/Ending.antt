-- The numbers of exit statuses.
use Rattle.std.specs.Prelude.{ℕ}
use Rattle.console.specs.declared.exit.Status.{Status}
use Rattle.console.specs.declared.exit.Status.TheVariants.{Done, Refused, Misused, Faulty}

abbrev pub exit_number : Status → ℕ
exit_number Done = 0
exit_number Refused = 1
exit_number Misused = 2
exit_number Faulty = 3
