use Rattle.std.proofs.Common.{◌*◌, ◌+◌}
use Rattle.schedule_compiler.proofs.emission.Emission.+walks.Given as goal

abbrev pub decreases-walk : goal.decreases-walk
decreases-walk l = 4 * l.left

abbrev pub decreases-walk_on : goal.decreases-walk_on
decreases-walk_on l = 4 * l.left + 3

abbrev pub decreases-decide : goal.decreases-decide
decreases-decide l = 4 * l.left + 2

abbrev pub decreases-otherwise : goal.decreases-otherwise
decreases-otherwise l = 4 * l.left + 1
