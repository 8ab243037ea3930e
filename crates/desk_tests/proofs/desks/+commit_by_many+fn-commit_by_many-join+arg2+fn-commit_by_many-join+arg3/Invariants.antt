use Rattle.std.proofs.Common.{◌+◌, ◌*◌}
use Rattle.desk_tests.proofs.desks.+commit_by_many+fn-commit_by_many-join+arg2+fn-commit_by_many-join+arg3.Given as goal

abbrev pub decreases-commit_by_many : goal.decreases-commit_by_many
decreases-commit_by_many g l = 2 * l.level + 1

abbrev pub decreases-join+arg2 : goal.decreases-join+arg2
decreases-join+arg2 g l = 2 * l.below + 2

abbrev pub decreases-join+arg3 : goal.decreases-join+arg3
decreases-join+arg3 g l = 2 * l.below + 2
