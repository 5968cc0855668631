use Rattle.std.proofs.Common.{◌+◌, ◌*◌}
use Rattle.search.specs.Cells.{open_count}
use Rattle.search.specs.States.{cells_of}
use Rattle.search.proofs.state.State.+attempt_solve.Given as goal

abbrev pub decreases-attempt : goal.decreases-attempt
decreases-attempt l = 2 * open_count (cells_of l.self.now)

abbrev pub decreases-solve : goal.decreases-solve
decreases-solve l = 2 * open_count (cells_of l.self.now) + 1
