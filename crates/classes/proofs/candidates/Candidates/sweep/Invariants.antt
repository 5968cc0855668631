use Rattle.std.proofs.Common.{◌≡◌, ◌+◌, ◌*◌, ◌≤◌, true, length, take, vec_len}
use Rattle.cnf.specs.Words.{read, well}
use Rattle.classes.specs.Classes.{Sweeping}
use Rattle.classes.proofs.candidates.Candidates.sweep.Given as goal

abbrev pub invariant-loop-v : goal.invariant-loop-v
invariant-loop-v g l =
    (vec_len l.self.names ≡ l.m + 1)
    × (l.left ≤ length l.work) × (well l.m (take l.left l.work) ≡ true)
    × (g.S.Solver.tally l.solver + 2 ≤ g.S.Solver.tally l.initial.solver + 2 * l.v)
    × Sweeping (read l.initial.work) l.self.names.items l.v (read (take l.left l.work))
