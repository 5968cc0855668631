use Rattle.std.proofs.Common.{◌≡◌, ℕ, ◌+◌, ◌<◌, false, get_or, vec_len, vec_items, vec_capacity}
use Rattle.cnf.specs.Table.{via}
use Rattle.classes.specs.Classes.{held, settled}
use Rattle.classes.proofs.settle.recall.Given as goal

abbrev pub invariant-loop-w : goal.invariant-loop-w
invariant-loop-w g l =
    (vec_len l.bits + 1 ≡ l.w) × (vec_capacity l.bits ≡ vec_capacity l.initial.bits)
    × ((k : ℕ) → k < vec_len l.bits → get_or (vec_items l.bits) k false ≡ via (held (g.S.Solver.kept l.solver)) (settled l.names l.v) (k + 1))
