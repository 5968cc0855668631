use Rattle.std.proofs.Common.{◌≡◌, ℕ, ◌<◌, cond, get_or, vec_len, vec_items, vec_capacity}
use Rattle.classes.specs.Classes.{held}
use Rattle.classes.proofs.settle.start.Given as goal

abbrev pub invariant-loop-v : goal.invariant-loop-v
invariant-loop-v g l =
    (vec_len l.names ≡ l.v) × (vec_capacity l.names ≡ vec_capacity l.initial.names)
    × ((k : ℕ) → k < l.v → get_or (vec_items l.names) k 0 ≡ cond (held (g.S.Solver.kept l.solver) k) 1 0)
