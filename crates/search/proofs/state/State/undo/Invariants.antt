use Rattle.std.proofs.Common.{◌≡◌, ◌≤◌, take, drop, vec_len}
use Rattle.search.specs.Cells.{restored}
use Rattle.search.specs.States.{cells_of, trail_of}
use Rattle.search.proofs.state.State.undo.Given as goal

abbrev pub invariant-loop-self : goal.invariant-loop-self
invariant-loop-self l =
    (l.mark ≤ vec_len l.self.trail)
    × (restored (cells_of l.self) (drop l.mark (trail_of l.self)) ≡ restored (cells_of l.initial.self) (drop l.mark (trail_of l.initial.self)))
    × (take l.mark (trail_of l.self) ≡ take l.mark (trail_of l.initial.self))

abbrev pub decreases-loop-self : goal.decreases-loop-self
decreases-loop-self l = vec_len l.self.trail
