use Rattle.std.proofs.Common.{◌≡◌, [], None, replicate}
use Rattle.search.specs.States.{cells_of, trail_of}
use Rattle.search.proofs.state.State.reset.Given as goal

abbrev pub invariant-loop : goal.invariant-loop
invariant-loop l = (cells_of l.self ≡ replicate l.counter None) × (trail_of l.self ≡ [])
