use Rattle.search.specs.Cells.{open_count}
use Rattle.search.specs.States.{Grew, Keeps, cells_of}
use Rattle.search.proofs.state.State.propagate.Given as goal

abbrev pub invariant-loop : goal.invariant-loop
invariant-loop l = Grew l.initial.self l.self × Keeps l.list l.initial.self l.self

abbrev pub decreases-loop : goal.decreases-loop
decreases-loop l = open_count (cells_of l.self)
