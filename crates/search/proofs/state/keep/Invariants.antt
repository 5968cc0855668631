use Rattle.std.proofs.Common.{◌≡◌, take, Some}
use Rattle.search.specs.Cells.{bits}
use Rattle.search.proofs.state.keep.Given as goal

abbrev pub invariant-loop-cell : goal.invariant-loop-cell
invariant-loop-cell l = (l.kept.bits ≡ Some (bits (take l.cell-index l.cells))) × (l.kept.room ≡ l.initial.kept.room)
