-- The state of a sheet. Assumes nothing.
use Rattle.std.specs.Prelude.{vec_items}
use Rattle.sheet.specs.declared.sheet.Sheet.{Sheet}
use Rattle.sheet.specs.State.{State, state_in}

abbrev pub state_of : Sheet → State
state_of s = state_in (vec_items s.table) (vec_items s.words) s.space (vec_items s.waiting)
