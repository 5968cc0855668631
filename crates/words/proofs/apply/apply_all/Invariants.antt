use Rattle.std.proofs.Common.{◌-◌, length}
use Rattle.cnf.specs.Table.{by}
use Rattle.words.proofs.Walking.{Walking}
use Rattle.words.proofs.apply.apply_all.Given as goal

abbrev pub invariant-loop-i : goal.invariant-loop-i
invariant-loop-i l = Walking (by l.table) l.initial.words l.words l.i l.j

abbrev pub decreases-loop-i : goal.decreases-loop-i
decreases-loop-i l = length l.initial.words - l.i
