use Rattle.std.proofs.Common.{◌-◌, length}
use Rattle.cnf.specs.Words.{read}
use Rattle.cnf.specs.Table.{by}
use Rattle.classes.proofs.Making.{Writing}
use Rattle.classes.proofs.renumber.write.Given as goal

abbrev pub invariant-loop-clause : goal.invariant-loop-clause
invariant-loop-clause l = Writing (by l.rank) (length l.rank - 1) (read l.list) (read l.clause-iterator.0.now) l.initial.work l.work l.at
