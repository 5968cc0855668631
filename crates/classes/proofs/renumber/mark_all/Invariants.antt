use Rattle.cnf.specs.Words.{read}
use Rattle.classes.proofs.Making.{MarkingAll}
use Rattle.classes.proofs.renumber.mark_all.Given as goal

abbrev pub invariant-loop-clause : goal.invariant-loop-clause
invariant-loop-clause l = MarkingAll (read l.list) (read l.clause-iterator.0.now) l.initial.marks l.marks
