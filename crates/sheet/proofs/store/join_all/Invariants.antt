use Rattle.cnf.specs.Words.{read}
use Rattle.sheet.proofs.Marking.{JoiningAll}
use Rattle.sheet.proofs.store.join_all.Given as goal

abbrev pub invariant-loop-clause : goal.invariant-loop-clause
invariant-loop-clause l = JoiningAll (read l.list) (read l.clause-iterator.0.now) l.initial.marks l.marks
