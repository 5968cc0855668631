use Rattle.cnf.specs.Table.{by}
use Rattle.classes.proofs.Making.{Shifting}
use Rattle.classes.proofs.renumber.shift.Given as goal

abbrev pub invariant-loop-code : goal.invariant-loop-code
invariant-loop-code l = Shifting (by l.rank) l.initial.clause l.clause l.code-index
