use Rattle.cnf.specs.Table.{by}
use Rattle.words.proofs.Rewriting.{Rewriting}
use Rattle.words.proofs.apply.apply.Given as goal

abbrev pub invariant-loop-s : goal.invariant-loop-s
invariant-loop-s l = Rewriting (by l.table) l.initial.body l.body l.n l.s
