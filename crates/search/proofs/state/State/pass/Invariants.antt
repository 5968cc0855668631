use Rattle.cnf.specs.Words.{read}
use Rattle.search.proofs.Passing.{Passing}
use Rattle.search.proofs.state.State.pass.Given as goal

abbrev pub invariant-loop-clause : goal.invariant-loop-clause
invariant-loop-clause l = Passing l.list (read l.clause-iterator.0.now) l.initial.self l.self l.moved
