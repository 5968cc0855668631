use Rattle.std.proofs.Common.{◌≡◌}
use Rattle.cnf.specs.Words.{read}
use Rattle.propagation.specs.Propagate.{pending}
use Rattle.propagation.proofs.unit.next_pending.Given as goal

abbrev pub invariant-loop-clause : goal.invariant-loop-clause
invariant-loop-clause l = pending (read l.clause-iterator.0.now) ≡ pending (read l.list)
