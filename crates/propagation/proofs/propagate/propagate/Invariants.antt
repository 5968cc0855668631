use Rattle.propagation.proofs.Propagating.{Propagating}
use Rattle.propagation.proofs.propagate.propagate.Given as goal

abbrev pub invariant-loop-turn : goal.invariant-loop-turn
invariant-loop-turn l = Propagating l.initial.table l.initial.words l.table l.words l.used l._turn
