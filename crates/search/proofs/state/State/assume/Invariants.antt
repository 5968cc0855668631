use Rattle.search.proofs.Assuming.{Assuming}
use Rattle.search.proofs.state.State.assume.Given as goal

abbrev pub invariant-loop-code : goal.invariant-loop-code
invariant-loop-code l = Assuming l.assumed l.initial.self l.self l.code-index
