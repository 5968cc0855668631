use Rattle.sheet.proofs.Marking.{Joining}
use Rattle.sheet.proofs.store.join.Given as goal

abbrev pub invariant-loop-code : goal.invariant-loop-code
invariant-loop-code l = Joining l.body l.initial.marks l.marks l.code-index
