use Rattle.classes.proofs.Making.{Marking}
use Rattle.classes.proofs.renumber.mark.Given as goal

abbrev pub invariant-loop-code : goal.invariant-loop-code
invariant-loop-code l = Marking l.body l.initial.marks l.marks l.code-index
