use Rattle.classes.proofs.Refining.{Refining}
use Rattle.classes.proofs.refine.refine.Given as goal

abbrev pub invariant-loop-w : goal.invariant-loop-w
invariant-loop-w l = Refining l.bits l.initial.table l.table l.split l.w
