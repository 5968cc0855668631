use Rattle.report.proofs.Filling.{Filling}
use Rattle.report.proofs.write.write_nets.Given as goal

abbrev pub invariant-loop-i : goal.invariant-loop-i
invariant-loop-i l = Filling l.fn.entries l.initial.out l.out l.i
