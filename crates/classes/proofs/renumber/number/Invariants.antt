use Rattle.classes.proofs.Making.{Numbering}
use Rattle.classes.proofs.renumber.number.Given as goal

abbrev pub invariant-loop-v : goal.invariant-loop-v
invariant-loop-v l = Numbering l.initial.rank l.initial.old l.rank l.old l.v l.m
