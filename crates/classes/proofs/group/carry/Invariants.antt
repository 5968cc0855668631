use Rattle.std.proofs.Common.{◌-◌}
use Rattle.classes.specs.Group.{Carried}
use Rattle.classes.proofs.group.carry.Given as goal

abbrev pub invariant-loop-w : goal.invariant-loop-w
invariant-loop-w l = Carried l.old l.names l.initial.table l.table (l.w - 1)
