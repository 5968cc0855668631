use Rattle.std.proofs.Common.{◌≡◌, ◌+◌, ◌-◌, length, subst, arith}
use Rattle.classes.specs.Group.{Carried}
use Rattle.classes.proofs.Carrying.{carried_more}
use Rattle.classes.proofs.group.carry.Goals as goal

pub loop-w-preserved : goal.loop-w-preserved
loop-w-preserved c =
    let z : c.loop-w.w ≡ c.loop-w.w + 1 - 1 = omega arith in
    subst (Carried c.args.old.now c.args.names.now c.args.table.now _) z
    (carried_more _ _ _ _ _ _ _ c.variable.result _ c.requires.rises (omega arith) (omega arith) (omega arith) c.variable.ensures (omega arith) c.loop-w.invariant)

pub returns : goal.returns
returns c =
    let z : c.loop-w.w - 1 ≡ length c.args.names.now - 1 = omega (arith, c.loop-w.auto.w-end, c.requires.some) in
    subst (Carried c.args.old.now c.args.names.now c.args.table.now _) z c.loop-w.invariant
