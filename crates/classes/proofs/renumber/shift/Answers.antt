use Rattle.std.proofs.Common.{refl, arith}
use Rattle.classes.proofs.Making.{shifting_named, shifting_more, shifting_all}
use Rattle.classes.proofs.renumber.shift.Goals as goal

pub loop-code-init : goal.loop-code-init
loop-code-init c = record { size = refl; done = refl; rest = refl }

pub bounds-rank-variable : goal.bounds-rank-variable
bounds-rank-variable c = let h = shifting_named _ _ _ _ _ c.loop-code.invariant (omega arith) c.requires.known in omega (arith, c.variable.ensures)

pub loop-code-preserved : goal.loop-code-preserved
loop-code-preserved c = shifting_more _ _ _ _ c.loop-code.invariant (omega arith) _ c.variable.ensures

pub returns : goal.returns
returns c = shifting_all _ _ _ _ c.loop-code.invariant (omega arith)
