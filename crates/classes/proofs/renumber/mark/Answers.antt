use Rattle.std.proofs.Common.{arith}
use Rattle.classes.proofs.Making.{marking_more, marking_all, literal_named}
use Rattle.classes.proofs.renumber.mark.Goals as goal

pub bounds-marks-variable : goal.bounds-marks-variable
bounds-marks-variable c = let h = (literal_named _ _ _ _ c.loop-code.invariant c.loop-code-test.true).1 in omega (arith, c.variable.ensures)

pub loop-code-preserved : goal.loop-code-preserved
loop-code-preserved c = marking_more _ _ _ _ c.loop-code.invariant c.loop-code-test.true _ c.variable.ensures

pub returns : goal.returns
returns c = marking_all _ _ _ _ c.loop-code.invariant c.loop-code-test.false
