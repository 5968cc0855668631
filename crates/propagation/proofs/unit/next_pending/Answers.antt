use Rattle.std.proofs.Common.{sym, ap, ◌∙◌, arith, ltb-false}
use borrow.Author.Tests.{eqb-false}
use Rattle.propagation.specs.Propagate.{pending}
use Rattle.propagation.proofs.Short.{pending_none, pending_one, pending_more}
use Rattle.propagation.proofs.unit.next_pending.Goals as goal

pub returns-in-empty : goal.returns-in-empty
returns-in-empty c = sym (sym c.loop-clause.invariant ∙ pending_none _ _ _ c.in-Some.ensures.steps (omega arith))

pub returns-in-len1 : goal.returns-in-len1
returns-in-len1 c = sym (sym c.loop-clause.invariant ∙ pending_one _ _ _ c.in-Some.ensures.steps (omega arith))

pub loop-clause-preserved : goal.loop-clause-preserved
loop-clause-preserved c = sym (pending_more _ _ _ c.in-Some.ensures.steps (omega (arith, ltb-false, eqb-false))) ∙ c.loop-clause.invariant

pub returns : goal.returns
returns c =
    let e = ap pending c.in-None.ensures.steps.0 in
    let i = c.loop-clause.invariant in
    cc
