use Rattle.std.proofs.Common.{arith}
use Rattle.propagation.proofs.Propagating.{propagating_none, propagating_all, propagating_nothing, propagating_conflict, propagating_more}
use Rattle.propagation.proofs.propagate.propagate.Goals as goal

pub loop-turn-init : goal.loop-turn-init
loop-turn-init c = propagating_none c.args.table.now c.args.words.now

pub returns-in-Nothing : goal.returns-in-Nothing
returns-in-Nothing c = propagating_nothing _ _ _ _ _ _ c.loop-turn.invariant c.loop-turn-test.true _ (omega arith) c.in-Nothing.ensures

pub returns-in-Conflict : goal.returns-in-Conflict
returns-in-Conflict c = λ e. rw (propagating_conflict _ _ _ _ _ _ c.loop-turn.invariant c.loop-turn-test.true _ (omega arith) c.in-Conflict.ensures e)

pub loop-turn-preserved : goal.loop-turn-preserved
loop-turn-preserved c =
    propagating_more _ _ _ _ _ _ c.loop-turn.invariant c.loop-turn-test.true _ (omega arith) c.in-Forces.literal c.fix.new.table c.apply_all-used.new.words
    c.apply_all-used.result c.in-Forces.ensures (simp c.fix.ensures) (simp c.apply_all-used.ensures.exact) (omega arith) c.apply_all-used.auto.words

pub returns : goal.returns
returns c = propagating_all _ _ _ _ _ _ c.loop-turn.invariant c.loop-turn-test.false
