use Rattle.std.proofs.Common.{◌-◌, refl, ap, ◌∙◌}
use Rattle.cnf.specs.Truth.{inside}
use Rattle.cnf.specs.Words.{read, goods}
use Rattle.cnf.proofs.Reading.{read_means, first_good}
use Rattle.classes.proofs.Making.{cleared, marking_all_none, marking_all_more, marking_all_done}
use Rattle.classes.proofs.renumber.mark_all.Goals as goal

pub loop-clause-init : goal.loop-clause-init
loop-clause-init c =
    rw c.into_iter-clause-iterator.ensures.into_iter_gives
    (marking_all_none _ _ c.fill.new.self refl (ap (λ n. goods (n - 1) (read c.args.list.now)) c.fill.ensures.len ∙ (read_means _ _ c.requires).1)
    (λ k h. cleared _ _ (c.fill.ensures.after (λ _ e. e)) k))

pub mark-requires : goal.mark-requires
mark-requires c =
    ap (λ n. inside (n - 1) c.in-Some.clause.now) c.loop-clause.invariant.size ∙ (first_good _ _ _ _ c.in-Some.ensures.steps c.loop-clause.invariant.good).known

pub loop-clause-preserved : goal.loop-clause-preserved
loop-clause-preserved c = marking_all_more _ _ _ _ _ _ _ c.in-Some.ensures.steps (c.mark.auto.marks ∙ c.loop-clause.invariant.size) c.loop-clause.invariant c.mark.ensures

pub returns : goal.returns
returns c = marking_all_done _ _ _ _ c.in-None.ensures.steps.0 c.loop-clause.invariant
