use Rattle.std.proofs.Common.{◌-◌, refl, ap, ◌∙◌}
use Rattle.cnf.specs.Truth.{inside}
use Rattle.cnf.proofs.Reading.{read_means, first_good}
use Rattle.sheet.proofs.Marking.{joining_all_more, joining_all_done}
use Rattle.sheet.proofs.store.join_all.Goals as goal

pub loop-clause-init : goal.loop-clause-init
loop-clause-init c =
    rw c.into_iter-clause-iterator.ensures.into_iter_gives record { size = refl; good = (read_means _ _ c.requires).1; rest = λ _. refl }

pub join-requires : goal.join-requires
join-requires c = ap (λ n. inside (n - 1) c.in-Some.clause.now) c.loop-clause.invariant.size ∙ (first_good _ _ _ _ c.in-Some.ensures.steps c.loop-clause.invariant.good).known

pub loop-clause-preserved : goal.loop-clause-preserved
loop-clause-preserved c = joining_all_more _ _ _ _ _ _ _ c.in-Some.ensures.steps c.loop-clause.invariant c.join.auto.marks c.join.ensures

pub returns : goal.returns
returns c = joining_all_done _ _ _ _ c.in-None.ensures.steps.0 c.loop-clause.invariant
