use Rattle.std.proofs.Common.{length, refl, ap, ◌∙◌, arith, map, take}
use Rattle.cnf.specs.Words.{encode}
use Rattle.cnf.specs.Table.{by}
use Rattle.classes.specs.Renumber.{moved}
use Rattle.cnf.proofs.Reading.{read_means}
use Rattle.classes.proofs.Making.{writing_more, writing_all}
use Rattle.classes.proofs.renumber.write.Goals as goal

pub loop-clause-init : goal.loop-clause-init
loop-clause-init c =
    let h = read_means _ _ c.requires.good in
    rw c.into_iter-clause-iterator.ensures.into_iter_gives record { size = refl; room = omega arith; fits = omega (arith, ap length h.0); good = h.1; words = refl }

pub loop-clause-preserved : goal.loop-clause-preserved
loop-clause-preserved c =
    writing_more _ _ _ _ _ _ _ c.loop-clause.invariant _ _ c.shift.new.clause _ _ c.in-Some.ensures.steps (omega arith)
    (c.shift.ensures ∙ ap (map (moved (by c.args.rank.now))) c.copy_from_slice.ensures.after) refl

pub returns : goal.returns
returns c =
    let h = read_means _ _ c.requires.good in
    let room = c.loop-clause.invariant.room in
    let none = ap (λ cs. length (encode cs)) c.in-None.ensures.steps.0 in
    ap (λ n. take n c.loop-clause.work) (omega (arith, ap length h.0)) ∙ writing_all _ _ _ _ _ _ _ c.loop-clause.invariant c.in-None.ensures.steps.0
