use Rattle.std.proofs.Common.{ap, ◌∙◌, arith}
use Rattle.cnf.specs.Words.{well}
use Rattle.cnf.proofs.Reading.{clause_at_lem}
use Rattle.words.proofs.Walking.{walked, walking_gone, walking_more, applied-well}
use Rattle.words.proofs.apply.apply_all.Goals as goal

pub overflow_cast-words : goal.overflow_cast-words
overflow_cast-words c =
    let p = clause_at_lem c.loop-i.words c.loop-i.i c.clause_end-end.result c.loop-i-test.true c.clause_end-end.ensures.ends in
    omega (arith, p.size, c.in-Some.ensures.within)

pub loop-i-preserved-in-Some : goal.loop-i-preserved-in-Some
loop-i-preserved-in-Some c =
    let p = clause_at_lem c.loop-i.words c.loop-i.i c.clause_end-end.result c.loop-i-test.true c.clause_end-end.ensures.ends in
    walking_more _ _ _ _ _ c.loop-i.invariant _ c.apply.new.body p (c.apply.auto.body ∙ p.size) c.in-Some.n c.copy_within.new.self
    (omega (arith, p.size, c.in-Some.ensures.within)) c.in-Some.ensures.applies.exact c.copy_within.ensures.after _ _ (omega arith) (omega arith)

pub loop-i-preserved : goal.loop-i-preserved
loop-i-preserved c =
    let p = clause_at_lem c.loop-i.words c.loop-i.i c.clause_end-end.result c.loop-i-test.true c.clause_end-end.ensures.ends in
    walking_gone _ _ _ _ _ c.loop-i.invariant _ c.apply.new.body p (c.apply.auto.body ∙ p.size) c.in_default.ensures.applies.exact

pub returns : goal.returns
returns c =
    let e = walked _ _ _ _ _ c.loop-i.invariant (omega arith) in
    record {
      exact = e;
      within = omega arith;
      formed = λ m h l w. ap (well m) e ∙ applied-well c.args.table.now c.args.words.now m h l w;
    }
