use Rattle.cnf.specs.Table.{by}
use Rattle.propagation.proofs.Following.{partly_all, partly_more}
use Rattle.propagation.proofs.follow.follow.Goals as goal

pub loop-r-preserved : goal.loop-r-preserved
loop-r-preserved c = partly_more (by c.args.news.now) c.args.table.now c.loop-r.table c.loop-r.r-index c.loop-r.invariant c.loop-r.auto.table c.loop-r-test.true c.representative.result (simp c.representative.ensures)

pub returns : goal.returns
returns c = partly_all (by c.args.news.now) c.args.table.now c.loop-r.table c.loop-r.r-index c.loop-r.invariant c.loop-r-test.false
