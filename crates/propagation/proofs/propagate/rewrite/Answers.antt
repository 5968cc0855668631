use Rattle.std.proofs.Common.{arith}
use Rattle.cnf.specs.Table.{by}
use Rattle.propagation.proofs.Propagating.{rewriting_all}
use Rattle.propagation.proofs.propagate.rewrite.Goals as goal

pub returns : goal.returns
returns c =
    λ _. rewriting_all (by c.args.news.now) c.args.table.now c.args.words.now c.follow.new.table c.propagate.new.table c.apply_all-used.new.words
    c.propagate.new.words c.apply_all-used.result _ c.propagate.result (omega arith) (simp c.follow.ensures) (simp c.apply_all-used.ensures.exact) c.propagate.ensures
