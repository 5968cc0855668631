use Rattle.std.proofs.Common.{◌≡◌}
use Rattle.cnf.specs.Table.{by}
use Rattle.propagation.proofs.Following.{partly}
use Rattle.propagation.proofs.follow.follow.Given as goal

abbrev pub invariant-loop-r : goal.invariant-loop-r
invariant-loop-r l = l.table ≡ partly (by l.news) l.initial.table l.r-index
