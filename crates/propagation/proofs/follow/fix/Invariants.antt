use Rattle.std.proofs.Common.{◌≡◌}
use Rattle.propagation.specs.Follow.{forced}
use Rattle.propagation.proofs.Following.{partly}
use Rattle.propagation.proofs.follow.fix.Given as goal

abbrev pub invariant-loop-r : goal.invariant-loop-r
invariant-loop-r l = l.table ≡ partly (forced l.literal) l.initial.table l.r-index
