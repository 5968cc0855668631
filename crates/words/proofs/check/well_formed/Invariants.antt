use Rattle.std.proofs.Common.{◌≡◌, length}
use Rattle.cnf.specs.Words.{well}
use Rattle.words.proofs.check.well_formed.Given as goal

abbrev pub invariant-loop-count : goal.invariant-loop-count
invariant-loop-count l = well l.m l.rest ≡ well l.m l.list

abbrev pub decreases-loop-count : goal.decreases-loop-count
decreases-loop-count l = length l.rest
