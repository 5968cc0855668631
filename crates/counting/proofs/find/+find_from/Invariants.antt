use Rattle.std.proofs.Common.{◌-◌, length}
use Rattle.counting.proofs.find.+find_from.Given as goal

abbrev pub decreases-find_from : goal.decreases-find_from
decreases-find_from l = length l.bits.now - l.place
