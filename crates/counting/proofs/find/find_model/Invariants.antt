use Rattle.std.proofs.Common.{◌≡◌, take, Some}
use Rattle.counting.proofs.find.find_model.Given as goal

abbrev pub invariant-loop-bit : goal.invariant-loop-bit
invariant-loop-bit l = (l.kept.bits ≡ Some (take l.bit-index l.bit-items)) × (l.kept.room ≡ l.initial.kept.room)
