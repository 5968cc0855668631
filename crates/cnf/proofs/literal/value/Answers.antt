use Rattle.std.proofs.Common.{false, arith}
use Rattle.cnf.proofs.Entries.{item_or, told_past}
use Rattle.cnf.proofs.literal.value.Goals as goal

pub returns : goal.returns
returns c =
    let i = item_or c.args.bits.now _ false _ c.get.ensures.lookup in
    let t = told_past c.args.bits.now c.args.v (omega arith) in
    cc
