use Rattle.std.proofs.Common.{get_or, arith}
use Rattle.cnf.proofs.Entries.{item_or, turn_even, turn_odd}
use Rattle.cnf.proofs.table.representative.Goals as goal

pub returns-then-code-eq0 : goal.returns-then-code-eq0
returns-then-code-eq0 c =
    let i = item_or c.args.entries.now _ 0 _ c.get.ensures.lookup in
    let t = turn_even (get_or c.args.entries.now c.variable.result 0) c.args.code c.if-code-eq0.true in
    cc

pub returns-else-code-eq0 : goal.returns-else-code-eq0
returns-else-code-eq0 c =
    let i = item_or c.args.entries.now _ 0 _ c.get.ensures.lookup in
    let t = turn_odd (get_or c.args.entries.now c.variable.result 0) c.args.code (omega arith) in
    cc
