use Rattle.std.proofs.Common.{◌+◌, length, sym, subst, ap, ◌∙◌, arith}
use Rattle.cnf.specs.Table.{Tabled}
use Rattle.cnf.proofs.Entries.{fresh_tabled, fresh-length}
use Rattle.cnf.proofs.table.Table.fresh.Goals as goal

pub invariant_of-result : goal.invariant_of-result
invariant_of-result c =
    let made = c.in_ok-entries.ensures in
    let w = subst Tabled (sym made.1) (fresh_tabled c.args.nets) in
    let size = ap length made.1 ∙ fresh-length 0 (c.args.nets + 1) in
    record { tabled = w; some = omega (arith, size); few = omega (arith, size) }
