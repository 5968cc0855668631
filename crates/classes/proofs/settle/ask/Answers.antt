use Rattle.std.proofs.Common.{arith}
use Rattle.classes.proofs.Asking.{asked}
use Rattle.classes.proofs.settle.ask.Goals as goal

pub returns : goal.returns
returns g c =
    let s = c.in-Ok.ensures in
    record {
      answer = asked c.args.m c.args.list.now c.args.assumed.now c.in-Ok.found (g.S.Solver.kept c.search.new.self) s.2;
      tallied = omega (arith, s.1);
    }
