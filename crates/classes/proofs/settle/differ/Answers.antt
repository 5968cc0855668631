use Rattle.std.proofs.Common.{◌≡◌, ◌*◌, ◌/◌, refl, arith}
use Rattle.cnf.specs.Truth.{opp}
use Rattle.classes.proofs.Asking.{accepts-one, accepts_two, differs_constant, differs_first, differs_second}
use Rattle.classes.proofs.settle.differ.Goals as goal

pub ask-requires : goal.ask-requires
ask-requires g c = accepts-one _ _ _ c.requires.capacity c.requires.good _ (omega arith) (omega arith)

pub ask-requires-2 : goal.ask-requires-2
ask-requires-2 g c =
    let h : c.opposite.result / 2 ≡ c.args.old / 2 = omega (arith, c.opposite.ensures) in
    accepts_two _ _ _ c.requires.capacity c.requires.good _ _ (omega arith) (omega arith) (omega arith) (omega arith)

pub ask-requires-3 : goal.ask-requires-3
ask-requires-3 g c =
    let h : c.opposite-2.result / 2 ≡ c.args.v = omega (arith, c.opposite-2.ensures) in
    accepts_two _ _ _ c.requires.capacity c.requires.good _ _ (omega arith) (omega arith) (omega arith) (omega arith)

pub returns-then-old-lt2 : goal.returns-then-old-lt2
returns-then-old-lt2 g c = record {
  answer = differs_constant c.args.m c.args.v c.args.old c.args.list.now (g.S.Solver.kept c.ask.new.solver) c.if-old-lt2.true c.ask.result c.ask.ensures.answer;
  tallied = omega (arith, c.ask.ensures.tallied);
}

pub returns-then-ask : goal.returns-then-ask
returns-then-ask g c = record {
  answer = differs_first c.args.m c.args.v c.args.old c.args.list.now (g.S.Solver.kept c.ask-2.new.solver) _ _ c.opposite.ensures refl c.if-ask.ensures.answer;
  tallied = omega (arith, c.ask-2.ensures.tallied);
}

pub returns : goal.returns
returns g c =
    let own : c.opposite-2.result ≡ opp (2 * c.args.v) = omega (arith, c.opposite-2.ensures) in
    record {
      answer = differs_second c.args.m c.args.v c.args.old c.args.list.now (g.S.Solver.kept c.ask-3.new.solver) _ _ c.opposite.ensures own
          c.if-ask.ensures.answer c.ask-3.result c.ask-3.ensures.answer;
      tallied = omega (arith, c.ask-2.ensures.tallied, c.ask-3.ensures.tallied);
    }
