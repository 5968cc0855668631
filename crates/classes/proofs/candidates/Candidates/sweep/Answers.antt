use Rattle.std.proofs.Common.{◌≡◌, ◌+◌, ◌-◌, ◌≤◌, List, ◌++◌, ℕ, length, take, drop, sym, ap, ◌∙◌, subst, arith}
use Rattle.std.proofs.lemmas.List.{take_all, take-append-le, length-append, length-take-le}
use Rattle.cnf.specs.Words.{read, well}
use Rattle.cnf.proofs.Reading.{read_means}
use Rattle.classes.specs.Classes.{held, Sweeping}
use Rattle.classes.proofs.Asking.{accepts-none}
use Rattle.classes.proofs.Sweeping.{start_sweeping, swept}
use Rattle.classes.proofs.candidates.Candidates.sweep.Goals as goal

pub ask-requires : goal.ask-requires
ask-requires g c = accepts-none _ _ _ c.requires.capacity c.requires.good

pub invariant_of-self-clause-tabled : goal.invariant_of-self-clause-tabled
invariant_of-self-clause-tabled g c =
    (start_sweeping (read c.args.work.now) (held (g.S.Solver.kept c.ask.new.solver)) _ c.if-not-ask.ensures.answer.model (omega (arith, c.start.ensures.size, c.start.new.names.ok)) c.start.ensures.named).tabled

pub loop-v-init : goal.loop-v-init
loop-v-init g c =
    let ws = c.args.work.now in
    let e = take_all (length ws) ws (omega arith) in (
      c.start.ensures.size,
      omega arith,
      ap (well c.args.m) e ∙ c.requires.good,
      omega arith,
      subst (λ xs. Sweeping (read ws) c.start.new.names.items 1 (read xs)) (sym e)
          (start_sweeping (read ws) (held (g.S.Solver.kept c.ask.new.solver)) _ c.if-not-ask.ensures.answer.model (omega (arith, c.start.ensures.size, c.start.new.names.ok)) c.start.ensures.named),
    )

pub settle-left-requires-clause-good : goal.settle-left-requires-clause-good
settle-left-requires-clause-good g c = ap (λ n. well n (take c.loop-v.left c.loop-v.work)) (omega (arith, c.loop-v.invariant.0)) ∙ c.loop-v.invariant.2

pub loop-v-preserved : goal.loop-v-preserved
loop-v-preserved g c =
    let left : ℕ = c.settle-left.result in
    let list : List ℕ = c.settle-left.new.list in
    let behind : List ℕ = drop c.loop-v.left c.loop-v.work in
    let size : length list ≡ c.loop-v.left = c.settle-left.auto.list ∙ length-take-le c.loop-v.left c.loop-v.work c.loop-v.invariant.1 in
    let fewer : left ≤ length list = omega (arith, c.settle-left.ensures.fewer, length-take-le c.loop-v.left c.loop-v.work c.loop-v.invariant.1) in
    let front : take left (list ++ behind) ≡ take left list = take-append-le left list behind fewer in
    let m : c.args.m ≡ c.loop-v.self.names.len - 1 = omega (arith, c.loop-v.invariant.0) in (
      omega (arith, c.settle-left.ensures.size, c.loop-v.invariant.0),
      omega (arith, length-append list behind),
      ap (well c.args.m) front ∙ ap (λ n. well n (take left list)) m ∙ c.settle-left.ensures.good,
      omega (arith, c.settle-left.ensures.tallied, c.loop-v.invariant.3),
      subst (λ xs. Sweeping (read c.args.work.now) c.settle-left.new.self.names.items (c.loop-v.v + 1) (read xs)) (sym front) (c.settle-left.ensures.step _ c.loop-v.invariant.4),
    )

pub returns-clause-answer : goal.returns-clause-answer
returns-clause-answer g c =
    swept (read c.args.work.now) c.args.m c.loop-v.self.names.items _ _ c.loop-v.invariant.4 (omega (arith, c.loop-v.self.names.ok)) (omega arith)
    (read_means c.args.m c.args.work.now c.requires.good).1

pub returns-clause-tallied : goal.returns-clause-tallied
returns-clause-tallied g c = omega (arith, c.if-not-ask.ensures.tallied, c.loop-v.auto.v-end (omega arith))
