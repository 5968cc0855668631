use Rattle.std.proofs.Common.{◌≡◌, ℕ, ◌+◌, ◌/◌, get_or, set, sym, ◌∙◌, arith}
use Rattle.cnf.specs.Table.{turn}
use Rattle.propagation.specs.Follow.{forced}
use Rattle.propagation.proofs.Following.{partly, partly_all, partly_more, forced_literal, forced-opposed, forced_other}
use Rattle.propagation.proofs.follow.fix.Goals as goal
use Rattle.propagation.proofs.follow.fix.Goals.{then-r-literal, else-r-literal+then-r-opposed, else-r-literal+else-r-opposed}

pub loop-r-preserved : goal.loop-r-preserved
loop-r-preserved c =
    let f : ℕ → ℕ = forced c.args.literal in
    let r : ℕ = get_or c.loop-r.table c.loop-r.r-index 0 in
    let more : (x : ℕ) → x ≡ turn (f (r / 2)) r → set c.loop-r.table c.loop-r.r-index x ≡ partly f c.args.table.now (c.loop-r.r-index + 1)
    = partly_more f c.args.table.now c.loop-r.table c.loop-r.r-index c.loop-r.invariant c.loop-r.auto.table c.loop-r-test.true in
    elim c.if-r-literal.branch [
      | then-r-literal w ↦ w.table-is ∙ more _ (omega (arith, forced_literal c.args.literal r (omega (arith, w.if-r-literal.true))))
      | else-r-literal+then-r-opposed w ↦ w.table-is ∙ more _ (omega (arith, forced-opposed c.args.literal r (omega (arith, w.if-r-opposed.true, c.opposite-opposed.ensures))))
      | else-r-literal+else-r-opposed w ↦
          w.table-is ∙ more _ (forced_other c.args.literal r w.if-r-literal.false (λ e. w.if-r-opposed.false (e ∙ sym c.opposite-opposed.ensures)))
    ]

pub returns : goal.returns
returns c = partly_all (forced c.args.literal) c.args.table.now c.loop-r.table c.loop-r.r-index c.loop-r.invariant c.loop-r-test.false
