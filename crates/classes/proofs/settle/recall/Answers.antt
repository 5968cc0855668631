use Rattle.std.proofs.Common.{◌≡◌, ℕ, ◌+◌, ◌-◌, Bool, false, length, get_or, ap, ◌∙◌, arith}
use Rattle.cnf.specs.Truth.{lit}
use Rattle.cnf.specs.Table.{via}
use Rattle.cnf.proofs.Entries.{entries_from_tabled}
use Rattle.classes.specs.Classes.{held, settled}
use Rattle.classes.proofs.Sweeping.{settled-below, settled_from}
use Rattle.classes.proofs.Filling.{push_below, recalled}
use Rattle.classes.proofs.settle.recall.Goals as goal
use Rattle.classes.proofs.settle.recall.Goals.{then-w-v, else-w-v}

pub loop-w-preserved : goal.loop-w-preserved
loop-w-preserved g c =
    let h : ℕ → Bool = held (g.S.Solver.kept c.args.solver.now) in
    let t = c.args.names.now in
    let w = c.loop-w.w in
    let n : ℕ = c.loop-w.bits.len in
    let z : n + 1 ≡ w = c.loop-w.invariant.0 in
    let code : c.if-w-v.code ≡ settled t c.args.v w = elim c.if-w-v.branch [
      | then-w-v way ↦ omega (arith, way.code-is, settled-below t c.args.v w way.if-w-v.true)
      | else-w-v way ↦ omega (arith, way.code-is, settled_from t c.args.v w way.if-w-v.false)
    ] in (
      omega arith,
      c.push_reserved.ensures.capacity ∙ c.loop-w.invariant.1,
      λ k j. ap (λ xs. get_or xs k false) c.push_reserved.ensures.items
          ∙ push_below (λ i b. b ≡ via h (settled t c.args.v) (i + 1)) c.loop-w.bits.items n c.look.result false (omega (arith, c.loop-w.bits.ok)) c.loop-w.invariant.2
          (c.look.ensures ∙ ap (lit h) code ∙ ap (via h (settled t c.args.v)) (omega arith)) k (omega (arith, c.push_reserved.ensures.len)),
    )

pub returns-clause-told : goal.returns-clause-told
returns-clause-told g c =
    recalled (length c.args.names.now - 1) (g.S.Solver.kept c.args.solver.now) c.args.names.now c.args.v c.loop-w.bits.items c.requires.kept
    (entries_from_tabled _ c.requires.tabled).constant (omega arith) (omega (arith, c.loop-w.bits.ok, c.loop-w.auto.w-end (omega arith))) (λ i l. c.loop-w.invariant.2 i (omega (arith, c.loop-w.auto.w-end (omega arith))))
