use Rattle.std.proofs.Common.{◌≡◌, ℕ, suc, ◌+◌, ◌-◌, ◌*◌, ◌∷◌, get_or, refl, sym, ap, ◌∙◌, arith}
use Rattle.cnf.specs.Table.{kind_of}
use Rattle.report.specs.Lines.{kind_line}
use Rattle.report.proofs.Filling.{length_report, filling_more}
use Rattle.report.proofs.write.write_nets.Goals as goal

pub returns-then-out-nets : goal.returns-then-out-nets
returns-then-out-nets c = (refl, omega (arith, length_report c.args.entries.now, c.in-Some.ensures.cases.1), refl)

pub loop-i-preserved : goal.loop-i-preserved
loop-i-preserved c =
    let i : ℕ = c.loop-i.i in
    let z : suc i ≡ i + 1 = omega arith in
    let entry : get_or c.in-Some.nets.now i 0 ≡ get_or c.args.entries.now (i + 1) 0
    = ap (λ k. get_or (c.in-Some.field-0-0.now ∷ c.in-Some.nets.now) k 0) z ∙ ap (λ xs. get_or xs (i + 1) 0) (sym c.in-Some.ensures.cases.0) in
    filling_more _ _ _ _ c.loop-i.invariant (omega (arith, c.in-Some.ensures.cases.1)) (omega arith) (19 * i + 19 - 19 * i) c.copy_from_slice.new.self (omega arith)
    (c.copy_from_slice.ensures.after ∙ c.entry_line-bytes.ensures ∙ ap (λ e. kind_line (i + 1) (kind_of (i + 1) e)) entry)
