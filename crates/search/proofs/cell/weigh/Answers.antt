use Rattle.std.proofs.Common.{ℕ, ◌+◌, length, get_or, Option, Some, sym, ap, ◌∙◌, subst}
use Rattle.search.proofs.CellFacts.{count_open, look_open, place_within}
use Rattle.search.proofs.Weighing.{Scanned, scanned_named, scanned_no, scanned_open, scanned_yes}
use Rattle.search.proofs.cell.weigh.Goals as goal
use Rattle.search.proofs.cell.weigh.Goals.{in-Some-false, in-None+else-is_some}

pub returns-in-Some-true : goal.returns-in-Some-true
returns-in-Some-true c =
    scanned_yes c.args.cells.now c.args.body.now c.loop-code.code-index c.loop-code-test.true c.loop-code.last (ap Some (sym c.in-Some-true.field-0-test) ∙ c.in-Some-true.ensures) c.loop-code.invariant

pub returns-then-is_some : goal.returns-then-is_some
returns-then-is_some c =
    let cs = c.args.cells.now in
    let w = get_or c.args.body.now c.loop-code.code-index 0 in
    let n = scanned_named cs c.args.body.now c.loop-code.code-index c.loop-code-test.true c.loop-code.last c.loop-code.invariant in
    count_open cs _ (place_within (length cs) w n) (look_open cs w (sym c.in-None.ensures))

pub loop-code-preserved : goal.loop-code-preserved
loop-code-preserved c =
    let cs = c.args.cells.now in
    let ws = c.args.body.now in
    let i = c.loop-code.code-index in
    let P : Option ℕ → Type 0 = Scanned cs ws (i + 1) in
    elim c.match-look_at.branch [
      | in-Some-false w ↦ subst P (sym w.last-is) (scanned_no cs ws i c.loop-code-test.true c.loop-code.last (ap Some (sym w.in-Some-false.field-0-test) ∙ w.in-Some-false.ensures) c.loop-code.invariant)
      | in-None+else-is_some w ↦ subst P (sym w.last-is) (scanned_open cs ws i c.loop-code-test.true c.loop-code.last w.in-None.ensures (sym w.if-is_some.ensures) c.loop-code.invariant)
    ]
