use Rattle.std.proofs.Common.{◌+◌, get_or, Some, sym, ap, ◌∙◌, subst}
use Rattle.search.specs.Cells.{look}
use Rattle.search.specs.declared.state.State.{State}
use Rattle.search.proofs.Assuming.{Assuming, assuming_yes, assuming_no, assuming_open}
use Rattle.search.proofs.state.State.assume.Goals as goal
use Rattle.search.proofs.state.State.assume.Goals.{in-Some-true, in-None}

pub returns-in-Some-false-clause-assumed : goal.returns-in-Some-false-clause-assumed
returns-in-Some-false-clause-assumed c =
    let w = get_or c.args.assumed.now c.loop-code.code-index 0 in
    assuming_no c.args.assumed.now c.args.self.now c.loop-code.self c.loop-code.code-index c.loop-code.invariant c.loop-code-test.true
    (ap Some (sym c.in-Some-false.field-0-test) ∙ c.in-Some-false.ensures ∙ ap (λ x. look x w) c.deref.ensures.value)

pub loop-code-preserved : goal.loop-code-preserved
loop-code-preserved c =
    let ws = c.args.assumed.now in
    let s = c.args.self.now in
    let t = c.loop-code.self in
    let i = c.loop-code.code-index in
    let w = get_or ws i 0 in
    let P : State → Type 0 = λ x. Assuming ws s x (i + 1) in
    elim c.match-look_at.branch [
      | in-Some-true y ↦ subst P (sym y.self-is) (assuming_yes ws s t i c.loop-code.invariant c.loop-code-test.true (ap Some (sym y.in-Some-true.field-0-test) ∙ y.in-Some-true.ensures ∙ ap (λ x. look x w) c.deref.ensures.value))
      | in-None y ↦ let n = y.assign.ensures in subst P (sym y.self-is) (assuming_open ws s t i c.loop-code.invariant c.loop-code-test.true y.assign.new.self n.cells n.grew)
    ]
