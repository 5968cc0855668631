use Rattle.std.proofs.Common.{◌≡◌, false, ◌∷◌, inl, inr, sym, ap, ◌∙◌, arith}
use Rattle.std.proofs.lemmas.List.{drop_all}
use Rattle.cnf.specs.Words.{well}
use Rattle.cnf.proofs.Reading.{well_long, well_less, well_more, well-nil}
use Rattle.words.proofs.check.well_formed.Goals as goal

pub returns-then-count-gt-MAX_LITERALS : goal.returns-then-count-gt-MAX_LITERALS
returns-then-count-gt-MAX_LITERALS c =
    let over : well c.args.m (c.in-Some.count.now ∷ c.in-Some.body.now) ≡ false = elim c.then-count-gt-MAX_LITERALS.either [
      | inl l ↦ well_long c.args.m c.in-Some.count.now c.in-Some.body.now (omega (arith, l))
      | inr h ↦ well_less c.args.m c.in-Some.count.now c.in-Some.body.now (omega (arith, h.1))
    ] in
    sym (sym c.loop-count.invariant ∙ ap (well c.args.m) c.in-Some.ensures.cases.0 ∙ over)

pub returns-then-not-all_named : goal.returns-then-not-all_named
returns-then-not-all_named c =
    let i = c.loop-count.invariant in
    let e = ap (well c.args.m) c.in-Some.ensures.cases.0 in
    let w = well_more c.args.m c.in-Some.count.now c.in-Some.body.now (omega arith) (omega arith) in
    let f = c.if-not-all_named.ensures in
    grind arith

pub loop-count-preserved : goal.loop-count-preserved
loop-count-preserved c =
    let i = c.loop-count.invariant in
    let e = ap (well c.args.m) c.in-Some.ensures.cases.0 in
    let w = well_more c.args.m c.in-Some.count.now c.in-Some.body.now (omega arith) (omega arith) in
    let f = c.if-not-all_named.ensures in
    grind arith

pub returns : goal.returns
returns c =
    sym (sym c.loop-count.invariant ∙ ap (well c.args.m) (drop_all 0 c.loop-count.rest.now (omega (arith, c.in_default.ensures.cases))) ∙ well-nil c.args.m)
