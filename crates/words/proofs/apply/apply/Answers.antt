use Rattle.std.proofs.Common.{◌≡◌, ℕ, true, false, ◌||◌, eqb, List, take, ap, arith}
use Rattle.std.proofs.lemmas.Bool.Decides.{nat_tests}
use Rattle.cnf.specs.Truth.{opp}
use Rattle.cnf.specs.Table.{has}
use Rattle.cnf.proofs.Applying.{applies, put_drops, put_vanishes, put_adds}
use Rattle.words.proofs.Rewriting.{rewritten, rewriting_gone, rewriting_skip, rewriting_push}
use Rattle.words.proofs.apply.apply.Goals as goal
use Rattle.words.proofs.apply.apply.Goals.{then-d-eq-TRUE-via-then-d-eq-TRUE, then-d-eq-TRUE-via-else-d-eq-TRUE+then-has_code}
use Rattle.words.proofs.apply.apply.Goals.{then-d-ne-FALSE+then-not-has_code+else-d-eq-TRUE+else-has_code, else-d-ne-FALSE, else-d-ne-FALSE-via-then-d-ne-FALSE+else-not-has_code, else-d-ne-FALSE-via-else-d-ne-FALSE}

pub returns-then-d-eq-TRUE : goal.returns-then-d-eq-TRUE
returns-then-d-eq-TRUE c =
    let d : ℕ = c.representative-d.result in
    let out : List ℕ = take c.loop-s.n c.loop-s.body in
    let z = c.if-d-ne-FALSE.true in
    let h = c.has_code.ensures in
    let t = c.if-not-has_code.true in
    let new : (eqb d 0 || has out d) ≡ false = grind (arith, nat_tests) in
    let both : (eqb d 1 || has out (opp d)) ≡ true = elim c.then-d-eq-TRUE.branch [
      | then-d-eq-TRUE-via-then-d-eq-TRUE w ↦ (let e = w.if-d-eq-TRUE.true in grind (arith, nat_tests))
      | then-d-eq-TRUE-via-else-d-eq-TRUE+then-has_code w ↦
          (let o = ap (has out) w.opposite.ensures in let g = w.has_code-else-d-eq-TRUE.ensures in let e = w.if-has_code.true in grind (arith, nat_tests))
    ] in
    record {
      applies = applies _ _ _ (rewriting_gone _ _ _ _ _ c.loop-s.invariant c.loop-s-test.true d c.representative-d.ensures (put_vanishes out d new both));
      within = tt;
    }

pub loop-s-preserved : goal.loop-s-preserved
loop-s-preserved c =
    let d : ℕ = c.representative-d.result in
    let out : List ℕ = take c.loop-s.n c.loop-s.body in
    elim c.if-d-ne-FALSE.branch [
      | then-d-ne-FALSE+then-not-has_code+else-d-eq-TRUE+else-has_code w ↦
          (let z = w.if-d-ne-FALSE.true in
          let h = w.has_code.ensures in
          let t = w.if-not-has_code.true in
          let u = w.if-d-eq-TRUE.false in
          let o = ap (has out) w.opposite.ensures in
          let g = w.has_code-else-d-eq-TRUE.ensures in
          let e = w.if-has_code.false in
          rw (w.body-is, w.n-is)
          (rewriting_push _ _ _ _ _ c.loop-s.invariant c.loop-s-test.true d c.representative-d.ensures (put_adds out d (grind (arith, nat_tests)) (grind (arith, nat_tests))) _ (omega arith)))
      | else-d-ne-FALSE w ↦
          (let dropped : (eqb d 0 || has out d) ≡ true = elim w.else-d-ne-FALSE.branch [
            | else-d-ne-FALSE-via-then-d-ne-FALSE+else-not-has_code w' ↦ (let h = w'.has_code.ensures in let t = w'.if-not-has_code.false in grind (arith, nat_tests))
            | else-d-ne-FALSE-via-else-d-ne-FALSE w' ↦ (let z = w'.if-d-ne-FALSE.false in grind (arith, nat_tests))
          ] in
          rw (w.body-is, w.n-is)
          (rewriting_skip _ _ _ _ _ c.loop-s.invariant c.loop-s-test.true d c.representative-d.ensures (put_drops out d dropped)))
    ]

pub returns : goal.returns
returns c = record {
  applies = applies _ _ _ (rewritten _ _ _ _ _ c.loop-s.invariant (omega arith));
  within = omega arith;
}
