use Rattle.std.proofs.Common.{sym, refl, ◌∙◌, subst, arith, length-set}
use Rattle.std.proofs.lemmas.List.{get_or-set_same, set-get_or}
use Rattle.classes.specs.Marks.{Numbered}
use Rattle.classes.proofs.Making.{numbering_skip, numbering_more, numbering_room}
use Rattle.classes.proofs.renumber.number.Goals as goal
use Rattle.classes.proofs.renumber.number.Goals.{then-mark-eq1, else-mark-eq1}

pub loop-v-init : goal.loop-v-init
loop-v-init c = record {
  size = length-set c.args.old.now 0 0 ∙ sym c.requires.same;
  zero = c.requires.constant;
  start = λ _. (refl, refl, refl);
  few = λ h. absurd (omega arith);
  done = λ h. absurd (omega arith);
}

pub overflow_cast-mark : goal.overflow_cast-mark
overflow_cast-mark c = let r = numbering_room _ _ _ _ _ _ c.loop-v.invariant (omega arith) c.if-mark-eq1.true in omega (arith, length-set c.args.old.now 0 0)

pub bounds-old-m : goal.bounds-old-m
bounds-old-m c = numbering_room _ _ _ _ _ _ c.loop-v.invariant (omega arith) c.if-mark-eq1.true

pub loop-v-preserved : goal.loop-v-preserved
loop-v-preserved c = elim c.if-mark-eq1.branch [
  | then-mark-eq1 w ↦ rw (w.rank-is, w.old-is, w.m-is) (numbering_more _ _ _ _ _ _ c.loop-v.invariant (omega arith) w.if-mark-eq1.true _ _ (omega arith) (omega arith))
  | else-mark-eq1 w ↦ rw (w.rank-is, set-get_or c.loop-v.rank c.loop-v.v 0, w.old-is, w.m-is)
      (numbering_skip _ _ _ _ _ _ c.loop-v.invariant (omega arith) (get_or-set_same c.args.old.now 0 0 0 (omega arith)) w.if-mark-eq1.false)
]

pub returns : goal.returns
returns c = λ f h. subst (λ v. Numbered f c.loop-v.rank c.loop-v.old v c.loop-v.m) (omega arith) (c.loop-v.invariant.done (omega arith) f h)
