use Rattle.std.proofs.Common.{⊎_elim, inl, inr, arith}
use Rattle.sheet.proofs.Counting.{counting_fixed, counting_tied, counting_free, counting_other, counting_few, counting_done}
use Rattle.sheet.proofs.sweep.count.Goals as goal
use Rattle.sheet.proofs.sweep.count.Goals.{else-was-itself-via-then-was-itself+else-now-itself, else-was-itself-via-else-was-itself}

pub overflow_add-counts : goal.overflow_add-counts
overflow_add-counts c = let s = c.in-Some.ensures.steps in let k = counting_few c.loop-v.invariant s.0.0 s.0.1 s.2 in omega arith

pub overflow_add-counts-else-now-lt2 : goal.overflow_add-counts-else-now-lt2
overflow_add-counts-else-now-lt2 c = let s = c.in-Some.ensures.steps in let k = counting_few c.loop-v.invariant s.0.0 s.0.1 s.2 in omega arith

pub loop-v-preserved-then-now-lt2 : goal.loop-v-preserved-then-now-lt2
loop-v-preserved-then-now-lt2 c =
    let s = c.in-Some.ensures.steps in
    counting_fixed c.loop-v.invariant s.0.0 s.0.1 s.2 (omega arith) (λ z. c.if-now-itself.true (omega arith)) c.if-now-lt2.true

pub loop-v-preserved-else-now-lt2 : goal.loop-v-preserved-else-now-lt2
loop-v-preserved-else-now-lt2 c =
    let s = c.in-Some.ensures.steps in
    counting_tied c.loop-v.invariant s.0.0 s.0.1 s.2 (omega arith) (λ z. c.if-now-itself.true (omega arith)) c.if-now-lt2.false

pub loop-v-preserved : goal.loop-v-preserved
loop-v-preserved c =
    let s = c.in-Some.ensures.steps in
    elim c.else-was-itself.branch [
      | else-was-itself-via-then-was-itself+else-now-itself w ↦ counting_free c.loop-v.invariant s.0.0 s.0.1 s.2 (omega (arith, w.if-was-itself.true)) (omega (arith, w.if-now-itself.false))
      | else-was-itself-via-else-was-itself w ↦ counting_other c.loop-v.invariant s.0.0 s.0.1 s.2 (λ z. w.if-was-itself.false (omega arith))
    ]

pub returns : goal.returns
returns c =
    let r = counting_done c.loop-v.invariant (⊎_elim (λ a. inl a.1.0) (λ a. inr a.1.0) c.in-None.ensures.steps.0) c.requires.same_size in
    record { fixed = r.0; tied = r.1 }
