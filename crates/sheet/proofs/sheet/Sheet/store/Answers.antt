use Rattle.std.proofs.Common.{refl, arith}
use Rattle.std.specs.Vec.{with_items}
use Rattle.sheet.proofs.Keeping.{ghosts}
use Rattle.sheet.proofs.Joining.{some_left, too_long, short_enough, landed}
use Rattle.sheet.proofs.sheet.Sheet.store.Goals as goal

pub returns-then-used-self : goal.returns-then-used-self
returns-then-used-self c = (too_long c.args.self.now c.args.body.now (some_left _ c.if-is_empty.ensures) _ c.len.ensures c.if-used-self.true, refl)

pub invariant_of-self : goal.invariant_of-self
invariant_of-self c =
    let s = c.args.self.now in
    ghosts s.table c.append.new.words s.space (with_items s.waiting c.join.new.marks) _ _ _ _
    (landed s c.args.body.now _ _ _ c.requires (some_left _ c.if-is_empty.ensures) _ c.len.ensures c.if-used-self.false c.append.ensures.words c.deref_mut.ensures.value c.join.auto.marks c.join.ensures).holds s.limit
    (omega (arith, s.reserved, c.append.ensures.space)) s.next_size s.news_size s.bits_size s.scratch_size

pub returns : goal.returns
returns c =
    let s = c.args.self.now in
    let some = some_left _ c.if-is_empty.ensures in (
      short_enough s c.args.body.now some _ c.len.ensures c.if-used-self.false,
      (landed s c.args.body.now _ _ _ c.requires some _ c.len.ensures c.if-used-self.false c.append.ensures.words c.deref_mut.ensures.value c.join.auto.marks c.join.ensures).is,
      refl,
    )
