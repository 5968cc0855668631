use Rattle.std.proofs.Common.{false, ◌∙◌, arith}
use Rattle.std.proofs.lemmas.List.{length-set}
use Rattle.counting.specs.Tries.{fits}
use Rattle.counting.proofs.Tries.{front_less, tried_both}
use Rattle.counting.proofs.find.+find_from.Goals as goal

pub returns-then-find_from-clause-front : goal.returns-then-find_from-clause-front
returns-then-find_from-clause-front t c = front_less c.find_from.new.bits c.args.bits.now c.args.place false c.if-find_from.ensures.front

pub returns-clause-front : goal.returns-clause-front
returns-clause-front t c =
    let mid = c.find_from.new.bits in
    front_less c.find_from-2.new.bits mid c.args.place _ c.find_from-2.ensures.front ∙ front_less mid c.args.bits.now c.args.place false c.if-find_from.ensures.front

pub returns-clause-tried : goal.returns-clause-tried
returns-clause-tried t c =
    let bits = c.args.bits.now in
    let mid = c.find_from.new.bits in
    let i = c.args.place in
    let h = c.if-find_from.ensures in
    tried_both (fits c.args.list.now c.args.assumed.now) i bits mid c.find_from-2.new.bits _ _ c.find_from-2.result (omega arith)
    (c.find_from.auto.bits ∙ length-set bits i false) (front_less mid bits i false h.front) h.tried c.find_from-2.ensures.tried (cc)
