use Rattle.std.proofs.Common.{[], ◌∷◌, ◌++◌, ap, ◌∙◌, arith}
use Rattle.sheet.proofs.Keeping.{ghosts, lands_contradicted}
use Rattle.sheet.proofs.sheet.Sheet.contradict.Goals as goal

pub invariant_of-self : goal.invariant_of-self
invariant_of-self c =
    let s = c.args.self.now in
    ghosts s.table c.push_reserved.new.self s.space c.fill.new.self _ _ _ _
    (lands_contradicted s _ _ (c.push_reserved.ensures.items ∙ ap (λ xs. xs ++ 0 ∷ []) c.clear.ensures.items) c.requires (c.fill.ensures.items (λ _ e. e))).holds s.limit
    (omega (arith, s.reserved, c.push_reserved.ensures.capacity, c.clear.ensures.capacity)) s.next_size s.news_size s.bits_size s.scratch_size

pub returns : goal.returns
returns c = (lands_contradicted c.args.self.now _ _ (c.push_reserved.ensures.items ∙ ap (λ xs. xs ++ 0 ∷ []) c.clear.ensures.items) c.requires (c.fill.ensures.items (λ _ e. e))).is
