use Rattle.std.proofs.Common.{◌≡◌, ℕ, Bool, false, ◌||◌, List, length, get_or, sym, refl, ap, ◌∙◌, subst}
use Rattle.std.specs.Vec.{with_items}
use Rattle.std.proofs.lemmas.List.{with_items_is}
use Rattle.cnf.specs.Words.{read}
use Rattle.cnf.proofs.Reading.{read_means}
use Rattle.classes.specs.Renumber.{occurs}
use Rattle.sheet.specs.declared.sheet.Sheet.{Sheet}
use Rattle.sheet.specs.State.{broken}
use Rattle.sheet.specs.Of.{state_of}
use Rattle.sheet.specs.Calls.{woken}
use Rattle.sheet.proofs.Keeping.{Lands, sheet_kept, ghosts, lands}
use Rattle.sheet.proofs.Sounding.{sound_woken}
use Rattle.sheet.proofs.sheet.Sheet.wake.Goals as goal

landed : (s : Sheet) (before after : List Bool) (list : List ℕ) → before ≡ s.waiting.items → list ≡ s.words.items → false ≡ broken (state_of s).store
    → length after ≡ length before → ((v : ℕ) → get_or after v false ≡ (get_or before v false || occurs (read list) v))
    → Lands s.table.items s.words.items s.space (with_items s.waiting after).items (woken (state_of s))
landed s before after list p q b l h =
    let k = sheet_kept s in
    let n : length after ≡ s.waiting.len = l ∙ ap length p ∙ sym s.waiting.ok.0 in
    subst (λ m. Lands s.table.items s.words.items s.space m (woken (state_of s))) (sym (with_items_is s.waiting after n))
    (lands s.table.items s.words.items s.space after (woken (state_of s)) (sound_woken (state_of s) k.sound (sym b)) refl refl refl (sym (read_means _ _ k.formed).0)
    (λ v. h v ∙ ap (λ xs. get_or xs v false || occurs (read list) v) p ∙ ap (λ xs. get_or s.waiting.items v false || occurs (read xs) v) q)
    (l ∙ ap length p ∙ k.marked))

pub invariant_of-self : goal.invariant_of-self
invariant_of-self c =
    let s = c.args.self.now in
    ghosts s.table s.words s.space (with_items s.waiting c.join_all.new.marks) _ _ _ _
    (landed s _ _ _ c.deref_mut.ensures.value c.deref.ensures.value c.if-is_contradictory.ensures c.join_all.auto.marks c.join_all.ensures).holds
    s.limit s.reserved s.next_size s.news_size s.bits_size s.scratch_size
