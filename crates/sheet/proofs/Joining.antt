-- A clause that joins a sheet. Assumes nothing.
use Rattle.std.proofs.Common.{◌≡◌, ℕ, ◌+◌, ◌<◌, ◌≤◌, Bool, false, ◌||◌, eqb, List, [], ◌∷◌, ◌++◌, length, get_or, Some, None, sym, refl, ap, ◌∙◌, subst, arith}
use Rattle.std.specs.Vec.{with_items}
use Rattle.std.proofs.lemmas.List.{with_items_is}
use Rattle.std.proofs.lemmas.Bool.{lt-leb, le-leb, eqb-false}
use Rattle.faults.specs.declared.SheetFault.TheVariants.{StoreFull}
use Rattle.cnf.proofs.Reading.{read_means}
use Rattle.classes.specs.Renumber.{mentions}
use Rattle.sheet.specs.declared.sheet.Sheet.{Sheet}
use Rattle.sheet.specs.State.{State}
use Rattle.sheet.specs.Of.{state_of}
use Rattle.sheet.specs.Calls.{used, joined, Storable, storing_refusal}
use Rattle.sheet.proofs.Keeping.{Lands, sheet_kept, lands, used-words}
use Rattle.sheet.proofs.Sounding.{encode_push, used_push, sound_joined}

-- a row that is not empty
pub some_left : (body : List ℕ) → false ≡ eqb (length body) 0 → 0 < length body
some_left body e = let n = eqb-false (length body) 0 (sym e) in omega arith

-- the used words afterwards
joined-used : (s : State) (body : List ℕ) → 0 < length body → used (joined s (Some body)) ≡ used s + 1 + length body
joined-used s [] h = absurd (omega arith)
joined-used s (c ∷ d) h = used_push s.store (c ∷ d)

pub used_is : (s : Sheet) → used (state_of s) ≡ s.words.len
used_is s = used-words _ _ (sheet_kept s).formed ∙ sym s.words.ok.0

module _ (s : Sheet) (body : List ℕ) (h : 0 < length body) (n : ℕ) (e : n ≡ s.words.len) where
  after : used (joined (state_of s) (Some body)) ≡ n + 1 + length body
  after = joined-used (state_of s) body h ∙ ap (λ k. k + 1 + length body) (used_is s ∙ sym e)

  pub too_long : s.space < n + 1 + length body → storing_refusal (state_of s) body ≡ Some StoreFull
  too_long l = let b = lt-leb (used (joined (state_of s) (Some body))) s.space (omega (arith, after)) in cc

  pub short_enough : n + 1 + length body ≤ s.space → storing_refusal (state_of s) body ≡ None
  short_enough l = let b = le-leb (used (joined (state_of s) (Some body))) s.space (omega (arith, after)) in cc

-- the clause stands behind the other words, and its variables are marked
pub landed : (s : Sheet) (body words : List ℕ) (before marks : List Bool) → Storable (state_of s) body → 0 < length body → (n : ℕ) → n ≡ s.words.len
    → n + 1 + length body ≤ s.space → words ≡ s.words.items ++ length body ∷ body → before ≡ s.waiting.items → length marks ≡ length before
    → ((v : ℕ) → get_or marks v false ≡ (get_or before v false || mentions body v))
    → Lands s.table.items words s.space (with_items s.waiting marks).items (joined (state_of s) (Some body))
landed s [] words before marks st h n e l p q lm mk = absurd (omega arith)
landed s (c ∷ d) words before marks st h n e l p q lm mk =
    let k = sheet_kept s in
    let body : List ℕ = c ∷ d in
    let nm : length marks ≡ s.waiting.len = lm ∙ ap length q ∙ sym s.waiting.ok.0 in
    let room : used (joined (state_of s) (Some body)) ≤ s.space = omega (arith, after s body h n e) in
    subst (λ m. Lands s.table.items words s.space m (joined (state_of s) (Some body))) (sym (with_items_is s.waiting marks nm))
    (lands s.table.items words s.space marks (joined (state_of s) (Some body)) (sound_joined (state_of s) c d k.sound st room) refl refl refl
    (p ∙ ap (λ xs. xs ++ length body ∷ body) (sym (read_means _ _ k.formed).0) ∙ sym (encode_push (state_of s).store body))
    (λ v. mk v ∙ ap (λ xs. get_or xs v false || mentions body v) q)
    (lm ∙ ap length q ∙ k.marked))
