-- The two ways on from a place, and what all of them say together. Assumes nothing.
use Rattle.std.proofs.Common.{◌≡◌, ℕ, ◌+◌, ◌<◌, Bool, true, false, not, ◌⊎◌, List, [], ◌∷◌, ◌++◌, length, get_or, take, set, sym, refl, ap, ◌∙◌, subst, inl, inr, ⊎_elim, None, Option, arith}
use Rattle.std.proofs.lemmas.List.{take_more, take_more_set, take-take, take-set, length-set}
use Rattle.std.proofs.lemmas.Bool.{and_from, both_ways}
use Rattle.cnf.specs.Truth.{told, inside}
use Rattle.cnf.specs.Words.{read, well}
use Rattle.cnf.proofs.Counting.{row, row_length, row_told, clauses_same}
use Rattle.cnf.proofs.Reading.{read_means}
use Rattle.solver.specs.Search.{NoneFound, Answered}
use Rattle.solver.proofs.Assuming.{every_same}
use Rattle.counting.specs.Tries.{fits, Tried}

-- a row that agrees with the bits before a place, and has b there
agrees_more : (a bits : List Bool) (i : ℕ) (b : Bool) → i < length a → i < length bits → take i a ≡ take i bits → get_or a i false ≡ b → take (i + 1) a ≡ take (i + 1) (set bits i b)
agrees_more a bits i b h k e f =
    take_more a i false h ∙ ap (λ x. take i a ++ x ∷ []) f ∙ ap (λ x. x ++ b ∷ []) e ∙ sym (take_more_set bits i b k)

pub front_less : (xs ys : List Bool) (i : ℕ) (b : Bool) → take (i + 1) xs ≡ take (i + 1) (set ys i b) → take i xs ≡ take i ys
front_less xs ys i b e =
    sym (take-take i (i + 1) xs (omega arith)) ∙ ap (take i) e ∙ take-take i (i + 1) (set ys i b) (omega arith) ∙ take-set ys i b

either : (b x : Bool) → (b ≡ x) ⊎ (b ≡ not x)
either true true = inl refl
either true false = inr refl
either false true = inr refl
either false false = inl refl

module _ (p : List Bool → Bool) (i : ℕ) (bits : List Bool) where
  -- neither bit at the place leads to a row with p, or the second does
  pub tried_both : (mid last : List Bool) (x y r : Bool) → i < length bits → length mid ≡ length bits → take i mid ≡ take i bits → Tried p (i + 1) (set bits i x) mid false
      → Tried p (i + 1) (set mid i y) last r → y ≡ not x → Tried p i bits last r
  tried_both mid last x y true h l f d k o = k
  tried_both mid last x y false h l f d k o = λ a n t.
      ⊎_elim (λ (e : get_or a i false ≡ x). d a (n ∙ sym (length-set bits i x)) (agrees_more a bits i x (omega arith) h t e))
      (λ (e : get_or a i false ≡ not x). k a (n ∙ sym (length-set mid i y ∙ l)) (agrees_more a mid i y (omega arith) (omega arith) (t ∙ sym f) (e ∙ sym o)))
      (either (get_or a i false) x)

-- where no row of m bits will do, no assignment will
none : (m : ℕ) (ws assumed : List ℕ) → well m ws ≡ true → inside m assumed ≡ true → ((a : List Bool) → length a ≡ m → fits ws assumed a ≡ false) → NoneFound ws assumed
none m ws assumed w i f a s e =
    let bits = row m a in
    let r = row_told m a s.constant in
    both_ways (fits ws assumed bits) (f bits (row_length m a))
    (and_from _ _ (clauses_same m (told bits) a r (read ws) (read_means m ws w).1 ∙ s.holds) (every_same m (told bits) a r assumed i ∙ e))

-- from the first place on these are all rows
pub answered_no : (m : ℕ) (ws assumed : List ℕ) (bits last : List Bool) (kept : Option (List Bool)) → well m ws ≡ true → inside m assumed ≡ true → length bits ≡ m
    → Tried (fits ws assumed) 0 bits last false → kept ≡ None → Answered m ws assumed false kept
answered_no m ws assumed bits last kept w i l h e = subst (Answered m ws assumed false) (sym e) (none m ws assumed w i (λ a n. h a (n ∙ sym l) refl))
