-- The two numbers of a header line, as an iterator gives their words. Assumes nothing.
use Rattle.std.proofs.Common.{◌≡◌, ℕ, Bool, true, false, List, [], ◌∷◌, Some, None, Option, refl, ap, ◌∙◌, subst, Bor}
use Rattle.std.specs.Iterator.{AlwaysYields}
use Rattle.std.specs.Option.{is_some}
use Rattle.dimacs.specs.Numbers.{cut, filled, numeral}
use Rattle.dimacs.specs.Text.{both, pair}
use Rattle.dimacs.proofs.Splitting.{Words, words_cut, went, ended}

both_none : (o : Option ℕ) → both o None ≡ None
both_none None = refl
both_none (Some n) = refl

pair_bad : (n : List ℕ) (ls : List (List ℕ)) → numeral n ≡ None → pair (n ∷ ls) ≡ None
pair_bad n [] e = refl
pair_bad n (m ∷ []) e = ap (λ o. both o (numeral m)) e
pair_bad n (m ∷ l ∷ ls) e = refl

pair_bad_second : (n m : List ℕ) (ls : List (List ℕ)) → numeral m ≡ None → pair (n ∷ m ∷ ls) ≡ None
pair_bad_second n m [] e = ap (both (numeral n)) e ∙ both_none (numeral n)
pair_bad_second n m (l ∷ ls) e = refl

module _ {S : Type 0} {steps : S → Option (Bor (List ℕ)) → S → Type 0} {s : S} (q : ℕ → Bool) (text : List ℕ) where
  left : Words steps s q text → AlwaysYields steps (λ y. y.now) s (filled (cut q text))
  left w = subst (AlwaysYields steps (λ y. y.now) s) (words_cut q text) w.road.runs

  pub no_word : (t : S) → steps s None t → Words steps s q text → pair (filled (cut q text)) ≡ None
  no_word t p w = ap pair (ended steps (λ y. y.now) _ s t (left w) p)

  module _ (t : S) (n : Bor (List ℕ)) (p : steps s (Some n) t) where
    first : Words steps s q text → (ws : List (List ℕ)) × (filled (cut q text) ≡ n.now ∷ ws) × AlwaysYields steps (λ y. y.now) t ws
    first w = went steps (λ y. y.now) _ s t n (left w) p

    pub bad_first : numeral n.now ≡ None → Words steps s q text → pair (filled (cut q text)) ≡ None
    bad_first e w = let f = first w in ap pair f.1 ∙ pair_bad n.now f.0 e

    pub one_word : (u : S) → steps t None u → Words steps s q text → pair (filled (cut q text)) ≡ None
    one_word u k w = let f = first w in ap pair (f.1 ∙ ap (λ ws. n.now ∷ ws) (ended steps (λ y. y.now) f.0 t u f.2 k))

    module _ (u : S) (m : Bor (List ℕ)) (r : steps t (Some m) u) where
      second : Words steps s q text → (ws : List (List ℕ)) × (filled (cut q text) ≡ n.now ∷ m.now ∷ ws) × AlwaysYields steps (λ y. y.now) u ws
      second w =
          let f = first w in
          let g = went steps (λ y. y.now) f.0 t u m f.2 r in
          (g.0, f.1 ∙ ap (λ ws. n.now ∷ ws) g.1, g.2)

      pub bad_second : numeral m.now ≡ None → Words steps s q text → pair (filled (cut q text)) ≡ None
      bad_second e w = let f = second w in ap pair f.1 ∙ pair_bad_second n.now m.now f.0 e

      pub three_words : (v : S) (o : Option (Bor (List ℕ))) → steps u o v → is_some o ≡ true → Words steps s q text → pair (filled (cut q text)) ≡ None
      three_words v None k e w = cc
      three_words v (Some o) k e w =
          let f = second w in
          ap pair (f.1 ∙ ap (λ ws. n.now ∷ m.now ∷ ws) (went steps (λ y. y.now) f.0 u v o f.2 k).1)

      pub two_words : (v : S) (o : Option (Bor (List ℕ))) → steps u o v → is_some o ≡ false → (a b : ℕ) → numeral n.now ≡ Some a → numeral m.now ≡ Some b
          → Words steps s q text → pair (filled (cut q text)) ≡ Some (record { nets = a; clauses = b })
      two_words v (Some o) k z a b d e w = cc
      two_words v None k z a b d e w =
          let f = second w in
          ap pair (f.1 ∙ ap (λ ws. n.now ∷ m.now ∷ ws) (ended steps (λ y. y.now) f.0 u v f.2 k)) ∙ ap (λ c. both c (numeral m.now)) d ∙ ap (both (Some a)) e
