-- Pieces between separators, one byte at a time. Assumes nothing.
use Rattle.std.proofs.Common.{◌≡◌, ℕ, Bool, true, false, cond, List, [], ◌∷◌, ◌++◌, sym, refl, ap, append_assoc}
use Rattle.dimacs.specs.Numbers.{glue, cut}

pub glue-glue : (t u : List ℕ) (ps : List (List ℕ)) → glue t (glue u ps) ≡ glue (t ++ u) ps
glue-glue t u [] = refl
glue-glue t u (p ∷ ps) = ap (λ l. l ∷ ps) (sym (append_assoc t u p))

pub glue-none : (p : ℕ → Bool) (bs : List ℕ) → glue [] (cut p bs) ≡ cut p bs
glue-none p [] = refl
glue-none p (b ∷ bs) =
    elim (p b) as (λ x. glue [] (cond x ([] ∷ cut p bs) (glue (b ∷ []) (cut p bs))) ≡ cond x ([] ∷ cut p bs) (glue (b ∷ []) (cut p bs)))
    [ true ↦ refl | false ↦ glue-glue [] (b ∷ []) (cut p bs) ]

module _ (p : ℕ → Bool) (b : ℕ) (bs : List ℕ) where
  pub cut_at : p b ≡ true → cut p (b ∷ bs) ≡ [] ∷ cut p bs
  cut_at e = ap (λ x. cond x ([] ∷ cut p bs) (glue (b ∷ []) (cut p bs))) e

  pub cut_in : p b ≡ false → cut p (b ∷ bs) ≡ glue (b ∷ []) (cut p bs)
  cut_in e = ap (λ x. cond x ([] ∷ cut p bs) (glue (b ∷ []) (cut p bs))) e
