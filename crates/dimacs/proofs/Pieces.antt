-- The pieces of a list between the elements that part it. Assumes nothing.
use Rattle.std.proofs.Common.{◌≡◌, ℕ, ◌<◌, Bool, true, false, cond, List, [], ◌∷◌, ◌++◌, length, refl, ap, ◌∙◌, arith}
use Rattle.std.specs.List.{AllByRecursion as All}
use Rattle.dimacs.specs.Numbers.{glue, cut, filled}

-- no element has q
abbrev pub Free : (ℕ → Bool) → List ℕ → Type 0
Free q p = All (λ b. q b ≡ false) p

-- the first piece
pub cut_piece : (q : ℕ → Bool) (p : List ℕ) (s : ℕ) (rest : List ℕ) → Free q p → q s ≡ true → cut q (p ++ s ∷ rest) ≡ p ∷ cut q rest
cut_piece q [] s rest f e = ap (λ x. cond x ([] ∷ cut q rest) (glue (s ∷ []) (cut q rest))) e
cut_piece q (b ∷ p) s rest f e =
    ap (λ x. cond x ([] ∷ cut q (p ++ s ∷ rest)) (glue (b ∷ []) (cut q (p ++ s ∷ rest)))) f.0
    ∙ ap (glue (b ∷ [])) (cut_piece q p s rest f.1 e)

-- the only piece
pub cut_whole : (q : ℕ → Bool) (p : List ℕ) → Free q p → cut q p ≡ p ∷ []
cut_whole q [] f = refl
cut_whole q (b ∷ p) f = ap (λ x. cond x ([] ∷ cut q p) (glue (b ∷ []) (cut q p))) f.0 ∙ ap (glue (b ∷ [])) (cut_whole q p f.1)

pub filled-some : (p : List ℕ) (ps : List (List ℕ)) → 0 < length p → filled (p ∷ ps) ≡ p ∷ filled ps
filled-some [] ps h = absurd (omega arith)
filled-some (b ∷ p) ps h = refl
