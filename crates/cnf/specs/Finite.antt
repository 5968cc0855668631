-- The assignments to m variables, one after the other, and tests over them. Assumes nothing.
use Rattle.std.specs.Prelude.{ℕ, zero, suc, ◌+◌, ◌*◌, Bool, true, false, cond, List, [], ◌∷◌, ◌++◌, map, filter}
use Rattle.std.specs.Bool.{beq}
use Rattle.std.specs.List.{list_all}
use Rattle.cnf.specs.Truth.{told, lit, clauses}

-- every list of m bits
abbrev pub rows : ℕ → List (List Bool)
rows zero = [] ∷ []
rows (suc m) = map (λ bs. false ∷ bs) (rows m) ++ map (λ bs. true ∷ bs) (rows m)

-- the assignments to the variables 1 to m that satisfy every clause
abbrev pub models : ℕ → List (List ℕ) → List (List Bool)
models m cs = filter (λ bits. clauses (told bits) cs) (rows m)

-- whether the literal is true in every model
unfoldable pub is_backbone : ℕ → List (List ℕ) → ℕ → Bool
is_backbone m cs c = list_all (λ bits. lit (told bits) c) (models m cs)

-- whether every model agrees on the two literals
unfoldable pub is_equal : ℕ → List (List ℕ) → ℕ → ℕ → Bool
is_equal m cs c d = list_all (λ bits. beq (lit (told bits) c) (lit (told bits) d)) (models m cs)

-- the first of k numbers from c on with p, or the one after them
abbrev pub first : (ℕ → Bool) → ℕ → ℕ → ℕ
first p c zero = c
first p c (suc k) = cond (p c) c (first p (c + 1) k)

-- the lowest literal that equals the variable v over the set: a constant if v or its opposite is a backbone, otherwise of the lowest such variable
abbrev pub lowest : ℕ → List (List ℕ) → ℕ → ℕ
lowest m cs v = first (is_equal m cs (2 * v)) 0 (2 * v)
