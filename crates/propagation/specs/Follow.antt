-- A table whose representatives are replaced. Assumes nothing.
use Rattle.std.specs.Prelude.{◌≡◌, ℕ, ◌-◌, ◌*◌, ◌/◌, ◌<◌, ◌≤◌, true, cond, List, [], ◌∷◌, map, length, ◌==◌, slice_index}
use Rattle.cnf.specs.Words.{goods}
use Rattle.cnf.specs.Table.{turn, rep, Tabled, Own}

-- the table in which each representative is replaced, so that the literals that it represented follow it; f has the literal that replaces a variable
abbrev pub followed : (ℕ → ℕ) → List ℕ → List ℕ
followed f t = map (λ r. turn (f (r / 2)) r) t

-- the literal c becomes true, and every other variable stays
abbrev pub forced : ℕ → ℕ → ℕ
forced c v = cond (v == c / 2) (turn 1 c) (2 * v)

-- every literal of the clauses is its own representative
abbrev pub OwnEach : List ℕ → List (List ℕ) → Type 0
OwnEach t [] = Unit {0}
OwnEach t (c ∷ cs) = Own t c × OwnEach t cs

-- a table, and clauses that are written in its representatives
pub record Reduced (t : List ℕ) (cs : List (List ℕ)) : Type 0 where
  pub some : 0 < length t
  pub tabled : Tabled t
  pub good : goods (length t - 1) cs ≡ true
  pub own : OwnEach t cs

-- f may replace the variables of the table t: never by a higher one, representatives by representatives, and nothing twice
pub record Moves (t : List ℕ) (f : ℕ → ℕ) : Type 0 where
  pub constant : f 0 ≡ 0
  pub low : (v : ℕ) → v < length t → f v / 2 ≤ v
  pub own : (v : ℕ) → v < length t → slice_index t v ≡ 2 * v → rep t (f v) ≡ f v
  pub itself : (v : ℕ) → v < length t → turn (f (f v / 2)) (f v) ≡ f v
