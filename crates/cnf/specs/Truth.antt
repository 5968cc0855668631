-- Literals, clauses and what an assignment makes of them. Assumes nothing.
-- A literal is a code: 2v is the variable v, and 2v + 1 its opposite. Variable 0 is the constant false, so code 0 is false and code 1 is true.
-- An assignment is a function from variables to bits that gives variable 0 false.
use Rattle.std.specs.Prelude.{◌≡◌, ℕ, ◌+◌, ◌-◌, ◌*◌, ◌/◌, ◌%◌, Bool, true, false, cond, not, ◌&&◌, List, ◌∷◌, ◌==◌, nat_le, slice_index_or}
use Rattle.std.specs.List.{list_any, list_all}

-- the opposite literal
abbrev pub opp : ℕ → ℕ
opp c = c + 1 - 2 * (c % 2)

-- the assignment that a list of bits gives to the variables from 1 on; beyond the list a variable is false, and so is the constant
abbrev pub told : List Bool → ℕ → Bool
told bits v = slice_index_or (false ∷ bits) v false

-- whether a literal is true
abbrev pub lit : (ℕ → Bool) → ℕ → Bool
lit a c = cond (c % 2 == 0) (a (c / 2)) (not (a (c / 2)))

-- whether some literal of a clause is true
abbrev pub clause : (ℕ → Bool) → List ℕ → Bool
clause a cs = list_any (lit a) cs

-- whether every clause of a set is true
abbrev pub clauses : (ℕ → Bool) → List (List ℕ) → Bool
clauses a cs = list_all (clause a) cs

-- an assignment that satisfies a set of clauses
pub record Model (cs : List (List ℕ)) (a : ℕ → Bool) : Type 0 where
  pub constant : a 0 ≡ false
  pub holds : clauses a cs ≡ true

-- the literal is true in every model
abbrev pub Backbone : List (List ℕ) → ℕ → Type 0
Backbone cs c = (a : ℕ → Bool) → Model cs a → lit a c ≡ true

-- every model agrees on the two literals
abbrev pub Equal : List (List ℕ) → ℕ → ℕ → Type 0
Equal cs c d = (a : ℕ → Bool) → Model cs a → lit a c ≡ lit a d

-- whether a code is of a variable from 1 to m
abbrev pub named : ℕ → ℕ → Bool
named m c = nat_le 2 c && nat_le c (2 * m + 1)

-- whether each code is of a variable from 1 to m
abbrev pub inside : ℕ → List ℕ → Bool
inside m cs = list_all (named m) cs
