-- What trying rows of bits says. Assumes nothing.
use Rattle.std.specs.Prelude.{◌≡◌, ℕ, Bool, true, false, ◌&&◌, List, length, take}
use Rattle.cnf.specs.Truth.{told, clauses}
use Rattle.cnf.specs.Words.{read}
use Rattle.solver.specs.Search.{every}

-- whether bits are a model of the list that makes the assumed literals true
abbrev pub fits : List ℕ → List ℕ → List Bool → Bool
fits ws assumed bits = clauses (told bits) (read ws) && every (told bits) assumed

-- what it says to have tried every row of bits that begins as `bits` does before the place i: `last` is one with p, or there is none
abbrev pub Tried : (List Bool → Bool) → ℕ → List Bool → List Bool → Bool → Type 0
Tried p i bits last true = p last ≡ true
Tried p i bits last false = (a : List Bool) → length a ≡ length bits → take i a ≡ take i bits → p a ≡ false
