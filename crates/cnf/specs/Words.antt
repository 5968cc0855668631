-- A clause list in words: for each clause the count of its literals, then their codes. Assumes nothing.
use Rattle.std.specs.Prelude.{ℕ, zero, suc, Bool, true, false, ◌&&◌, List, [], ◌∷◌, ◌++◌, length, take, nat_le}
use Rattle.std.specs.List.{list_all}
use Rattle.cnf.specs.Truth.{inside}

-- the words of a list of clauses
abbrev pub encode : List (List ℕ) → List ℕ
encode [] = []
encode (c ∷ cs) = length c ∷ (c ++ encode cs)

-- a clause that may stand in a list for m variables
abbrev pub good : ℕ → List ℕ → Bool
good m c = nat_le (length c) 64 && inside m c

abbrev pub goods : ℕ → List (List ℕ) → Bool
goods m cs = list_all (good m) cs

-- the clauses of a word list, once k words of it are skipped
unfoldable pub read_from : ℕ → List ℕ → List (List ℕ)
read_from k [] = []
read_from zero (n ∷ ws) = take n ws ∷ read_from n ws
read_from (suc k) (w ∷ ws) = read_from k ws

-- the clauses of a word list; a last clause whose count goes beyond the words has those that are there
abbrev pub read : List ℕ → List (List ℕ)
read ws = read_from 0 ws

-- whether a word list is well formed for m variables, once k words of it are skipped, which must be there
unfoldable pub well_from : ℕ → ℕ → List ℕ → Bool
well_from m zero [] = true
well_from m (suc k) [] = false
well_from m zero (n ∷ ws) = (nat_le n 64 && inside m (take n ws)) && well_from m n ws
well_from m (suc k) (w ∷ ws) = well_from m k ws

-- whether a word list is well formed for m variables: each count at most 64, each code from 2 to 2m + 1, nothing left over
abbrev pub well : ℕ → List ℕ → Bool
well m ws = well_from m 0 ws
