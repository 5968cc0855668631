-- A clause list with its variables renumbered, and a sheet under a new table. Assumes nothing.
use Rattle.std.specs.Prelude.{◌≡◌, ℕ, zero, suc, ◌+◌, ◌*◌, ◌/◌, ◌<◌, ◌≤◌, Bool, true, cond, ◌↔◌, List, map, length, ◌==◌, slice_index}
use Rattle.std.specs.List.{list_any}
use Rattle.cnf.specs.Truth.{lit, Model}
use Rattle.cnf.specs.Words.{goods}
use Rattle.cnf.specs.Table.{turn, rep, by, applieds}
use Rattle.cnf.specs.Finite.{lowest}

-- whether a clause has a literal of the variable
abbrev pub mentions : List ℕ → ℕ → Bool
mentions cs v = list_any (λ c. c / 2 == v) cs

-- whether some clause has a literal of the variable
abbrev pub occurs : List (List ℕ) → ℕ → Bool
occurs cs v = list_any (λ c. mentions c v) cs

-- how many numbers below v have f
abbrev pub below : (ℕ → Bool) → ℕ → ℕ
below f zero = 0
below f (suc v) = below f v + cond (f v) 1 0

-- how many of n variables occur
abbrev pub occurring : ℕ → List (List ℕ) → ℕ
occurring n cs = below (occurs cs) (n + 1)

-- the literal of another variable with the same sign
abbrev pub moved : (ℕ → ℕ) → ℕ → ℕ
moved f c = turn (2 * f (c / 2)) c

-- the clauses with each variable replaced by another
abbrev pub renamed : (ℕ → ℕ) → List (List ℕ) → List (List ℕ)
renamed f cs = map (map (moved f)) cs

-- `rank` numbers the occurring variables from 1 to m in rising order, and `old` goes back
pub record Renumbers (cs : List (List ℕ)) (n m : ℕ) (rank old : ℕ → ℕ) : Type 0 where
  pub few : m ≤ n
  pub rank_zero : rank 0 ≡ 0
  pub old_zero : old 0 ≡ 0
  pub to : (v : ℕ) → occurs cs v ≡ true → (rank v ≤ m) × (old (rank v) ≡ v)
  pub from : (k : ℕ) → 1 ≤ k → k ≤ m → (rank (old k) ≡ k) × (old k ≤ n) × (occurs cs (old k) ≡ true)
  pub rising : (j k : ℕ) → j < k → k ≤ m → old j < old k

-- the lowest equal literal of the renumbered list is that of the list, renumbered
abbrev pub RenumberingKeeps : Type 0
RenumberingKeeps =
    (cs : List (List ℕ)) (n m : ℕ) (rank old : ℕ → ℕ) → Renumbers cs n m rank old → goods n cs ≡ true → goods m (renamed rank cs) ≡ true
    → (g : ℕ → Bool) → Model cs g → (w : ℕ) → 1 ≤ w → w ≤ m → lowest n cs (old w) ≡ moved old (lowest m (renamed rank cs) w)

-- the assignments that a sheet stands for: they satisfy the stored clauses and give each net its representative's value
pub record Stands (cs : List (List ℕ)) (t : List ℕ) (a : ℕ → Bool) : Type 0 where
  pub model : Model cs a
  pub follows : (v : ℕ) → v < length t → a v ≡ lit a (slice_index t v)

-- u is a later table than t: what t ties, u ties
pub record Later (t u : List ℕ) : Type 0 where
  pub size : length u ≡ length t
  pub inner : (v : ℕ) → v < length t → slice_index t v / 2 < length t
  pub each : (v : ℕ) → v < length t → slice_index u v ≡ rep u (slice_index t v)

-- a new table that every assignment of the sheet follows, applied to the store, leaves the assignments as they were
abbrev pub SheetKeeps : Type 0
SheetKeeps =
    (n : ℕ) (cs : List (List ℕ)) (t u : List ℕ) → length t ≡ n + 1 → goods n cs ≡ true → Later t u
    → ((a : ℕ → Bool) → Stands cs t a → (v : ℕ) → v < length t → a v ≡ lit a (slice_index u v))
    → (a : ℕ → Bool) → Stands cs t a ↔ Stands (applieds (by u) cs) u a
