-- The tables of a renumbering while they are made. Assumes nothing.
use Rattle.std.specs.Prelude.{◌≡◌, ℕ, ◌<◌, ◌≤◌, Bool, true, cond, ◌||◌, List, length, take, slice_index, slice_index_or}
use Rattle.cnf.specs.Words.{read, encode}
use Rattle.cnf.specs.Table.{by}
use Rattle.classes.specs.Renumber.{renamed, below, occurring, Renumbers}

-- entry v says whether f v
pub record Marks (f : ℕ → Bool) (t : List ℕ) : Type 0 where
  pub each : (v : ℕ) → v < length t → slice_index t v ≡ cond (f v) 1 0

-- the marks, and what is added to them
abbrev pub or : (ℕ → Bool) → (ℕ → Bool) → ℕ → Bool
or f g v = f v || g v

-- the variables below v with f are numbered from 1 to m in rising order, and those from v on are marked
pub record Numbered (f : ℕ → Bool) (rank old : List ℕ) (v m : ℕ) : Type 0 where
  pub rank_zero : slice_index_or rank 0 0 ≡ 0
  pub old_zero : slice_index_or old 0 0 ≡ 0
  pub few : m < v
  pub count : m ≡ below f v
  pub small : (w : ℕ) → w < v → slice_index rank w ≤ m
  pub later : (w : ℕ) → v ≤ w → w < length rank → slice_index rank w ≡ cond (f w) 1 0
  pub to : (w : ℕ) → w < v → f w ≡ true → (slice_index rank w ≤ m) × (slice_index old (slice_index rank w) ≡ w)
  pub from : (k : ℕ) → 1 ≤ k → k ≤ m → (slice_index rank (slice_index old k) ≡ k) × (slice_index old k < v) × (f (slice_index old k) ≡ true)
  pub rising : (j k : ℕ) → j < k → k ≤ m → slice_index old j < slice_index old k

-- what renumbering leaves
pub record Renumbered (list work rank old : List ℕ) (n m : ℕ) : Type 0 where
  pub tables : Renumbers (read list) n m (by rank) (by old)
  pub count : m ≡ occurring n (read list)
  pub words : take (length list) work ≡ encode (renamed (by rank) (read list))
