-- The state of a search, and what its steps do. Assumes nothing.
use Rattle.std.specs.Prelude.{◌≡◌, ℕ, ◌<◌, ◌≤◌, Bool, true, false, List, Option, ◌++◌, length, vec_items, ◌≢◌}
use Rattle.cnf.specs.Truth.{told, clauses}
use Rattle.cnf.specs.Words.{read}
use Rattle.solver.specs.Search.{every}
use Rattle.search.specs.declared.state.Pass.{Pass}
use Rattle.search.specs.declared.state.Pass.TheVariants.{Refuted, Moved, Quiet}
use Rattle.search.specs.declared.state.State.{State}
use Rattle.search.specs.Cells.{Extends, open_count, bits, restored}

abbrev pub cells_of : State → List (Option Bool)
cells_of s = vec_items s.cells

abbrev pub trail_of : State → List ℕ
trail_of s = vec_items s.trail

-- t came from s by literals that were made true
pub record Grew (s t : State) : Type 0 where
  pub more : List ℕ
  pub trail : trail_of t ≡ trail_of s ++ more
  pub back : restored (cells_of t) more ≡ cells_of s
  pub finer : (a : ℕ → Bool) → Extends (cells_of t) a → Extends (cells_of s) a
  pub size : length (cells_of t) ≡ length (cells_of s)
  pub fewer : open_count (cells_of t) ≤ open_count (cells_of s)

-- s and t are the same but for where they lie
pub record Same (s t : State) : Type 0 where
  pub cells : cells_of t ≡ cells_of s
  pub trail : trail_of t ≡ trail_of s

-- every model that extends s extends t
abbrev pub Keeps : List ℕ → State → State → Type 0
Keeps ws s t = (a : ℕ → Bool) → Extends (cells_of s) a → clauses a (read ws) ≡ true → Extends (cells_of t) a

-- no model extends s
abbrev pub Dead : List ℕ → State → Type 0
Dead ws s = (a : ℕ → Bool) → Extends (cells_of s) a → clauses a (read ws) ≢ true

-- where no variable is open, the cells are a model
abbrev pub Settled : List ℕ → State → Type 0
Settled ws s = open_count (cells_of s) ≡ 0 → clauses (told (bits (cells_of s))) (read ws) ≡ true

-- what one pass over the list did
abbrev pub Passed : List ℕ → State → State → Pass → Type 0
Passed ws s t Refuted = Dead ws s
Passed ws s t Moved = Keeps ws s t × (open_count (cells_of t) < open_count (cells_of s))
Passed ws s t Quiet = Keeps ws s t × Settled ws t

-- what the passes did until nothing changed
abbrev pub Propagated : List ℕ → State → State → Bool → Type 0
Propagated ws s t true = Keeps ws s t × Settled ws t
Propagated ws s t false = Dead ws s

-- the assumed literals hold in all that extends the cells, and no other assignment has them all; or none has
abbrev pub Assumed : List ℕ → State → State → Bool → Type 0
Assumed ws s t true =
    ((a : ℕ → Bool) → Extends (cells_of s) a → every a ws ≡ true → Extends (cells_of t) a) × ((a : ℕ → Bool) → Extends (cells_of t) a → every a ws ≡ true)
Assumed ws s t false = (a : ℕ → Bool) → Extends (cells_of s) a → every a ws ≢ true
