-- What the recursion promises, by whatever means it finds its answer; s and t are the state before and after it. Assumes nothing.
use Rattle.std.specs.Prelude.{◌≡◌, ℕ, Bool, true, false, List, ◌≢◌}
use Rattle.cnf.specs.Truth.{told, lit, clauses}
use Rattle.cnf.specs.Words.{read}
use Rattle.search.specs.declared.state.State.{State}
use Rattle.search.specs.Cells.{Extends, open_count, bits}
use Rattle.search.specs.States.{Same, Dead, cells_of}

-- the cells are a model that extends those at entry
pub record Filled (ws : List ℕ) (s t : State) : Type 0 where
  pub every_set : open_count (cells_of t) ≡ 0
  pub as_before : Extends (cells_of s) (told (bits (cells_of t)))
  pub holds : clauses (told (bits (cells_of t))) (read ws) ≡ true

-- no model extends the cells at entry, and they are as they were
pub record Failed (ws : List ℕ) (s t : State) : Type 0 where
  pub same : Same s t
  pub none : Dead ws s

abbrev pub Solved : List ℕ → State → State → Bool → Type 0
Solved ws s t true = Filled ws s t
Solved ws s t false = Failed ws s t

-- no model that extends the cells at entry makes the literal w true, and they are as they were
pub record NotWith (w : ℕ) (ws : List ℕ) (s t : State) : Type 0 where
  pub same : Same s t
  pub none : (a : ℕ → Bool) → Extends (cells_of s) a → lit a w ≡ true → clauses a (read ws) ≢ true

-- what trying a literal promises
abbrev pub Tried : ℕ → List ℕ → State → State → Bool → Type 0
Tried w ws s t true = Filled ws s t
Tried w ws s t false = NotWith w ws s t
