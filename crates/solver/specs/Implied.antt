-- One literal that follows from another over a list. Assumes nothing.
use Rattle.std.specs.Prelude.{◌≡◌, ℕ, Bool, true, false, List, [], ◌∷◌, Ok, Err, Decides, Result}
use Rattle.faults.specs.declared.SolverFault.{SolverFault}
use Rattle.faults.specs.declared.SolverFault.TheVariants.{BadSearch}
use Rattle.cnf.specs.Truth.{lit, Model}
use Rattle.cnf.specs.Words.{read}
use Rattle.solver.specs.Search.{accepts}

-- every model that makes c true makes d true
abbrev pub Implies : List (List ℕ) → ℕ → ℕ → Type 0
Implies cs c d = (a : ℕ → Bool) → Model cs a → lit a c ≡ true → lit a d ≡ true

-- what the test of it says
abbrev pub Implied : ℕ → ℕ → List ℕ → ℕ → ℕ → Result Bool SolverFault → Type 0
Implied most m ws c d (Ok b) = (accepts most m ws (c ∷ d ∷ []) ≡ true) × Decides b (Implies (read ws) c d)
Implied most m ws c d (Err e) = (accepts most m ws (c ∷ d ∷ []) ≡ false) × (e ≡ BadSearch)
