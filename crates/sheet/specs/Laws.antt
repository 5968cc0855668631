-- What a sheet stands for. Assumes nothing.
use Rattle.std.specs.Prelude.{◌≡◌, ℕ, ◌/◌, ◌≤◌, Bool, ◌↔◌, List, [], ◌∷◌, ◌++◌, Ok, Err, Result}
use Rattle.faults.specs.declared.SheetFault.{SheetFault}
use Rattle.cnf.specs.Truth.{Model, Equal}
use Rattle.cnf.specs.Table.{rep}
use Rattle.classes.specs.Renumber.{Stands}
use Rattle.classes.specs.Classes.{Satisfied}
use Rattle.sheet.specs.declared.outcome.Outcome.{Outcome}
use Rattle.sheet.specs.declared.outcome.Outcome.TheVariants.{Contradiction, Settled}
use Rattle.sheet.specs.State.{State}

-- an assignment satisfies every accepted clause exactly if it satisfies all stored clauses and gives each net its representative's value
abbrev pub Fits : List (List ℕ) → State → Type 0
Fits accepted s = (a : ℕ → Bool) → Model accepted a ↔ Stands s.store s.table a

-- two literals have one representative exactly if all assignments that satisfy every accepted clause agree on them
abbrev pub Complete : List (List ℕ) → State → Type 0
Complete accepted s = (c d : ℕ) → c / 2 ≤ s.nets → d / 2 ≤ s.nets → (rep s.table c ≡ rep s.table d) ↔ Equal accepted c d

-- an accepted clause is one more
abbrev pub Adds : List ℕ → State → State → Result Unit SheetFault → Type 0
Adds c s u (Ok x) = (accepted : List (List ℕ)) → Fits accepted s → Fits (accepted ++ c ∷ []) u
Adds c s u (Err e) = (accepted : List (List ℕ)) → Fits accepted s → Fits accepted u

-- a full sweep keeps what the sheet stands for. It answers contradiction exactly if no assignment satisfies every accepted clause; otherwise two literals then have one
-- representative exactly if all such assignments agree on them
abbrev pub Sweeps : State → State → Result Outcome SheetFault → Type 0
Sweeps s u (Ok Contradiction) = (accepted : List (List ℕ)) → Fits accepted s → Fits accepted u × ((a : ℕ → Bool) → Model accepted a → ⊥)
Sweeps s u (Ok (Settled p)) = (accepted : List (List ℕ)) → Fits accepted s → Fits accepted u × Satisfied accepted × Complete accepted u
Sweeps s u (Err e) = (accepted : List (List ℕ)) → Fits accepted s → Fits accepted u
