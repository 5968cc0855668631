-- What the steps of a sweep ask for and leave. Assumes nothing.
use Rattle.std.specs.Prelude.{◌≡◌, ℕ, ◌+◌, ◌*◌, ◌<◌, ◌≤◌, Bool, true, false, List, length, Ok, Err, Result, slice_index}
use Rattle.faults.specs.declared.SheetFault.{SheetFault}
use Rattle.cnf.specs.Truth.{lit}
use Rattle.cnf.specs.Table.{by}
use Rattle.classes.specs.Renumber.{Stands, occurring}
use Rattle.propagation.specs.Follow.{Moves}
use Rattle.sheet.specs.declared.outcome.Outcome.{Outcome}
use Rattle.sheet.specs.State.{State}

-- the entries replace representatives, and every assignment of the sheet agrees
pub record Replaces (s : State) (entries : List ℕ) : Type 0 where
  pub moves : Moves s.table (by entries)
  pub agrees : (a : ℕ → Bool) → Stands s.store s.table a → (v : ℕ) → v < length s.table → slice_index s.table v ≡ 2 * v → a v ≡ lit a (by entries v)

-- the entries may be taken over: with a model they replace representatives; without one there is a clause
abbrev pub Ready : State → List ℕ → Bool → Type 0
Ready s entries true = Replaces s entries
Ready s entries false = 1 ≤ s.space

-- at most two searches for each variable of the store, and one more; a refused call leaves the solver as it was
abbrev pub Serves : {S : Type 0} → (S → ℕ) → State → S → S → Result Outcome SheetFault → Type 0
Serves tally s before after (Ok o) = tally after ≤ tally before + 2 * occurring s.nets s.store + 1
Serves tally s before after (Err e) = after ≡ before
