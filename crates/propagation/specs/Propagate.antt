-- What one-literal clauses force. Assumes nothing.
use Rattle.std.specs.Prelude.{◌≡◌, ℕ, zero, suc, List, [], ◌∷◌, length, take, Some, None, Option}
use Rattle.cnf.specs.Words.{encode}
use Rattle.cnf.specs.Table.{by, applieds}
use Rattle.propagation.specs.declared.unit.Pending.{Pending}
use Rattle.propagation.specs.declared.unit.Pending.TheVariants.{Nothing, Conflict, Forces}
use Rattle.propagation.specs.Follow.{followed, forced}

-- the first clause of at most one literal
abbrev pub pending : List (List ℕ) → Pending
pending [] = Nothing
pending ([] ∷ cs) = Conflict
pending ((c ∷ []) ∷ cs) = Forces c
pending ((c ∷ d ∷ ds) ∷ cs) = pending cs

-- a table and the clauses that it was applied to
pub record Rewritten : Type 0 where
  pub table : List ℕ
  pub clauses : List (List ℕ)

abbrev pub resumed : List ℕ → List (List ℕ) → Pending → (ℕ → Option Rewritten) → Option Rewritten
resumed t cs Nothing next = Some (record { table = t; clauses = cs })
resumed t cs Conflict next = None
resumed t cs (Forces c) next = next c

-- the literal of the first one-literal clause, and all that it represents, become true, and the table is applied to the clauses, at most k times over; None where a clause is empty
unfoldable pub propagated_for : ℕ → List ℕ → List (List ℕ) → Option Rewritten
propagated_for zero t cs = Some (record { table = t; clauses = cs })
propagated_for (suc k) t cs =
    resumed t cs (pending cs) (λ c. propagated_for k (followed (forced c) t) (applieds (by (followed (forced c) t)) cs))

-- as long as there is a one-literal clause: each turn takes words away, so there are no more turns than words
abbrev pub propagated : List ℕ → List (List ℕ) → Option Rewritten
propagated t cs = propagated_for (length (encode cs)) t cs

-- the representatives are replaced by f, the table is applied to the clauses, and propagation follows
abbrev pub rewritten : (ℕ → ℕ) → List ℕ → List (List ℕ) → Option Rewritten
rewritten f t cs = propagated (followed f t) (applieds (by (followed f t)) cs)

-- what stands in a table and at the front of a word list after a call that answers the number of words left; where a clause became empty both are left free
abbrev pub Leaves : Option Rewritten → List ℕ → List ℕ → Option ℕ → Type 0
Leaves None u ws r = r ≡ None
Leaves (Some p) u ws r = (r ≡ Some (length (encode p.clauses))) × (u ≡ p.table) × (take (length (encode p.clauses)) ws ≡ encode p.clauses)
