-- What replacing representatives and propagating keep. Assumes nothing.
use Rattle.std.specs.Prelude.{◌≡◌, ℕ, ◌*◌, ◌<◌, ◌≤◌, Bool, ◌↔◌, List, length, Some, None, Option, slice_index}
use Rattle.cnf.specs.Truth.{lit}
use Rattle.cnf.specs.Words.{encode}
use Rattle.cnf.specs.Table.{rep, Extends}
use Rattle.classes.specs.Renumber.{Stands}
use Rattle.propagation.specs.declared.unit.Pending.TheVariants.{Nothing}
use Rattle.propagation.specs.Follow.{Reduced, Moves, followed}
use Rattle.propagation.specs.Propagate.{Rewritten, pending, propagated, rewritten}

-- the table u with the clauses ds stands for the same assignments as t with cs, ties what t ties, and nothing is pending
pub record Lasts (t : List ℕ) (cs : List (List ℕ)) (u : List ℕ) (ds : List (List ℕ)) : Type 0 where
  pub reduced : Reduced u ds
  pub size : length u ≡ length t
  pub fewer : length (encode ds) ≤ length (encode cs)
  pub later : Extends t u
  pub same : (a : ℕ → Bool) → Stands cs t a ↔ Stands ds u a
  pub rest : pending ds ≡ Nothing

-- where a clause became empty there was no assignment
abbrev pub Outcome : List ℕ → List (List ℕ) → Option Rewritten → Type 0
Outcome t cs None = (a : ℕ → Bool) → Stands cs t a → ⊥
Outcome t cs (Some p) = Lasts t cs p.table p.clauses

-- propagation keeps the assignments, and ends only where no clause has at most one literal
abbrev pub PropagationKeeps : Type 0
PropagationKeeps = (t : List ℕ) (cs : List (List ℕ)) → Reduced t cs → Outcome t cs (propagated t cs)

-- so does a replacement that every assignment agrees with
abbrev pub RewritingKeeps : Type 0
RewritingKeeps =
    (t : List ℕ) (cs : List (List ℕ)) (f : ℕ → ℕ) → Reduced t cs → Moves t f
    → ((a : ℕ → Bool) → Stands cs t a → (v : ℕ) → v < length t → slice_index t v ≡ 2 * v → a v ≡ lit a (f v))
    → Outcome t cs (rewritten f t cs)

-- what f makes of a representative is what the new table makes of it, before propagation goes on
abbrev pub RewritingFollows : Type 0
RewritingFollows =
    (t : List ℕ) (cs : List (List ℕ)) (f : ℕ → ℕ) (p : Rewritten) → Reduced t cs → Moves t f → rewritten f t cs ≡ Some p
    → (c d : ℕ) → rep (followed f t) c ≡ rep (followed f t) d → rep p.table c ≡ rep p.table d
