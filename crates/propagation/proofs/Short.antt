-- The first clause of at most one literal. Assumes nothing.
use Rattle.std.proofs.Common.{◌≡◌, ℕ, ◌≤◌, Bool, false, List, [], ◌∷◌, length, get_or, refl, ap, arith}
use Rattle.std.proofs.lemmas.Bool.{and_right}
use Rattle.cnf.specs.Truth.{clause, clauses}
use Rattle.propagation.specs.declared.unit.Pending.TheVariants.{Conflict, Forces}
use Rattle.propagation.specs.Propagate.{pending}

-- a list by its first clause
pub pending_none : (cs rest : List (List ℕ)) (c : List ℕ) → cs ≡ c ∷ rest → length c ≡ 0 → pending cs ≡ Conflict
pending_none cs rest [] e h = ap pending e
pending_none cs rest (x ∷ xs) e h = absurd (omega arith)

pub pending_one : (cs rest : List (List ℕ)) (c : List ℕ) → cs ≡ c ∷ rest → length c ≡ 1 → pending cs ≡ Forces (get_or c 0 0)
pending_one cs rest [] e h = absurd (omega arith)
pending_one cs rest (x ∷ []) e h = ap pending e
pending_one cs rest (x ∷ y ∷ xs) e h = absurd (omega arith)

pub pending_more : (cs rest : List (List ℕ)) (c : List ℕ) → cs ≡ c ∷ rest → 2 ≤ length c → pending cs ≡ pending rest
pending_more cs rest [] e h = absurd (omega arith)
pending_more cs rest (x ∷ []) e h = absurd (omega arith)
pending_more cs rest (x ∷ y ∷ xs) e h = ap pending e

-- what holds of each list that begins with the one-literal clause, and of each list with one more clause, holds where that clause is found
pub forces_at : (P : List (List ℕ) → Type 0) (c : ℕ) → ((cs : List (List ℕ)) → P ((c ∷ []) ∷ cs)) → ((d : List ℕ) (cs : List (List ℕ)) → P cs → P (d ∷ cs))
    → (cs : List (List ℕ)) → pending cs ≡ Forces c → P cs
forces_at P c here more [] e = absurd (let z : ◌≡◌ {A = ℕ} 0 1 = cc in omega arith)
forces_at P c here more ([] ∷ cs) e = absurd (let z : ◌≡◌ {A = ℕ} 0 1 = cc in omega arith)
forces_at P c here more ((x ∷ []) ∷ cs) e = let z : x ≡ c = cc in rw z (here cs)
forces_at P c here more ((x ∷ y ∷ ys) ∷ cs) e = more (x ∷ y ∷ ys) cs (forces_at P c here more cs e)

-- a list with an empty clause is false
pub conflict_false : (a : ℕ → Bool) (cs : List (List ℕ)) → pending cs ≡ Conflict → clauses a cs ≡ false
conflict_false a [] e = absurd (let z : ◌≡◌ {A = ℕ} 0 1 = cc in omega arith)
conflict_false a ([] ∷ cs) e = refl
conflict_false a ((x ∷ []) ∷ cs) e = absurd (let z : ◌≡◌ {A = ℕ} 0 1 = cc in omega arith)
conflict_false a ((x ∷ y ∷ ys) ∷ cs) e = and_right (clause a (x ∷ y ∷ ys)) (clauses a cs) (conflict_false a cs e)
