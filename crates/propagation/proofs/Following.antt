-- A table whose representatives are replaced, entry by entry, and a literal that becomes true. Assumes nothing.
use Rattle.std.proofs.Common.{◌≡◌, ℕ, ◌+◌, ◌/◌, ◌<◌, ◌≤◌, List, ◌++◌, length, get_or, take, drop, set, ap, ◌∙◌, arith}
use Rattle.std.proofs.lemmas.List.Edits.{map_over_more}
use Rattle.std.proofs.lemmas.List.{append-nil, take_all, drop_all, get_or_default}
use Rattle.std.proofs.lemmas.Bool.Decides.{nat_tests}
use Rattle.cnf.specs.Truth.{opp}
use Rattle.cnf.specs.Table.{turn}
use Rattle.propagation.specs.Follow.{followed, forced}

-- the table whose first i entries are replaced
abbrev pub partly : (ℕ → ℕ) → List ℕ → ℕ → List ℕ
partly f t i = followed f (take i t) ++ drop i t

pub partly_all : (f : ℕ → ℕ) (t u : List ℕ) (i : ℕ) → u ≡ partly f t i → length t ≤ i → u ≡ followed f t
partly_all f t u i e h = e ∙ ap (λ xs. followed f xs ++ drop i t) (take_all i t h) ∙ ap (λ xs. followed f t ++ xs) (drop_all i t h) ∙ append-nil (followed f t)

-- a loop's step
module _ (f : ℕ → ℕ) (t u : List ℕ) (i : ℕ) (e : u ≡ partly f t i) (l : length u ≡ length t) (h : i < length t) where
  pub partly_more : (r : ℕ) → r ≡ turn (f (get_or u i 0 / 2)) (get_or u i 0) → set u i r ≡ partly f t (i + 1)
  partly_more r g = ap (set u i) g ∙ map_over_more (λ x. turn (f (x / 2)) x) t u i (get_or u i 0) h e (get_or_default u i 0 (get_or u i 0) (omega arith))

-- what a representative becomes where the literal c becomes true
pub forced_literal : (c r : ℕ) → r ≡ c → 1 ≡ turn (forced c (r / 2)) r
forced_literal c r e = grind (arith, nat_tests)

pub forced-opposed : (c r : ℕ) → r ≡ opp c → 0 ≡ turn (forced c (r / 2)) r
forced-opposed c r e = grind (arith, nat_tests)

pub forced_other : (c r : ℕ) → (r ≡ c → ⊥) → (r ≡ opp c → ⊥) → r ≡ turn (forced c (r / 2)) r
forced_other c r n o = grind (arith, nat_tests)
