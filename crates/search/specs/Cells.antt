-- Partial assignments: a cell for each variable, that of the variable v at the place v - 1. A cell has a bit, or none while it is open. Assumes nothing.
use Rattle.std.specs.Prelude.{◌≡◌, ℕ, suc, ◌-◌, ◌/◌, ◌%◌, ◌<◌, Bool, true, false, cond, not, List, [], ◌∷◌, Option, Some, None, map, length, count_by, unwrap_or, ◌==◌, slice_index_or, slice_set}
use Rattle.std.specs.Option.{is_none, option_map}
use Rattle.cnf.specs.Truth.{lit, clause, named}
use Rattle.search.specs.declared.cell.Status.{Status}
use Rattle.search.specs.declared.cell.Status.TheVariants.{Satisfied, Conflict, Forced, Unresolved}

-- a bit may stand in a cell
abbrev pub Fits : Option Bool → Bool → Type 0
Fits None b = Unit {0}
Fits (Some x) b = b ≡ x

-- the opposite cell
abbrev pub opposed : Option Bool → Option Bool
opposed x = option_map not x

-- the place of a code
abbrev pub place_of : ℕ → ℕ
place_of w = w / 2 - 1

-- the cell of a literal
unfoldable pub look : List (Option Bool) → ℕ → Option Bool
look c w = cond (w % 2 == 0) (slice_index_or c (place_of w) None) (opposed (slice_index_or c (place_of w) None))

-- an assignment gives each variable that is set the value of its cell
pub record Extends (c : List (Option Bool)) (a : ℕ → Bool) : Type 0 where
  pub fits : (i : ℕ) → Fits (slice_index_or c i None) (a (suc i))

-- how many cells are open
abbrev pub open_count : List (Option Bool) → ℕ
open_count c = count_by is_none c

-- the cells as bits
abbrev pub bits : List (Option Bool) → List Bool
bits c = map (λ x. unwrap_or x false) c

-- the cell that makes a literal true
abbrev pub made : ℕ → Option Bool
made w = Some (w % 2 == 0)

-- the cells with a literal made true
unfoldable pub assigned : List (Option Bool) → ℕ → List (Option Bool)
assigned c w = slice_set c (place_of w) (made w)

-- the cells with some places opened, the last first
abbrev pub restored : List (Option Bool) → List ℕ → List (Option Bool)
restored c [] = c
restored c (i ∷ is) = slice_set (restored c is) i None

-- what is known of a clause under the cells
abbrev pub Weighed : List (Option Bool) → List ℕ → Status → Type 0
Weighed c ws Satisfied = (a : ℕ → Bool) → Extends c a → clause a ws ≡ true
Weighed c ws Conflict = (a : ℕ → Bool) → Extends c a → clause a ws ≡ false
Weighed c ws (Forced w) = (named (length c) w ≡ true) × (look c w ≡ None) × ((a : ℕ → Bool) → Extends c a → clause a ws ≡ lit a w)
Weighed c ws Unresolved = 0 < open_count c
