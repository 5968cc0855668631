-- What sweeping a group of clauses leaves. Assumes nothing.
use Rattle.std.specs.Prelude.{◌≡◌, ℕ, ◌+◌, ◌-◌, ◌*◌, ◌<◌, ◌≤◌, Bool, true, false, cond, ◌&&◌, List, length, Some, None, Ok, Err, Option, Result, ◌==◌, ◌≢◌, nat_le, slice_index, slice_index_or}
use Rattle.faults.specs.declared.SheetFault.{SheetFault}
use Rattle.faults.specs.declared.SheetFault.TheVariants.{NoSuchVariable, Capacity, SpaceShort}
use Rattle.cnf.specs.Truth.{Model}
use Rattle.cnf.specs.Words.{read, well}
use Rattle.cnf.specs.Table.{by}
use Rattle.cnf.specs.Finite.{lowest}
use Rattle.classes.specs.Renumber.{occurs, occurring, moved}
use Rattle.classes.specs.Classes.{Satisfied, Swept}

-- why a list is turned down, if it is: scratch for `size` entries, a solver for `most` variables, a work space of `room` words
abbrev pub refusal : ℕ → ℕ → List ℕ → ℕ → List ℕ → Option SheetFault
refusal size most list room t =
    cond (length t == size && well (size - 1) list)
    (cond (nat_le (length list) room) (cond (nat_le (occurring (size - 1) (read list)) most) None (Some Capacity)) (Some SpaceShort))
    (Some NoSuchVariable)

-- with a model each variable that occurs has its lowest equal literal in the table u, and all else is as in t; without one all is as it was
abbrev pub Groups : ℕ → List (List ℕ) → List ℕ → List ℕ → Bool → Type 0
Groups n cs t u true = Satisfied cs × ((v : ℕ) → v ≤ n → slice_index u v ≡ cond (occurs cs v) (lowest n cs v) (slice_index t v))
Groups n cs t u false = ((a : ℕ → Bool) → Model cs a → ⊥) × (u ≡ t)

-- what the sweep of a group answers: a refusal alters neither table nor solver; any other has at most two searches a variable that occurs, and one more
abbrev pub Grouped : {S : Type 0} → (S → ℕ) → ℕ → ℕ → List ℕ → ℕ → List ℕ → List ℕ → S → S → Result Bool SheetFault → Type 0
Grouped tally most size list room t u before after (Ok b) =
    (refusal size most list room t ≡ None) × Groups (size - 1) (read list) t u b × (tally after ≤ tally before + 2 * occurring (size - 1) (read list) + 1)
Grouped tally most size list room t u before after (Err e) = (refusal size most list room t ≡ Some e) × (u ≡ t) × (after ≡ before)

-- the table u is t, with the first m of the variables `old` at their names
pub record Carried (old names t u : List ℕ) (m : ℕ) : Type 0 where
  pub size : length u ≡ length t
  pub each : (k : ℕ) → 1 ≤ k → k ≤ m → slice_index u (slice_index old k) ≡ moved (by old) (slice_index names k)
  pub other : (v : ℕ) → ((k : ℕ) → 1 ≤ k → k ≤ m → slice_index old k ≢ v) → slice_index u v ≡ slice_index t v

-- the names of a renumbered list over m variables, which are in the table u in place of what t has
pub record Back (m : ℕ) (cs : List (List ℕ)) (old t u : List ℕ) : Type 0 where
  pub names : List ℕ
  pub swept : Swept m cs names
  pub carried : Carried old names t u m

-- with a model the names are carried back; without one the table is as it was
abbrev pub CarriedBack : ℕ → List (List ℕ) → List ℕ → List ℕ → List ℕ → Bool → Type 0
CarriedBack m cs old t u true = Back m cs old t u
CarriedBack m cs old t u false = ((a : ℕ → Bool) → Model cs a → ⊥) × (u ≡ t)

-- old has variables up to n, in rising order
pub record Rises (old : List ℕ) (n m : ℕ) : Type 0 where
  pub zero : slice_index_or old 0 0 ≡ 0
  pub most : (k : ℕ) → 1 ≤ k → k ≤ m → slice_index old k ≤ n
  pub rising : (j k : ℕ) → j < k → k ≤ m → slice_index old j < slice_index old k
