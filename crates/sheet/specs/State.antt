-- What a sheet is, and what always holds of it. Assumes nothing.
use Rattle.std.specs.Prelude.{◌≡◌, ℕ, ◌+◌, ◌-◌, ◌≤◌, Bool, true, false, ◌||◌, List, [], ◌∷◌, length, slice_index_or}
use Rattle.cnf.specs.Words.{encode, read}
use Rattle.cnf.specs.Table.{has}
use Rattle.propagation.specs.Follow.{Reduced}

-- the number of nets, how many words of store space count, the table, the stored clauses, and which variables are waiting
pub record State : Type 0 where
  pub nets : ℕ
  pub space : ℕ
  pub table : List ℕ
  pub store : List (List ℕ)
  pub waiting : ℕ → Bool

-- whether some clause is empty: of a sheet, whether it is contradictory
abbrev pub broken : List (List ℕ) → Bool
broken [] = false
broken ([] ∷ cs) = true
broken ((c ∷ ds) ∷ cs) = broken cs

-- whether some clause has the literal
abbrev pub contains : List (List ℕ) → ℕ → Bool
contains [] c = false
contains (d ∷ cs) c = has d c || contains cs c

-- what always holds of a sheet
pub record Sound (s : State) : Type 0 where
  pub few : s.nets ≤ 2000
  pub size : length s.table ≡ s.nets + 1
  -- the table has its facts, and each literal in the store is its own representative
  pub reduced : Reduced s.table s.store
  pub room : length (encode s.store) ≤ s.space
  -- a contradictory sheet stores just the empty clause and has nothing waiting
  pub alone : broken s.store ≡ true → s.store ≡ [] ∷ []
  pub quiet : broken s.store ≡ true → (v : ℕ) → s.waiting v ≡ false
  -- only nets wait
  pub nets_wait : (v : ℕ) → s.waiting v ≡ true → (1 ≤ v) × (v ≤ s.nets)

-- the sheet in these spaces: the words are the store, and `space` of its words count
abbrev pub state_in : List ℕ → List ℕ → ℕ → List Bool → State
state_in table words space marks = record {
  nets = length table - 1;
  space = space;
  table = table;
  store = read words;
  waiting = λ v. slice_index_or marks v false;
}
