-- What the calls of a solver mean. Assumes nothing.
use Rattle.std.specs.Prelude.{◌≡◌, ℕ, ◌+◌, ◌-◌, min, Bool, true, false, cond, not, ◌&&◌, List, [], ◌∷◌, length, Some, None, Ok, Err, Option, Result, ◌≢◌, nat_le, slice_set}
use Rattle.std.specs.List.{list_all}
use Rattle.faults.specs.declared.SolverFault.{SolverFault}
use Rattle.faults.specs.declared.SolverFault.TheVariants.{BadSearch, NothingKept, NoVariable}
use Rattle.cnf.specs.Truth.{told, lit, clauses, inside, Model, Equal}
use Rattle.cnf.specs.Words.{read, well}

-- whether every literal of a row is true
abbrev pub every : (ℕ → Bool) → List ℕ → Bool
every a cs = list_all (lit a) cs

-- whether a search is accepted: m within the capacity, the list well formed for m, at most 8 assumed literals, all of variables from 1 to m
abbrev pub accepts : ℕ → ℕ → List ℕ → List ℕ → Bool
accepts most m ws assumed = nat_le m most && (well m ws && (nat_le (length assumed) 8 && inside m assumed))

-- the tally after one more search: it stands still at its largest
abbrev pub counted : ℕ → ℕ
counted n = min (n + 1) 4294967295

-- bits for the variables from 1 to m that are a model of the list and make the assumed literals true
pub record Found (m : ℕ) (ws assumed : List ℕ) (bits : List Bool) : Type 0 where
  pub size : length bits ≡ m
  pub model : Model (read ws) (told bits)
  pub agrees : every (told bits) assumed ≡ true

-- no model of the list makes the assumed literals true
abbrev pub NoneFound : List ℕ → List ℕ → Type 0
NoneFound ws assumed = (a : ℕ → Bool) → Model (read ws) a → every a assumed ≢ true

-- what an accepted search answers, and what is kept after it
abbrev pub Answered : ℕ → List ℕ → List ℕ → Bool → Option (List Bool) → Type 0
Answered m ws assumed true (Some bits) = Found m ws assumed bits
Answered m ws assumed true None = ⊥
Answered m ws assumed false (Some bits) = ⊥
Answered m ws assumed false None = NoneFound ws assumed

-- what a search promises; s and t are the solver before and after it
abbrev pub Searched : {S : Type 0} → (S → ℕ) → (S → Option (List Bool)) → ℕ → ℕ → List ℕ → List ℕ → S → S → Result Bool SolverFault → Type 0
Searched tally kept most m ws assumed s t (Ok b) = (accepts most m ws assumed ≡ true) × (tally t ≡ counted (tally s)) × Answered m ws assumed b (kept t)
Searched tally kept most m ws assumed s t (Err e) = (accepts most m ws assumed ≡ false) × (e ≡ BadSearch) × (t ≡ s)

-- whether there is a bit of the variable
abbrev pub placed : List Bool → ℕ → Bool
placed bits v = nat_le 1 v && nat_le v (length bits)

-- the kept bit of a variable
abbrev pub valued : Option (List Bool) → ℕ → Result Bool SolverFault
valued None v = Err NothingKept
valued (Some bits) v = cond (placed bits v) (Ok (told bits v)) (Err NoVariable)

-- the bits with that of a variable flipped
abbrev pub turned : List Bool → ℕ → List Bool
turned bits v = slice_set bits (v - 1) (not (told bits v))

-- what a flip answers: whether the flipped bits satisfy the list
abbrev pub flipped : Option (List Bool) → ℕ → List ℕ → Result Bool SolverFault
flipped None v ws = Err NothingKept
flipped (Some bits) v ws =
    cond (placed bits v) (cond (well (length bits) ws) (Ok (clauses (told (turned bits v)) (read ws))) (Err BadSearch)) (Err NoVariable)

-- what is kept after a flip that gave this answer
abbrev pub left : Option (List Bool) → ℕ → Result Bool SolverFault → Option (List Bool)
left None v r = None
left (Some bits) v (Ok yes') = Some (cond yes' (turned bits v) bits)
left (Some bits) v (Err e) = Some bits

-- what is kept, where something is
abbrev pub kept_by : Bool → List Bool → Option (List Bool)
kept_by true bits = Some bits
kept_by false bits = None

-- what the test of two literals says: they are equal over the list exactly if no model tells them apart
abbrev pub Compared : ℕ → ℕ → List ℕ → ℕ → ℕ → Result Bool SolverFault → Type 0
Compared most m ws c d (Ok true) = (accepts most m ws (c ∷ d ∷ []) ≡ true) × Equal (read ws) c d
Compared most m ws c d (Ok false) = (accepts most m ws (c ∷ d ∷ []) ≡ true) × (Equal (read ws) c d → ⊥)
Compared most m ws c d (Err e) = (accepts most m ws (c ∷ d ∷ []) ≡ false) × (e ≡ BadSearch)
