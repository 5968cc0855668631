-- Candidate classes of a set of clauses, and the table that they become. Assumes nothing.
use Rattle.std.specs.Prelude.{◌≡◌, ℕ, ◌*◌, ◌/◌, ◌<◌, ◌≤◌, Bool, true, false, cond, List, length, Some, None, Option, nat_lt, slice_index}
use Rattle.std.specs.Bool.{beq}
use Rattle.cnf.specs.Truth.{told, lit, clauses, Model, Equal}
use Rattle.cnf.specs.Words.{read}
use Rattle.cnf.specs.Table.{rep, Tabled, via}
use Rattle.cnf.specs.Finite.{lowest}
use Rattle.solver.specs.Search.{every, NoneFound}

-- the assignment that is kept; all false if none is
abbrev pub held : Option (List Bool) → ℕ → Bool
held None v = false
held (Some bits) v = told bits v

-- bits of m variables are kept
abbrev pub Keeps : ℕ → Option (List Bool) → Type 0
Keeps m None = ⊥
Keeps m (Some bits) = length bits ≡ m

-- what is kept is a model of the list over m variables that makes the assumed literals true
pub record Holds (m : ℕ) (ws assumed : List ℕ) (kept : Option (List Bool)) : Type 0 where
  pub keeps : Keeps m kept
  pub model : Model (read ws) (held kept)
  pub agrees : every (held kept) assumed ≡ true

-- what a search that is not refused answers, by what is kept after it
abbrev pub Asked : ℕ → List ℕ → List ℕ → Option (List Bool) → Bool → Type 0
Asked m ws assumed kept true = Holds m ws assumed kept
Asked m ws assumed kept false = NoneFound ws assumed

-- a model in which two literals differ
pub record Apart (cs : List (List ℕ)) (c d : ℕ) (a : ℕ → Bool) : Type 0 where
  pub model : Model cs a
  pub apart : beq (lit a c) (lit a d) ≡ false

-- whether two literals differ in some model, which is kept then
abbrev pub Differs : ℕ → List (List ℕ) → ℕ → ℕ → Option (List Bool) → Bool → Type 0
Differs m cs c d kept true = Keeps m kept × Apart cs c d (held kept)
Differs m cs c d kept false = Equal cs c d

-- whether a variable and its representative have one value
abbrev pub agrees : List Bool → List ℕ → ℕ → Bool
agrees bits t w = beq (lit (told bits) (2 * w)) (lit (told bits) (slice_index t w))

-- u is the table t with each class cut in two, where the bits say so; f has the new representative of the old one
pub record Refines (bits : List Bool) (t u f : List ℕ) : Type 0 where
  pub size : length u ≡ length t
  pub tabled : Tabled u
  pub each : (w : ℕ) → w < length t → slice_index u w ≡ cond (agrees bits t w) (slice_index t w) (rep f (slice_index t w))
  pub fresh : (w : ℕ) → w < length t → agrees bits t w ≡ false → agrees bits t (slice_index u w / 2) ≡ false

-- the table's literal of a variable below v, and the variable itself from v on
abbrev pub settled : List ℕ → ℕ → ℕ → ℕ
settled t v w = cond (nat_lt w v) (slice_index t w) (2 * w)

-- there is a model
pub record Satisfied (cs : List (List ℕ)) : Type 0 where
  pub by : ℕ → Bool
  pub model : Model cs by

-- the table t, of which the variables below v are settled, and the list of clauses left in which they are replaced
pub record Sweeping (cs : List (List ℕ)) (t : List ℕ) (v : ℕ) (left : List (List ℕ)) : Type 0 where
  pub some : Satisfied cs
  pub tabled : Tabled t
  pub sound : (w : ℕ) → w < v → w < length t → Equal cs (2 * w) (slice_index t w)
  pub whole : (w c : ℕ) → w < length t → c / 2 < length t → Equal cs (2 * w) c → slice_index t w ≡ rep t c
  pub same : (a : ℕ → Bool) → a 0 ≡ false → clauses a left ≡ clauses (via a (settled t v)) cs

-- every entry is the variable itself
abbrev pub Plain : List ℕ → Type 0
Plain t = (w : ℕ) → w < length t → slice_index t w ≡ 2 * w

-- the table has one representative for literals that are equal in every model, and for no others; each is the lowest
pub record Swept (m : ℕ) (cs : List (List ℕ)) (t : List ℕ) : Type 0 where
  pub some : Satisfied cs
  pub tabled : Tabled t
  pub sound : (w : ℕ) → w ≤ m → Equal cs (2 * w) (slice_index t w)
  pub whole : (w c : ℕ) → w ≤ m → c / 2 ≤ m → Equal cs (2 * w) c → slice_index t w ≡ rep t c
  pub low : (w : ℕ) → w ≤ m → slice_index t w ≡ lowest m cs w

-- what a sweep answers: whether the clauses have a model, and then the table is theirs
abbrev pub Sweeps : ℕ → List (List ℕ) → List ℕ → Bool → Type 0
Sweeps m cs t true = Swept m cs t
Sweeps m cs t false = (a : ℕ → Bool) → Model cs a → ⊥
