-- What the theory states. Assumes nothing.
use Rattle.std.specs.Prelude.{◌≡◌, ℕ, ◌/◌, ◌≤◌, Bool, true, false, List, length, Some, None, Decides, Option}
use Rattle.cnf.specs.Truth.{clause, clauses, Equal, Backbone}
use Rattle.cnf.specs.Words.{encode, read, well, goods}
use Rattle.cnf.specs.Table.{Tabled, applied, applieds, then', by, via, clause_or_true, Follows, Own, Extends}
use Rattle.cnf.specs.Finite.{is_equal, is_backbone}

-- the test over all rows of bits decides whether the literal is true in every model
abbrev pub BackboneMeans : Type 0
BackboneMeans = (m : ℕ) (cs : List (List ℕ)) (c : ℕ) → goods m cs ≡ true → c / 2 ≤ m → Decides (is_backbone m cs c) (Backbone cs c)

-- the test over all rows of bits decides whether every model agrees on the literals
abbrev pub EqualMeans : Type 0
EqualMeans = (m : ℕ) (cs : List (List ℕ)) (c d : ℕ) → goods m cs ≡ true → c / 2 ≤ m → d / 2 ≤ m → Decides (is_equal m cs c d) (Equal cs c d)

-- a backbone is a literal that equals the constant true
abbrev pub BackboneEqualsTrue : Type 0
BackboneEqualsTrue = (m : ℕ) (cs : List (List ℕ)) (c : ℕ) → goods m cs ≡ true → c / 2 ≤ m → is_backbone m cs c ≡ is_equal m cs c 1

-- a well formed list is its clauses in words
abbrev pub ReadMeans : Type 0
ReadMeans = (m : ℕ) (ws : List ℕ) → well m ws ≡ true → (encode (read ws) ≡ ws) × (goods m (read ws) ≡ true)

-- clauses in words are a well formed list of them
abbrev pub WrittenWell : Type 0
WrittenWell = (m : ℕ) (cs : List (List ℕ)) → goods m cs ≡ true → (read (encode cs) ≡ cs) × (well m (encode cs) ≡ true)

-- replacing the literals of the clauses is replacing the values of the variables
abbrev pub AppliedKeepsTruth : Type 0
AppliedKeepsTruth = (a : ℕ → Bool) (f : ℕ → ℕ) (cs : List (List ℕ)) → a 0 ≡ false → clauses a (applieds f cs) ≡ clauses (via a f) cs

abbrev pub counted : Option (List ℕ) → ℕ
counted None = 0
counted (Some c) = length c

abbrev pub OwnAll : List ℕ → Option (List ℕ) → Type 0
OwnAll t None = Unit {0}
OwnAll t (Some c) = Own t c

-- what a clause has become, where the table t was applied to it
pub record Applies (t c : List ℕ) (o : Option (List ℕ)) : Type 0 where
  -- it is the clause that the rule gives
  pub exact : o ≡ applied (by t) c
  -- its truth is the clause's under every assignment that gives each variable its representative's value
  pub truth : (a : ℕ → Bool) → Follows t c a → clause_or_true a o ≡ clause a c
  -- every literal left is its own representative
  pub own : Tabled t → OwnAll t o
  -- the count never grows
  pub fewer : counted o ≤ length c
  -- applying twice is applying once
  pub again : Tabled t → then' o (applied (by t)) ≡ o
  -- applying an earlier table first makes no difference
  pub later : (s : List ℕ) → Extends s t → Tabled s → Tabled t → then' (applied (by s) c) (applied (by t)) ≡ o
