-- A table of representatives, and what it makes of a clause: entry v is the representative of the literal 2v. Assumes nothing.
use Rattle.std.specs.Prelude.{◌≡◌, ℕ, ◌+◌, ◌*◌, ◌/◌, ◌%◌, ◌<◌, ◌≤◌, Bool, true, false, cond, ◌&&◌, ◌||◌, List, [], ◌∷◌, ◌++◌, map, length, Some, None, Option, ◌==◌, nat_lt, slice_index}
use Rattle.std.specs.List.{list_any, range_with_len}
use Rattle.cnf.specs.declared.kind.Kind.{Kind}
use Rattle.cnf.specs.declared.kind.Kind.TheVariants.{Free, Fixed, Tied}
use Rattle.cnf.specs.Truth.{opp, lit, clause}

-- d where the literal c is a variable, and its opposite where c is an opposite
abbrev pub turn : ℕ → ℕ → ℕ
turn d c = cond (c % 2 == 0) d (opp d)

-- the representative of a literal
abbrev pub rep : List ℕ → ℕ → ℕ
rep t c = turn (slice_index t (c / 2)) c

-- the representative of a literal whose variable is in the table
abbrev pub looked : List ℕ → ℕ → Option ℕ
looked t c = cond (nat_lt (c / 2) (length t)) (Some (rep t c)) None

-- the four facts of every table that exists; a constant counts as variable 0
pub record Tabled (t : List ℕ) : Type 0 where
  pub constants : (c : ℕ) → c < 2 → rep t c ≡ c
  pub opposites : (c : ℕ) → rep t (opp c) ≡ opp (rep t c)
  pub lower : (c : ℕ) → c / 2 < length t → rep t c / 2 ≤ c / 2
  pub itself : (c : ℕ) → c / 2 < length t → rep t (rep t c) ≡ rep t c

-- the entries of k variables from u on, each the variable's own literal
abbrev pub fresh_from : ℕ → ℕ → List ℕ
fresh_from u k = map (λ v. 2 * v) (range_with_len u k)

-- the table of n variables in which each literal represents itself
abbrev pub fresh : ℕ → List ℕ
fresh n = fresh_from 0 (n + 1)

-- what a variable is: free if it represents itself, fixed if a constant represents it, tied otherwise
abbrev pub kind_of : ℕ → ℕ → Kind
kind_of v r = cond (r == 2 * v) Free (cond (nat_lt r 2) (Fixed (r == 1)) (Tied r))

-- what a variable of the table is; the constant is none
abbrev pub kind_at : List ℕ → ℕ → Option Kind
kind_at t v = cond (nat_lt 0 v && nat_lt v (length t)) (Some (kind_of v (slice_index t v))) None

-- each kind's number in a report
abbrev pub kind_number : Kind → ℕ
kind_number Free = 0
kind_number (Fixed b) = 1
kind_number (Tied r) = 2

-- whether a row of codes has a code
abbrev pub has : List ℕ → ℕ → Bool
has xs d = list_any (λ x. x == d) xs

-- the clause `out` with one literal more: false and a repeat are dropped; None is a clause with true or two opposite literals in it
abbrev pub put : List ℕ → ℕ → Option (List ℕ)
put out d = cond (d == 0 || has out d) (Some out) (cond (d == 1 || has out (opp d)) None (Some (out ++ d ∷ [])))

abbrev pub then' : Option (List ℕ) → (List ℕ → Option (List ℕ)) → Option (List ℕ)
then' None f = None
then' (Some x) f = f x

-- f gives each variable the literal that it is replaced by
abbrev pub puts : (ℕ → ℕ) → List ℕ → List ℕ → Option (List ℕ)
puts f out [] = Some out
puts f out (c ∷ cs) = then' (put out (turn (f (c / 2)) c)) (λ o. puts f o cs)

-- the clause with each literal replaced, in order; None where it vanishes
abbrev pub applied : (ℕ → ℕ) → List ℕ → Option (List ℕ)
applied f cs = puts f [] cs

abbrev pub before : Option (List ℕ) → List (List ℕ) → List (List ℕ)
before None cs = cs
before (Some c) cs = c ∷ cs

-- the clauses with each literal replaced, without those that vanish
abbrev pub applieds : (ℕ → ℕ) → List (List ℕ) → List (List ℕ)
applieds f [] = []
applieds f (c ∷ cs) = before (applied f c) (applieds f cs)

-- the table as a function
abbrev pub by : List ℕ → ℕ → ℕ
by t v = slice_index t v

-- the assignment that gives each variable the value of the literal that it is replaced by
abbrev pub via : (ℕ → Bool) → (ℕ → ℕ) → ℕ → Bool
via a f v = lit a (f v)

-- the assignment gives each variable of the clause its representative's value
abbrev pub Follows : List ℕ → List ℕ → (ℕ → Bool) → Type 0
Follows t [] a = a 0 ≡ false
Follows t (c ∷ cs) a = (lit a (rep t c) ≡ lit a c) × Follows t cs a

-- a clause that vanished is true
abbrev pub clause_or_true : (ℕ → Bool) → Option (List ℕ) → Bool
clause_or_true a None = true
clause_or_true a (Some c) = clause a c

-- each literal is its own representative
abbrev pub Own : List ℕ → List ℕ → Type 0
Own t [] = Unit {0}
Own t (c ∷ cs) = (rep t c ≡ c) × Own t cs

-- u is a later table than t: a literal's representative by t has the same representative by u
abbrev pub Extends : List ℕ → List ℕ → Type 0
Extends t u = (c : ℕ) → rep u (rep t c) ≡ rep u c
