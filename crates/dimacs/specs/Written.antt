-- The text that a clause list is written as, and the law that reading gives the list back. Assumes nothing.
use Rattle.std.specs.Prelude.{◌≡◌, ℕ, ◌/◌, ◌%◌, ◌≤◌, min, true, cond, List, [], ◌∷◌, ◌++◌, length, Ok, codes as bytes, decimal, ◌==◌}
use Rattle.cnf.specs.Words.{encode, goods}
use Rattle.dimacs.specs.Text.{text_says}

-- a literal as a number: its variable, with a minus if it is the opposite
abbrev pub spelled : ℕ → List ℕ
spelled c = cond (c % 2 == 0) (decimal (c / 2)) (45 ∷ decimal (c / 2))

-- a clause on a line of its own: its literals, each with a space behind it, then 0 and a line feed
abbrev pub clause_text : List ℕ → List ℕ
clause_text [] = 48 ∷ 10 ∷ []
clause_text (c ∷ cs) = spelled c ++ 32 ∷ clause_text cs

abbrev pub clauses_text : List (List ℕ) → List ℕ
clauses_text [] = []
clauses_text (c ∷ cs) = clause_text c ++ clauses_text cs

-- the header line, then the clauses
abbrev pub written : ℕ → List (List ℕ) → List ℕ
written n cs = bytes "p cnf " ++ (decimal n ++ 32 ∷ (decimal (length cs) ++ 10 ∷ clauses_text cs))

-- a clause list within the limits of a text and of the store space
pub record Within (space n : ℕ) (cs : List (List ℕ)) : Type 0 where
  pub nets : n ≤ 2000
  pub count : length cs ≤ 8000
  pub good : goods n cs ≡ true
  pub room : length (encode cs) ≤ min space 30000
  pub size : length (written n cs) ≤ 60000

-- a text written from a clause list within the limits says that list
abbrev pub ReadsBack : Type 0
ReadsBack =
    (space n : ℕ) (cs : List (List ℕ)) → Within space n cs
    → text_says space (written n cs) ≡ Ok (record { nets = n; clauses = cs })
