-- What a text says behind the lines and numbers that are read of it. Assumes nothing.
use Rattle.std.specs.Prelude.{◌≡◌, ℕ, ◌+◌, cond, List, [], ◌∷◌, ◌++◌, length, Some, None, Ok, Err, vec_items, Option, Result}
use Rattle.faults.specs.declared.Located.{Located}
use Rattle.cnf.specs.Words.{read}
use Rattle.dimacs.specs.declared.clauses.Clauses.{Clauses}
use Rattle.dimacs.specs.declared.error.ReadError.{ReadError}
use Rattle.dimacs.specs.declared.error.ReadError.TheVariants.{Memory, Refused}
use Rattle.dimacs.specs.declared.problem.Problem.{Problem}
use Rattle.dimacs.specs.declared.reader.Reader.{Reader}
use Rattle.dimacs.specs.Numbers.{glue, cut}
use Rattle.dimacs.specs.Text.{Answer, Placed, plain, tokens, header_of, codes, is_end, closed, finished, limited, headed}

-- the closed clauses
abbrev pub done : Clauses → List (List ℕ)
done s = read (vec_items s.words)

-- the closed clauses with one code more
abbrev pub done_with : List (List ℕ) → List ℕ → ℕ → List (List ℕ)
done_with cs now c = cond (is_end c) (cs ++ now ∷ []) cs

-- the current clause with one code more
abbrev pub current_with : List ℕ → ℕ → List ℕ
current_with now c = cond (is_end c) [] (now ++ c ∷ [])

-- the text's end, behind these closed clauses, this current one and the codes that follow
abbrev pub ended_from : Problem → ℕ → ℕ → List (List ℕ) → List ℕ → Result (List ℕ) Located → Answer
ended_from p space end cs now (Err e) = Err e
ended_from p space end cs now (Ok vs) = finished p space end (closed (cs ++ glue now (cut is_end vs)))

-- what a text says whose end is on the line `end`, where these numbers are left
abbrev pub numbers_say : Clauses → ℕ → ℕ → List Placed → Answer
numbers_say s space end ts =
    ended_from s.problem space end (done s) (vec_items s.current) (codes s.problem.nets (length (vec_items s.current)) ts)

-- the same, where these lines are left, before the header or behind it
abbrev pub lines_say : Option Clauses → ℕ → ℕ → List Placed → Answer
lines_say None space end ls = headed space end ls
lines_say (Some s) space end ls = numbers_say s space end (tokens ls)

abbrev pub means : Reader → ℕ → ℕ → List (List ℕ) → Answer
means r space end ls = lines_say r.clauses space end (plain (r.line + 1) ls)

-- what it says where no line is left
abbrev pub ends : Reader → ℕ → Answer
ends r space = means r space r.line []

-- memory was short, or the answer is the fault
abbrev pub Faults : Answer → ReadError → Type 0
Faults a Memory = Unit {0}
Faults a (Refused l) = a ≡ Err l

-- numbers were read, whatever follows them
pub record Reads (s : Clauses) (ts : List Placed) (t : Clauses) : Type 0 where
  pub says : (space end : ℕ) (more : List Placed) → numbers_say s space end (ts ++ more) ≡ numbers_say t space end more

-- one of the numbers has a fault, or memory was short
pub record Stops (s : Clauses) (ts : List Placed) (e : ReadError) : Type 0 where
  pub faults : (space end : ℕ) (more : List Placed) → Faults (numbers_say s space end (ts ++ more)) e

-- the header line was read, or refused, neither of which takes memory
abbrev pub Headed : ℕ → List ℕ → Result Problem ReadError → Type 0
Headed line text (Ok p) = (rest : Problem → Answer) → limited line (header_of text) rest ≡ rest p
Headed line text (Err Memory) = ⊥
Headed line text (Err (Refused l)) = (rest : Problem → Answer) → limited line (header_of text) rest ≡ Err l

-- a line was read, whatever follows it
pub record Goes (r : Reader) (l : List ℕ) (q : Reader) : Type 0 where
  pub says : (space end : ℕ) (ls : List (List ℕ)) → means r space end (l ∷ ls) ≡ means q space end ls

-- a line has a fault, or memory was short
pub record Halts (r : Reader) (l : List ℕ) (e : ReadError) : Type 0 where
  pub faults : (space end : ℕ) (ls : List (List ℕ)) → Faults (means r space end (l ∷ ls)) e
