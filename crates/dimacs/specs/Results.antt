-- What a reading gives, in the words of the text. Assumes nothing.
use Rattle.std.specs.Prelude.{◌≡◌, ℕ, List, Ok, Err, vec_items, Result}
use Rattle.cnf.specs.Words.{read}
use Rattle.dimacs.specs.declared.error.ReadError.{ReadError}
use Rattle.dimacs.specs.declared.error.ReadError.TheVariants.{Memory, Refused}
use Rattle.dimacs.specs.declared.formula.Formula.{Formula}
use Rattle.dimacs.specs.Text.{Contents, text_says, Limits}

-- the number of nets and the clauses of a formula
abbrev pub contents : Formula → Contents
contents f = record { nets = f.nets; clauses = read (vec_items f.words) }

-- a reading gives what the text says, within the limits, or the fault that the text has; only memory may be short
abbrev pub ReadAs : ℕ → List ℕ → Result Formula ReadError → Type 0
ReadAs space text (Ok f) = (text_says space text ≡ Ok (contents f)) × Limits space (contents f)
ReadAs space text (Err Memory) = Unit {0}
ReadAs space text (Err (Refused l)) = text_says space text ≡ Err l

-- a reading gives this clause list for n nets back
abbrev pub GivesBack : ℕ → List (List ℕ) → Result Formula ReadError → Type 0
GivesBack n cs (Ok f) = contents f ≡ record { nets = n; clauses = cs }
GivesBack n cs (Err Memory) = Unit {0}
GivesBack n cs (Err (Refused l)) = ⊥
