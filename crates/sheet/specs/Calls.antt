-- What each call on a sheet does, and when it is refused. Assumes nothing.
use Rattle.std.specs.Prelude.{◌≡◌, ℕ, ◌*◌, ◌≤◌, Bool, true, false, cond, ◌&&◌, ◌||◌, List, [], ◌∷◌, ◌++◌, length, Some, None, Ok, Err, Option, Result, ◌==◌, nat_le, slice_index}
use Rattle.faults.specs.declared.SheetFault.{SheetFault}
use Rattle.faults.specs.declared.SheetFault.TheVariants.{NoSuchVariable, TooManyLiterals, StoreFull, Contradictory, Capacity, SpaceShort}
use Rattle.cnf.specs.Truth.{named, inside}
use Rattle.cnf.specs.Words.{encode}
use Rattle.cnf.specs.Table.{by, Own, applied, fresh, kind_of, kind_number}
use Rattle.cnf.specs.Finite.{is_backbone, lowest}
use Rattle.classes.specs.Renumber.{mentions, occurs, occurring, below}
use Rattle.propagation.specs.Propagate.{Rewritten, rewritten}
use Rattle.sheet.specs.declared.outcome.Outcome.{Outcome}
use Rattle.sheet.specs.declared.outcome.Outcome.TheVariants.{Contradiction, Settled}
use Rattle.sheet.specs.State.{State, broken}

-- what a call that answers a value promises: refused, it leaves the sheet as it was
abbrev pub Does : {A : Type 0} → Option SheetFault → State → State → A → State → Result A SheetFault → Type 0
Does refusal before after value exit (Ok x) = (refusal ≡ None) × (exit ≡ after) × (x ≡ value)
Does refusal before after value exit (Err e) = (refusal ≡ Some e) × (exit ≡ before)

-- a sheet of n nets and no clause
abbrev pub opened : ℕ → ℕ → State
opened n space = record { nets = n; space = space; table = fresh n; store = []; waiting = λ _. false }

-- the used words
abbrev pub used : State → ℕ
used s = length (encode s.store)

-- a contradictory sheet stores just the empty clause, keeps its table and has nothing waiting
abbrev pub contradicted : State → State
contradicted s = record { nets = s.nets; space = s.space; table = s.table; store = [] ∷ []; waiting = λ _. false }

-- a clause joins the sheet after the table was applied to it: one that vanished is not stored
abbrev pub joined : State → Option (List ℕ) → State
joined s None = s
joined s (Some []) = contradicted s
joined s (Some (c ∷ cs)) = record {
  nets = s.nets;
  space = s.space;
  table = s.table;
  store = s.store ++ (c ∷ cs) ∷ [];
  waiting = λ v. s.waiting v || mentions (c ∷ cs) v;
}

abbrev pub added : State → List ℕ → State
added s c = joined s (applied (by s.table) c)

-- what a table left of a clause, and may be stored
pub record Storable (s : State) (body : List ℕ) : Type 0 where
  pub alive : broken s.store ≡ false
  pub few : length body ≤ 64
  pub known : inside s.nets body ≡ true
  pub own : Own s.table body

-- why it is refused, if it is
abbrev pub storing_refusal : State → List ℕ → Option SheetFault
storing_refusal s body = cond (nat_le (used (joined s (Some body))) s.space) None (Some StoreFull)

-- why an addition is refused, if it is
abbrev pub addition_refusal : State → List ℕ → Option SheetFault
addition_refusal s c =
    cond (broken s.store) (Some Contradictory)
    (cond (nat_le (length c) 64)
    (cond (inside s.nets c) (cond (nat_le (used (added s c)) s.space) None (Some StoreFull)) (Some NoSuchVariable))
    (Some TooManyLiterals))

-- all variables of the store wait
abbrev pub woken : State → State
woken s = record { nets = s.nets; space = s.space; table = s.table; store = s.store; waiting = λ v. s.waiting v || occurs s.store v }

abbrev pub waking_refusal : State → Option SheetFault
waking_refusal s = cond (broken s.store) (Some Contradictory) None

abbrev pub representative_refusal : State → ℕ → Option SheetFault
representative_refusal s c = cond (broken s.store) (Some Contradictory) (cond (named s.nets c) None (Some NoSuchVariable))

-- the new representative of each variable in the sweep of a set with a model: of one that occurs the lowest literal that equals it, a constant if there is one
abbrev pub news : ℕ → List (List ℕ) → ℕ → ℕ
news n cs v = cond (occurs cs v) (lowest n cs v) (2 * v)

-- what rewriting leaves: where a clause became empty the table is as before
abbrev pub landed : State → Option Rewritten → State
landed s None = contradicted s
landed s (Some p) = record { nets = s.nets; space = s.space; table = p.table; store = p.clauses; waiting = s.waiting }

-- the sweep of a set of stored clauses: no model makes the sheet contradictory, since then even false is true in every model
abbrev pub swept : List (List ℕ) → State → State
swept cs s = cond (is_backbone s.nets cs 0) (contradicted s) (landed s (rewritten (news s.nets cs) s.table s.store))

-- nothing waits
abbrev pub rested : State → State
rested s = record { nets = s.nets; space = s.space; table = s.table; store = s.store; waiting = λ _. false }

abbrev pub full_swept : State → State
full_swept s = rested (swept s.store s)

-- whether a variable is of this kind: free 0, fixed 1, tied 2
abbrev pub is_kind : ℕ → List ℕ → ℕ → Bool
is_kind k t v = kind_number (kind_of v (slice_index t v)) == k

-- how many variables that are free by the table t are of this kind by the table u
abbrev pub newly : ℕ → List ℕ → List ℕ → ℕ
newly k t u = below (λ v. is_kind 0 t v && is_kind k u v) (length t)

-- what a sweep answers, from the sheet before and after
abbrev pub outcome : State → State → Outcome
outcome s u = cond (broken u.store) Contradiction (Settled (record { fixed = newly 1 s.table u.table; tied = newly 2 s.table u.table }))

-- each outcome's number, then its values
abbrev pub outcome_numbers : Outcome → List ℕ
outcome_numbers Contradiction = 0 ∷ []
outcome_numbers (Settled p) = 1 ∷ p.fixed ∷ p.tied ∷ []

-- why a full sweep is refused, by a solver for `most` variables and a work space of `room` words
abbrev pub sweep_refusal : ℕ → ℕ → State → Option SheetFault
sweep_refusal most room s =
    cond (broken s.store) (Some Contradictory)
    (cond (nat_le (used s) room) (cond (nat_le (occurring s.nets s.store) most) None (Some Capacity)) (Some SpaceShort))

-- why a question for an assignment is refused, with an output space of `bytes` bytes
abbrev pub question_refusal : ℕ → ℕ → ℕ → State → List ℕ → Option SheetFault
question_refusal most room bytes s assumed =
    cond (nat_le (length assumed) 8)
    (cond (inside s.nets assumed)
    (cond (nat_le s.nets bytes && nat_le (used s) room)
    (cond (broken s.store || nat_le (occurring s.nets s.store) most) None (Some Capacity))
    (Some SpaceShort))
    (Some NoSuchVariable))
    (Some TooManyLiterals)
