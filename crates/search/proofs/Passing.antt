-- The loop over the clauses of a list. Assumes nothing.
use Rattle.std.proofs.Common.{◌≡◌, ℕ, ◌<◌, Bool, true, false, ◌&&◌, List, [], ◌∷◌, length, sym, ap, ◌∙◌, subst, arith, Option, None}
use Rattle.std.proofs.lemmas.Bool.{and_parts, both_ways}
use Rattle.cnf.specs.Truth.{told, lit, clause, clauses, named, inside}
use Rattle.cnf.specs.Words.{read, goods}
use Rattle.cnf.proofs.Reading.{first_good}
use Rattle.search.specs.declared.state.State.{State}
use Rattle.search.specs.Cells.{Extends, look, assigned, open_count, bits}
use Rattle.search.specs.States.{Grew, Keeps, Dead, Settled, cells_of}
use Rattle.search.proofs.CellFacts.{extend_assigned, count_assigned}
use Rattle.search.proofs.StateFacts.{grew_trans}

-- where nothing was forced, the clauses that are left decide; else fewer are open
abbrev pub Progress : List ℕ → List (List ℕ) → State → State → Bool → Type 0
Progress ws left s t true = open_count (cells_of t) < open_count (cells_of s)
Progress ws left s t false = open_count (cells_of t) ≡ 0 → clauses (told (bits (cells_of t))) (read ws) ≡ clauses (told (bits (cells_of t))) left

pub record Passing (ws : List ℕ) (left : List (List ℕ)) (s t : State) (moved : Bool) : Type 0 where
  pub grew : Grew s t
  pub formed : goods (length (cells_of t)) left ≡ true
  pub keeps : Keeps ws s t
  pub rest : (a : ℕ → Bool) → clauses a (read ws) ≡ true → clauses a left ≡ true
  pub progress : Progress ws left s t moved

module _ (ws : List ℕ) (left : List (List ℕ)) (s t : State) (moved : Bool) (p : Passing ws left s t moved) (c : List ℕ) (next : List (List ℕ)) (e : left ≡ c ∷ next) where
  clause_true : (a : ℕ → Bool) → clauses a (read ws) ≡ true → (clause a c ≡ true) × (clauses a next ≡ true)
  clause_true a m = and_parts _ _ (sym (ap (clauses a) e) ∙ p.rest a m)

  pub passing_known : inside (length (cells_of t)) c ≡ true
  passing_known = (first_good _ _ _ _ e p.formed).known

  -- a clause fails
  pub passing_clash : ((a : ℕ → Bool) → Extends (cells_of t) a → clause a c ≡ false) → Dead ws s
  passing_clash f = λ a x m. both_ways (clause a c) (f a (p.keeps a x m)) (clause_true a m).0

  progress_hold : (v : Bool) → Progress ws left s t v → (open_count (cells_of t) ≡ 0 → clause (told (bits (cells_of t))) c ≡ true) → Progress ws next s t v
  progress_hold true q f = q
  progress_hold false q f = λ z.
      let a = told (bits (cells_of t)) in
      q z ∙ ap (clauses a) e ∙ ap (λ x. x && clauses a next) (f z)

  -- a clause holds, or has open literals
  pub passing_hold : (open_count (cells_of t) ≡ 0 → clause (told (bits (cells_of t))) c ≡ true) → Passing ws next s t moved
  passing_hold f = record {
    grew = p.grew;
    formed = (first_good _ _ _ _ e p.formed).rest;
    keeps = p.keeps;
    rest = λ a m. (clause_true a m).1;
    progress = progress_hold moved p.progress f;
  }

  -- a clause forces a literal
  pub passing_force : (u : State) (w : ℕ) → named (length (cells_of t)) w ≡ true → look (cells_of t) w ≡ None
      → ((a : ℕ → Bool) → Extends (cells_of t) a → clause a c ≡ lit a w) → Grew t u → cells_of u ≡ assigned (cells_of t) w
      → Passing ws next s u true
  passing_force u w n o f g cs = record {
    grew = grew_trans s t u p.grew g;
    formed = ap (λ k. goods k next) g.size ∙ (first_good _ _ _ _ e p.formed).rest;
    keeps = λ a x m.
        let y = p.keeps a x m in
        let P : List (Option Bool) → Type 0 = λ xs. Extends xs a in
        subst P (sym cs) (extend_assigned (cells_of t) w a n (sym (f a y) ∙ (clause_true a m).0) y);
    rest = λ a m. (clause_true a m).1;
    progress = omega (arith, p.grew.fewer, ap open_count cs, count_assigned (cells_of t) w n o);
  }

pub passing_quiet : (ws : List ℕ) (left : List (List ℕ)) (s t : State) → left ≡ [] → Passing ws left s t false → Settled ws t
passing_quiet ws left s t e p = λ z. p.progress z ∙ ap (clauses (told (bits (cells_of t)))) e
