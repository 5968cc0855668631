-- Variables that are marked. Assumes nothing.
use Rattle.std.proofs.Common.{◌≡◌, ℕ, ◌-◌, Bool, true, false, ◌||◌, List, [], ◌∷◌, length, get_or, drop, sym, ap, ◌∙◌}
use Rattle.std.proofs.Math.Bool.{or-false, or_assoc}
use Rattle.cnf.specs.Truth.{inside}
use Rattle.cnf.specs.Words.{goods}
use Rattle.cnf.proofs.Reading.{first_good}
use Rattle.classes.specs.Renumber.{mentions, occurs}

-- the literals from i on are still to be marked
pub record Joining (body : List ℕ) (marks here : List Bool) (i : ℕ) : Type 0 where
  pub size : length here ≡ length marks
  pub named-left : inside (length marks - 1) (drop i body) ≡ true
  pub left : (v : ℕ) → (get_or here v false || mentions (drop i body) v) ≡ (get_or marks v false || mentions body v)

-- the clauses of `all` are marked, but for those that are left
pub record JoiningAll (all left : List (List ℕ)) (marks here : List Bool) : Type 0 where
  pub size : length here ≡ length marks
  pub good : goods (length marks - 1) left ≡ true
  pub rest : (v : ℕ) → (get_or here v false || occurs left v) ≡ (get_or marks v false || occurs all v)

pub joining_all_more : (all left rest : List (List ℕ)) (c : List ℕ) (marks here after : List Bool) → left ≡ c ∷ rest → JoiningAll all left marks here → length after ≡ length here
    → ((v : ℕ) → get_or after v false ≡ (get_or here v false || mentions c v)) → JoiningAll all rest marks after
joining_all_more all left rest c marks here after e w l h = record {
  size = l ∙ w.size;
  good = (first_good (length marks - 1) left rest c e w.good).rest;
  rest = λ v. ap (λ b. b || occurs rest v) (h v) ∙ or_assoc (get_or here v false) (mentions c v) (occurs rest v)
      ∙ ap (λ cs. get_or here v false || occurs cs v) (sym e) ∙ w.rest v;
}

pub joining_all_done : (all left : List (List ℕ)) (marks here : List Bool) → left ≡ [] → JoiningAll all left marks here
    → (v : ℕ) → get_or here v false ≡ (get_or marks v false || occurs all v)
joining_all_done all left marks here e w v = sym (or-false (get_or here v false)) ∙ ap (λ cs. get_or here v false || occurs cs v) (sym e) ∙ w.rest v
