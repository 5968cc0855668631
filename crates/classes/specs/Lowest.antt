-- The lowest equal literals of a set with a model. Assumes nothing.
use Rattle.std.specs.Prelude.{◌≡◌, ℕ, ◌+◌, ◌*◌, ◌/◌, ◌≤◌, true, false, List}
use Rattle.cnf.specs.Truth.{Equal, Backbone}
use Rattle.cnf.specs.Words.{goods}
use Rattle.cnf.specs.Table.{turn}
use Rattle.cnf.specs.Finite.{lowest}
use Rattle.classes.specs.Renumber.{occurs}
use Rattle.classes.specs.Classes.{Satisfied}

-- the lowest equal literals are the representatives that the rule of a sweep gives
pub record Lowers (n : ℕ) (cs : List (List ℕ)) : Type 0 where
  -- the constant if the variable or its opposite is a backbone
  pub true_backbone : (v : ℕ) → v ≤ n → Backbone cs (2 * v) → lowest n cs v ≡ 1
  pub false_backbone : (v : ℕ) → v ≤ n → Backbone cs (2 * v + 1) → lowest n cs v ≡ 0
  -- it equals the variable
  pub equal : (v : ℕ) → v ≤ n → Equal cs (2 * v) (lowest n cs v)
  -- no literal of a lower variable does
  pub least : (v c : ℕ) → v ≤ n → c / 2 ≤ n → Equal cs (2 * v) c → lowest n cs v / 2 ≤ c / 2
  -- unless it is a constant, it is of a variable of the set
  pub present : (v : ℕ) → v ≤ n → occurs cs v ≡ true → 2 ≤ lowest n cs v → occurs cs (lowest n cs v / 2) ≡ true
  -- a variable that does not occur has only itself
  pub absent : (v : ℕ) → v ≤ n → occurs cs v ≡ false → lowest n cs v ≡ 2 * v
  -- equal literals have one
  pub same : (c d : ℕ) → c / 2 ≤ n → d / 2 ≤ n → Equal cs c d → turn (lowest n cs (c / 2)) c ≡ turn (lowest n cs (d / 2)) d
  -- which has itself
  pub itself : (v : ℕ) → v ≤ n → turn (lowest n cs (lowest n cs v / 2)) (lowest n cs v) ≡ lowest n cs v
  pub low : (v : ℕ) → lowest n cs v ≤ 2 * v

abbrev pub LowestMeans : Type 0
LowestMeans = (n : ℕ) (cs : List (List ℕ)) → goods n cs ≡ true → Satisfied cs → Lowers n cs
