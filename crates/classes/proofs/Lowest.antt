-- The lowest equal literals are the representatives of a sweep. Assumes nothing.
use Rattle.std.proofs.Common.{◌≡◌, ℕ, ◌+◌, ◌*◌, ◌/◌, ◌%◌, ◌<◌, ◌≤◌, Bool, true, false, cond, not, eqb, List, sym, refl, ap, ◌∙◌, ⊎_elim, arith}
use Rattle.std.proofs.lemmas.Bool.{both_ways, cases_Bool, cases_eq, cases_lt}
use Rattle.std.proofs.lemmas.Bool.Decides.{nat_tests}
use Rattle.cnf.specs.Truth.{lit, opp, Model, Equal, Backbone}
use Rattle.cnf.specs.Words.{goods}
use Rattle.cnf.specs.Table.{turn}
use Rattle.cnf.specs.Finite.{is_equal, lowest}
use Rattle.cnf.proofs.Tables.{lit-opp, lit_turn}
use Rattle.cnf.proofs.Counting.{equal_means}
use Rattle.cnf.proofs.Entries.{turn_even, turn_var}
use Rattle.classes.specs.Renumber.{occurs}
use Rattle.classes.specs.Lowest.{LowestMeans}
use Rattle.classes.proofs.Renumbering.{first_hits, first_least, first_most, free, not_same}

-- two codes of one variable with one value are one
one_code : (a : ℕ → Bool) (c d : ℕ) → c / 2 ≡ d / 2 → lit a c ≡ lit a d → c ≡ d
one_code a c d h e =
    ⊎_elim
    (λ (p : c % 2 ≡ d % 2). omega arith)
    (λ (p : c % 2 ≡ d % 2 → ⊥). let q : c ≡ opp d = omega arith in absurd (not_same (lit a d) (sym e ∙ ap (lit a) q ∙ lit-opp a d)))
    (cases_eq (c % 2) (d % 2))

-- turned by one literal, equal literals are equal
lit-turns : (a : ℕ → Bool) (c d e : ℕ) → lit a c ≡ lit a d → lit a (turn c e) ≡ lit a (turn d e)
lit-turns a c d e h = lit_turn a c e ∙ ap (λ x. cond (eqb (e % 2) 0) x (not x)) h ∙ sym (lit_turn a d e)

-- a literal is its variable, turned by it
own_turned : (c : ℕ) → turn (2 * (c / 2)) c ≡ c
own_turned c = grind (arith, nat_tests)

turn_back : (c : ℕ) → turn c c ≡ 2 * (c / 2)
turn_back c = grind (arith, nat_tests)

pub lowest-low : (n : ℕ) (cs : List (List ℕ)) (v : ℕ) → lowest n cs v ≤ 2 * v
lowest-low n cs v = omega (arith, first_most (is_equal n cs (2 * v)) 0 (2 * v))

module _ (n : ℕ) (cs : List (List ℕ)) (good : goods n cs ≡ true) where
  pub lowest_equal : (v : ℕ) → v ≤ n → Equal cs (2 * v) (lowest n cs v)
  lowest_equal v h =
      let p : ℕ → Bool = is_equal n cs (2 * v) in
      let z : 0 + 2 * v ≡ 2 * v = omega arith in
      let l = lowest-low n cs v in
      (equal_means n cs (2 * v) (lowest n cs v) good (omega arith) (omega arith)).0
      (first_hits p 0 (2 * v) (ap p z ∙ (equal_means n cs (2 * v) (2 * v) good (omega arith) (omega arith)).1 (λ _ _. refl)))

  pub lowest_least : (v c : ℕ) → v ≤ n → c / 2 ≤ n → Equal cs (2 * v) c → lowest n cs v ≤ c
  lowest_least v c h k e =
      ⊎_elim
      (λ (l : c < lowest n cs v).
      absurd (both_ways _ (first_least (is_equal n cs (2 * v)) 0 (2 * v) c (omega arith) l) ((equal_means n cs (2 * v) c good (omega arith) k).1 e)))
      (λ (l : lowest n cs v ≤ c). l) (cases_lt c (lowest n cs v))

  -- the same for any literal
  abbrev low : ℕ → ℕ
  low c = turn (lowest n cs (c / 2)) c

  low_equal : (c : ℕ) → c / 2 ≤ n → Equal cs c (low c)
  low_equal c h a x = ap (lit a) (sym (own_turned c)) ∙ lit-turns a (2 * (c / 2)) (lowest n cs (c / 2)) c (lowest_equal (c / 2) h a x)

  low_least : (c d : ℕ) → c / 2 ≤ n → d / 2 ≤ n → Equal cs c d → low c / 2 ≤ d / 2
  low_least c d h k e =
      let p = turn_var (lowest n cs (c / 2)) c in
      let q = turn_var d c in
      let l = lowest_least (c / 2) (turn d c) h (omega arith) (λ a x. ap (lit a) (sym (turn_back c)) ∙ lit-turns a c d c (e a x)) in
      omega arith

  low-inside : (c : ℕ) → c / 2 ≤ n → low c / 2 ≤ n
  low-inside c h = omega (arith, turn_var (lowest n cs (c / 2)) c, lowest-low n cs (c / 2))

  module _ (g : ℕ → Bool) (m : Model cs g) where
    pub lowest_true : (v : ℕ) → v ≤ n → Backbone cs (2 * v) → lowest n cs v ≡ 1
    lowest_true v h b =
        let l = lowest_least v 1 h (omega arith) (λ a x. b a x ∙ sym (ap not x.constant)) in
        ⊎_elim
        (λ (z : lowest n cs v ≡ 0). absurd (both_ways _ (lowest_equal v h g m ∙ ap (lit g) z ∙ m.constant) (b g m)))
        (λ (z : lowest n cs v ≡ 0 → ⊥). omega arith) (cases_eq (lowest n cs v) 0)

    pub lowest_false : (v : ℕ) → v ≤ n → Backbone cs (2 * v + 1) → lowest n cs v ≡ 0
    lowest_false v h b =
        let q : opp (2 * v) ≡ 2 * v + 1 = omega arith in
        let f : Equal cs (2 * v) 0 = λ a x. off (lit a (2 * v)) (sym (lit-opp a (2 * v)) ∙ ap (lit a) q ∙ b a x) ∙ sym x.constant in
        omega (arith, lowest_least v 0 h (omega arith) f)
      where
        off : (b : Bool) → not b ≡ true → b ≡ false
        off true e = sym e
        off false e = refl

    pub lowest_present : (v : ℕ) → v ≤ n → occurs cs v ≡ true → 2 ≤ lowest n cs v → occurs cs (lowest n cs v / 2) ≡ true
    lowest_present v h o l =
        ⊎_elim
        (λ y. y)
        (λ (y : occurs cs (lowest n cs v / 2) ≡ false).
        absurd (free cs g m (2 * v) (lowest n cs v) y (λ z. omega arith) (λ q. let i : v ≡ lowest n cs v / 2 = omega arith in both_ways _ y (ap (occurs cs) (sym i) ∙ o)) (lowest_equal v h)))
        (cases_Bool (occurs cs (lowest n cs v / 2)))

    pub lowest_absent : (v : ℕ) → v ≤ n → occurs cs v ≡ false → lowest n cs v ≡ 2 * v
    lowest_absent v h o =
        let l = lowest-low n cs v in
        let z : 2 * v / 2 ≡ v = omega arith in
        ⊎_elim
        (λ (k : lowest n cs v < 2 * v).
        absurd (free cs g m (lowest n cs v) (2 * v) (ap (occurs cs) z ∙ o) (λ q. omega arith) (λ q. omega arith) (λ a x. sym (lowest_equal v h a x))))
        (λ (k : 2 * v ≤ lowest n cs v). omega arith) (cases_lt (lowest n cs v) (2 * v))

    pub lowest_same : (c d : ℕ) → c / 2 ≤ n → d / 2 ≤ n → Equal cs c d → low c ≡ low d
    lowest_same c d h k e =
        let p = low_least c (low d) h (low-inside d k) (λ a x. e a x ∙ low_equal d k a x) in
        let q = low_least d (low c) k (low-inside c h) (λ a x. sym (e a x) ∙ low_equal c h a x) in
        one_code g (low c) (low d) (omega arith) (sym (low_equal c h g m) ∙ e g m ∙ low_equal d k g m)

    pub lowest_itself : (v : ℕ) → v ≤ n → low (lowest n cs v) ≡ lowest n cs v
    lowest_itself v h =
        let l = lowest-low n cs v in
        let z : 2 * v / 2 ≡ v = omega arith in
        sym (lowest_same (2 * v) (lowest n cs v) (omega arith) (omega arith) (lowest_equal v h)) ∙ turn_even _ (2 * v) (omega arith) ∙ ap (lowest n cs) z

pub lowest_means : LowestMeans
lowest_means n cs good s =
    let g = s.by in
    let m = s.model in
    record {
      true_backbone = lowest_true n cs good g m;
      false_backbone = lowest_false n cs good g m;
      equal = lowest_equal n cs good;
      least = λ v c h k e. let l = lowest_least n cs good v c h k e in omega arith;
      present = lowest_present n cs good g m;
      absent = lowest_absent n cs good g m;
      same = lowest_same n cs good g m;
      itself = lowest_itself n cs good g m;
      low = lowest-low n cs;
    }
