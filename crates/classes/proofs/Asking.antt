-- What a solver answers, by what it keeps. Assumes nothing.
use Rattle.std.proofs.Common.{◌≡◌, ℕ, zero, suc, ◌+◌, ◌*◌, ◌/◌, ◌%◌, ◌<◌, ◌≤◌, Bool, true, false, cond, not, ◌&&◌, leb, List, [], ◌∷◌, length, Some, None, Ok, Err, Option, Result, sym, refl, ap, ◌∙◌, inl, inr, arith}
use mathlib.Core.Bool.{beq}
use Rattle.std.proofs.lemmas.List.{get_or_past}
use Rattle.std.specs.Result.{result_unwrap_or}
use Rattle.std.proofs.lemmas.Bool.{cases_eq, cases_lt, le-leb, eq-eqb, ne_eqb, and_from}
use Rattle.faults.specs.declared.SolverFault.{SolverFault}
use Rattle.faults.specs.declared.SolverFault.TheVariants.{NoVariable}
use Rattle.cnf.specs.Truth.{told, lit, opp, named, inside}
use Rattle.cnf.specs.Words.{read, well}
use Rattle.cnf.proofs.Tables.{lit-opp}
use Rattle.solver.specs.Search.{Answered, NoneFound, accepts, every, placed, valued}
use Rattle.classes.specs.Classes.{held, Asked, Differs}

pub asked : (m : ℕ) (ws assumed : List ℕ) (b : Bool) (kept : Option (List Bool)) → Answered m ws assumed b kept → Asked m ws assumed kept b
asked m ws assumed true None h = absurd h
asked m ws assumed true (Some bits) h = record { keeps = h.size; model = h.model; agrees = h.agrees }
asked m ws assumed false None h = h
asked m ws assumed false (Some bits) h = absurd h

abbrev or_false : Result Bool SolverFault → Bool
or_false r = result_unwrap_or r false

placed_bit : (bits : List Bool) (v : ℕ) → or_false (cond (placed bits v) (Ok (told bits v)) (Err NoVariable)) ≡ told bits v
placed_bit bits zero = refl
placed_bit bits (suc v) = elim (cases_lt (length bits) (suc v)) [ inl l ↦ beyond l | inr l ↦ within l ]
  where
    by : (b : Bool) → placed bits (suc v) ≡ b → or_false (cond (placed bits (suc v)) (Ok (told bits (suc v))) (Err NoVariable)) ≡ or_false (cond b (Ok (told bits (suc v))) (Err NoVariable))
    by b e = ap (λ x. or_false (cond x (Ok (told bits (suc v))) (Err NoVariable))) e

    within : suc v ≤ length bits → or_false (cond (placed bits (suc v)) (Ok (told bits (suc v))) (Err NoVariable)) ≡ told bits (suc v)
    within l = by true (ap (λ b. b && leb (suc v) (length bits)) (le-leb 1 (suc v) (omega arith)) ∙ le-leb (suc v) (length bits) l)

    beyond : length bits < suc v → or_false (cond (placed bits (suc v)) (Ok (told bits (suc v))) (Err NoVariable)) ≡ told bits (suc v)
    beyond l =
        let z = get_or_past bits v false (omega arith) in
        elim (placed bits (suc v)) as (λ b. or_false (cond b (Ok (told bits (suc v))) (Err NoVariable)) ≡ told bits (suc v)) [ true ↦ refl | false ↦ sym z ]

valued_bit : (kept : Option (List Bool)) (v : ℕ) → result_unwrap_or (valued kept v) false ≡ held kept v
valued_bit None v = refl
valued_bit (Some bits) v = placed_bit bits v

-- the bit that is read is the value of the literal, or its opposite
module _ (kept : Option (List Bool)) (v code : ℕ) (r : Result Bool SolverFault) (b : Bool) (p : v ≡ code / 2) (q : r ≡ valued kept v) (e : b ≡ result_unwrap_or r false) where
  bit_is : b ≡ held kept (code / 2)
  bit_is = e ∙ ap (λ x. result_unwrap_or x false) q ∙ valued_bit kept v ∙ ap (held kept) p

  pub look_even : code % 2 ≡ 0 → b ≡ lit (held kept) code
  look_even z = bit_is ∙ sym (ap (λ x. cond x (held kept (code / 2)) (not (held kept (code / 2)))) (eq-eqb (code % 2) 0 z))

  pub look_odd : (code % 2 ≡ 0 → ⊥) → not b ≡ lit (held kept) code
  look_odd z = ap not bit_is ∙ sym (ap (λ x. cond x (held kept (code / 2)) (not (held kept (code / 2)))) (ne_eqb (code % 2) 0 z))

-- a search that is accepted
module _ (most m : ℕ) (ws : List ℕ) (l : m ≤ most) (w : well m ws ≡ true) where
  accepted : (assumed : List ℕ) → length assumed ≤ 8 → inside m assumed ≡ true → accepts most m ws assumed ≡ true
  accepted assumed k h = and_from _ _ (le-leb m most l) (and_from _ _ w (and_from _ _ (le-leb (length assumed) 8 k) h))

  named_from : (c : ℕ) → 2 ≤ c → c ≤ 2 * m + 1 → named m c ≡ true
  named_from c i j = and_from _ _ (le-leb 2 c i) (le-leb c (2 * m + 1) j)

  pub accepts-none : accepts most m ws [] ≡ true
  accepts-none = accepted [] (omega arith) refl

  pub accepts-one : (c : ℕ) → 2 ≤ c → c ≤ 2 * m + 1 → accepts most m ws (c ∷ []) ≡ true
  accepts-one c i j = accepted (c ∷ []) (omega arith) (and_from _ _ (named_from c i j) refl)

  pub accepts_two : (c d : ℕ) → 2 ≤ c → c ≤ 2 * m + 1 → 2 ≤ d → d ≤ 2 * m + 1 → accepts most m ws (c ∷ d ∷ []) ≡ true
  accepts_two c d i j k h = accepted (c ∷ d ∷ []) (omega arith) (and_from _ _ (named_from c i j) (and_from _ _ (named_from d k h) refl))

-- two values of which the one or the other is the true one
apart_first : (x y : Bool) → (x && (not y && true)) ≡ true → beq x y ≡ false
apart_first true true e = sym e
apart_first true false e = refl
apart_first false true e = refl
apart_first false false e = sym e

apart_second : (x y : Bool) → (not x && (y && true)) ≡ true → beq x y ≡ false
apart_second true true e = sym e
apart_second true false e = refl
apart_second false true e = refl
apart_second false false e = sym e

same_both : (x y : Bool) → ((x && (not y && true)) ≡ true → ⊥) → ((not x && (y && true)) ≡ true → ⊥) → x ≡ y
same_both true true f g = refl
same_both true false f g = absurd (f refl)
same_both false true f g = absurd (g refl)
same_both false false f g = refl

-- the literal of a variable that is true where the variable is not the constant
constant_apart : (a : ℕ → Bool) (v old : ℕ) → a 0 ≡ false → old < 2 → lit a (2 * v + old) ≡ not (beq (lit a (2 * v)) (lit a old))
constant_apart a v old z l =
    elim (cases_eq old 0) [
      | inl e ↦
          (let q : 2 * v + old ≡ 2 * v = omega arith in
          ap (lit a) q ∙ twice (lit a (2 * v)) ∙ ap (λ b. not (beq (lit a (2 * v)) b)) (sym (ap (lit a) e ∙ z)))
      | inr n ↦
          (let q : 2 * v + old ≡ opp (2 * v) = omega arith in
          let e : old ≡ 1 = omega arith in
          ap (lit a) q ∙ lit-opp a (2 * v) ∙ once (lit a (2 * v)) ∙ ap (λ b. not (beq (lit a (2 * v)) b)) (sym (ap (lit a) e ∙ ap not z)))
    ]
  where
    twice : (b : Bool) → b ≡ not (beq b false)
    twice true = refl
    twice false = refl

    once : (b : Bool) → not b ≡ not (beq b true)
    once true = refl
    once false = refl

differs : (b : Bool) → (not b && true) ≡ true → b ≡ false
differs true e = sym e
differs false e = refl

beq_equal : (x y : Bool) → ((not (beq x y) && true) ≡ true → ⊥) → x ≡ y
beq_equal true true f = refl
beq_equal true false f = absurd (f refl)
beq_equal false true f = absurd (f refl)
beq_equal false false f = refl

module _ (m v old : ℕ) (ws : List ℕ) (kept : Option (List Bool)) where
  -- the search with a constant
  pub differs_constant : old < 2 → (b : Bool) → Asked m ws ((2 * v + old) ∷ []) kept b → Differs m (read ws) (2 * v) old kept b
  differs_constant l true h =
      let z = h.model.constant in
      (h.keeps, record { model = h.model; apart = differs _ (ap (λ b. b && true) (sym (constant_apart (held kept) v old z l)) ∙ h.agrees) })
  differs_constant l false f = λ a x. beq_equal (lit a (2 * v)) (lit a old) (λ e. f a x (ap (λ b. b && true) (constant_apart a v old x.constant l) ∙ e))

  -- both searches with a literal
  module _ (c d : ℕ) (p : c ≡ opp old) (q : d ≡ opp (2 * v)) where
    first_is : (a : ℕ → Bool) → every a (2 * v ∷ c ∷ []) ≡ (lit a (2 * v) && (not (lit a old) && true))
    first_is a = ap (λ b. lit a (2 * v) && (b && true)) (ap (lit a) p ∙ lit-opp a old)

    second_is : (a : ℕ → Bool) → every a (d ∷ old ∷ []) ≡ (not (lit a (2 * v)) && (lit a old && true))
    second_is a = ap (λ b. b && (lit a old && true)) (ap (lit a) q ∙ lit-opp a (2 * v))

    pub differs_first : Asked m ws (2 * v ∷ c ∷ []) kept true → Differs m (read ws) (2 * v) old kept true
    differs_first h = (h.keeps, record { model = h.model; apart = apart_first (lit (held kept) (2 * v)) (lit (held kept) old) (sym (first_is (held kept)) ∙ h.agrees) })

    pub differs_second : NoneFound ws (2 * v ∷ c ∷ []) → (b : Bool) → Asked m ws (d ∷ old ∷ []) kept b → Differs m (read ws) (2 * v) old kept b
    differs_second f true h = (h.keeps, record { model = h.model; apart = apart_second (lit (held kept) (2 * v)) (lit (held kept) old) (sym (second_is (held kept)) ∙ h.agrees) })
    differs_second f false g = λ a x. same_both (lit a (2 * v)) (lit a old) (λ e. f a x (first_is a ∙ e)) (λ e. g a x (second_is a ∙ e))
