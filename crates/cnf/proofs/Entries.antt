-- A table's facts by its entries, and the table in which each literal represents itself. Assumes nothing.
use Rattle.std.proofs.Common.{◌≡◌, ℕ, zero, suc, ◌+◌, ◌-◌, ◌*◌, ◌/◌, ◌%◌, ◌<◌, ◌≤◌, Bool, true, false, cond, eqb, List, length, get_or, Some, None, Option, unwrap_or, sym, refl, ap, ◌∙◌, inl, inr, arith, Bor}
use Rattle.std.specs.Option.{option_map}
use Rattle.std.specs.Slice.{IsGetResult}
use Rattle.std.proofs.lemmas.List.{get_or_past, get_or_read}
use Rattle.std.proofs.lemmas.Bool.{cases_eq, eq-eqb, ne_eqb}
use Rattle.cnf.specs.Truth.{opp, told}
use Rattle.cnf.specs.Table.{turn, rep, Tabled, fresh_from, fresh}

-- what a look-up with a default gives
pub item_or : {X : Type 0} (xs : List X) (i : ℕ) (d : X) (r : Option (Bor X)) → IsGetResult xs i i r → unwrap_or (option_map (λ x. x.now) r) d ≡ get_or xs i d
item_or xs i d None h = sym (get_or_past xs i d h.3)
item_or xs i d (Some x) h = get_or_read xs i x.now h.3.0 h.1 d

-- the bit of a variable that is no constant
pub told_past : (bits : List Bool) (v : ℕ) → 0 < v → told bits v ≡ get_or bits (v - 1) false
told_past bits zero h = absurd (omega arith)
told_past bits (suc v) h = let e : v ≡ suc v - 1 = omega arith in ap (λ i. get_or bits i false) e

pub turn_even : (d c : ℕ) → c % 2 ≡ 0 → turn d c ≡ d
turn_even d c h = ap (λ b. cond b d (opp d)) (eq-eqb (c % 2) 0 h)

pub turn_odd : (d c : ℕ) → c % 2 ≡ 1 → turn d c ≡ opp d
turn_odd d c h = ap (λ b. cond b d (opp d)) (ne_eqb (c % 2) 0 (λ e. omega arith))

pub turn_var : (d c : ℕ) → turn d c / 2 ≡ d / 2
turn_var d c = elim (eqb (c % 2) 0) as (λ b. cond b d (opp d) / 2 ≡ d / 2) [ true ↦ refl | false ↦ omega arith ]

pub turn-opp : (d c : ℕ) → turn d (opp c) ≡ opp (turn d c)
turn-opp d c =
    elim (cases_eq (c % 2) 0) [
      | inl e ↦ turn_odd d (opp c) (omega arith) ∙ ap opp (sym (turn_even d c e))
      | inr n ↦
          (let x : d ≡ opp (opp d) = omega arith in
          turn_even d (opp c) (omega arith) ∙ x ∙ ap opp (sym (turn_odd d c (omega arith))))
    ]

pub rep-opp : (t : List ℕ) (c : ℕ) → rep t (opp c) ≡ opp (rep t c)
rep-opp t c =
    let e : opp c / 2 ≡ c / 2 = omega arith in
    ap (λ v. turn (get_or t v 0) (opp c)) e ∙ turn-opp (get_or t (c / 2) 0) c

pub rep_even : (t : List ℕ) (v : ℕ) → rep t (2 * v) ≡ get_or t v 0
rep_even t v =
    let e : 2 * v / 2 ≡ v = omega arith in
    turn_even (get_or t (2 * v / 2) 0) (2 * v) (omega arith) ∙ ap (λ i. get_or t i 0) e

-- the facts of a table, said of its entries
pub record Entrywise (t : List ℕ) : Type 0 where
  pub constant : get_or t 0 0 ≡ 0
  pub low : (v : ℕ) → v < length t → get_or t v 0 / 2 ≤ v
  pub own : (v : ℕ) → v < length t → rep t (get_or t v 0) ≡ get_or t v 0

-- what a table makes of a literal that its entry represents
rep_turn : (t : List ℕ) (d c : ℕ) → rep t d ≡ d → rep t (turn d c) ≡ turn d c
rep_turn t d c e = elim (eqb (c % 2) 0) as (λ b. rep t (cond b d (opp d)) ≡ cond b d (opp d)) [ true ↦ e | false ↦ rep-opp t d ∙ ap opp e ]

pub tabled_from_entries : (t : List ℕ) → Entrywise t → Tabled t
tabled_from_entries t w = record { constants = constants; opposites = rep-opp t; lower = lower; itself = itself }
  where
    constants : (c : ℕ) → c < 2 → rep t c ≡ c
    constants c h =
        let z : c / 2 ≡ 0 = omega arith in
        let e : get_or t (c / 2) 0 ≡ 0 = ap (λ v. get_or t v 0) z ∙ w.constant in
        elim (cases_eq (c % 2) 0) [
          | inl p ↦ turn_even (get_or t (c / 2) 0) c p ∙ omega arith
          | inr p ↦ turn_odd (get_or t (c / 2) 0) c (omega arith) ∙ omega arith
        ]

    lower : (c : ℕ) → c / 2 < length t → rep t c / 2 ≤ c / 2
    lower c h = omega (arith, turn_var (get_or t (c / 2) 0) c, w.low (c / 2) h)

    itself : (c : ℕ) → c / 2 < length t → rep t (rep t c) ≡ rep t c
    itself c h = rep_turn t (get_or t (c / 2) 0) c (w.own (c / 2) h)

pub entries_from_tabled : (t : List ℕ) → Tabled t → Entrywise t
entries_from_tabled t w = record { constant = w.constants 0 (omega arith); low = low; own = own }
  where
    low : (v : ℕ) → v < length t → get_or t v 0 / 2 ≤ v
    low v h = omega (arith, w.lower (2 * v) (omega arith), rep_even t v)

    own : (v : ℕ) → v < length t → rep t (get_or t v 0) ≡ get_or t v 0
    own v h = ap (rep t) (sym (rep_even t v)) ∙ w.itself (2 * v) (omega arith) ∙ rep_even t v

-- each literal represents itself
pub fresh-length : (u k : ℕ) → length (fresh_from u k) ≡ k
fresh-length u zero = refl
fresh-length u (suc k) = ap suc (fresh-length (u + 1) k)

pub fresh_entry : (u k v : ℕ) → v < k → get_or (fresh_from u k) v 0 ≡ 2 * (u + v)
fresh_entry u zero v h = absurd (omega arith)
fresh_entry u (suc k) zero h = omega arith
fresh_entry u (suc k) (suc v) h = omega (arith, fresh_entry (u + 1) k v (omega arith))

pub fresh_tabled : (n : ℕ) → Tabled (fresh n)
fresh_tabled n = tabled_from_entries (fresh n) (record { constant = fresh_entry 0 (n + 1) 0 (omega arith); low = low; own = own })
  where
    at : (v : ℕ) → v < length (fresh n) → get_or (fresh n) v 0 ≡ 2 * v
    at v h = omega (arith, fresh_entry 0 (n + 1) v (omega (arith, fresh-length 0 (n + 1))))

    low : (v : ℕ) → v < length (fresh n) → get_or (fresh n) v 0 / 2 ≤ v
    low v h = omega (arith, at v h)

    own : (v : ℕ) → v < length (fresh n) → rep (fresh n) (get_or (fresh n) v 0) ≡ get_or (fresh n) v 0
    own v h = ap (rep (fresh n)) (at v h) ∙ rep_even (fresh n) v
