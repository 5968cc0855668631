-- Partial assignments. Assumes nothing.
use Rattle.std.proofs.Common.{◌≡◌, ℕ, zero, suc, ◌+◌, ◌*◌, ◌/◌, ◌%◌, ◌<◌, ◌≤◌, Bool, true, false, cond, not, eqb, leb, List, [], ◌∷◌, ◌++◌, Option, Some, None, length, get_or, drop, set, sym, refl, ap, ◌∙◌, subst, ⊎_elim, arith}
use Rattle.std.proofs.lemmas.List.{set-set, set-get_or, get_or-set_same, get_or-set_other, length-set, at_drop_more}
use Rattle.std.specs.List.{position, position_or_len}
use Rattle.std.proofs.lemmas.List.Sums.{sum_by-cons, sum_by-set, fails_before_first}
use Rattle.std.proofs.lemmas.List.Quantifiers.{position-Some}
use Rattle.std.proofs.lemmas.Bool.Decides.{nat_tests}
use Rattle.std.specs.Option.{is_none}
use Rattle.std.proofs.lemmas.Bool.{cases_eq, cases_lt, and_parts, and_from, leb-true, le-leb}
use Rattle.cnf.specs.Truth.{told, lit, named, inside}
use Rattle.search.specs.Cells.{Fits, opposed, place_of, look, Extends, open_count, bits, made, assigned, restored}

-- what a code of one of m variables is
named_bounds : (m w : ℕ) → named m w ≡ true → (2 ≤ w) × (w ≤ 2 * m + 1)
named_bounds m w e = let p = and_parts _ _ e in (leb-true 2 w p.0, leb-true w (2 * m + 1) p.1)

pub named_from : (m w : ℕ) → 2 ≤ w → w ≤ 2 * m + 1 → named m w ≡ true
named_from m w a b = and_from (leb 2 w) (leb w (2 * m + 1)) (le-leb 2 w a) (le-leb w (2 * m + 1) b)

-- a row of codes from a place on
pub named_at : (m : ℕ) (ws : List ℕ) (i : ℕ) → i < length ws → inside m (drop i ws) ≡ true → (named m (get_or ws i 0) ≡ true) × (inside m (drop (i + 1) ws) ≡ true)
named_at m ws i h e = and_parts (named m (get_or ws i 0)) (inside m (drop (i + 1) ws)) (sym (at_drop_more (inside m) ws i 0 h) ∙ e)

pub place_within : (m w : ℕ) → named m w ≡ true → place_of w < m
place_within m w e = let b = named_bounds m w e in omega arith

-- the place after a code's is that of its variable among all, the constant's first
variable_is : (m w : ℕ) → named m w ≡ true → suc (place_of w) ≡ w / 2
variable_is m w e = let b = named_bounds m w e in omega arith

-- the sign of a literal turns a cell and a bit alike
signed_fits : (t : Bool) (x : Option Bool) (b : Bool) → Fits x b → Fits (cond t x (opposed x)) (cond t b (not b))
signed_fits true x b h = h
signed_fits false None b h = tt
signed_fits false (Some y) b h = ap not h

module _ (c : List (Option Bool)) (a : ℕ → Bool) (w : ℕ) (n : named (length c) w ≡ true) where
  look-fits : Extends c a → Fits (look c w) (lit a w)
  unfolding look
  look-fits e =
      let P : ℕ → Type 0 = λ v. Fits (get_or c (place_of w) None) (a v) in
      signed_fits (eqb (w % 2) 0) (get_or c (place_of w) None) (a (w / 2)) (subst P (variable_is (length c) w n) (e.fits (place_of w)))

  pub lit_true : Some true ≡ look c w → Extends c a → lit a w ≡ true
  lit_true l e = let P : Option Bool → Type 0 = λ x. Fits x (lit a w) in subst P (sym l) (look-fits e)

  pub lit_false : Some false ≡ look c w → Extends c a → lit a w ≡ false
  lit_false l e = let P : Option Bool → Type 0 = λ x. Fits x (lit a w) in subst P (sym l) (look-fits e)

-- a literal is open where its variable is
opposed_open : (x : Option Bool) → opposed x ≡ None → x ≡ None
opposed_open None e = refl
opposed_open (Some y) e = cc

sign_open : (t : Bool) (x : Option Bool) → cond t x (opposed x) ≡ None → x ≡ None
sign_open true x e = e
sign_open false x e = opposed_open x e

pub look_open : (c : List (Option Bool)) (w : ℕ) → look c w ≡ None → get_or c (place_of w) None ≡ None
unfolding look
look_open c w e = sign_open (eqb (w % 2) 0) (get_or c (place_of w) None) e

open_sign : (t : Bool) (x : Option Bool) → x ≡ None → cond t x (opposed x) ≡ None
open_sign true x e = e
open_sign false x e = ap opposed e

pub open_look : (c : List (Option Bool)) (w : ℕ) → get_or c (place_of w) None ≡ None → look c w ≡ None
unfolding look
open_look c w e = open_sign (eqb (w % 2) 0) (get_or c (place_of w) None) e

-- how many are open once a cell is set
count_set : (c : List (Option Bool)) (i : ℕ) (x : Option Bool) → i < length c → open_count (set c i x) + cond (is_none (get_or c i None)) 1 0 ≡ open_count c + cond (is_none x) 1 0
count_set c i x h = sum_by-set (λ y. cond (is_none y) 1 0) c i x None h

pub count_open : (c : List (Option Bool)) (i : ℕ) → i < length c → get_or c i None ≡ None → 0 < open_count c
count_open c i h e = omega (arith, count_set c i (Some true) h, ap {B = ℕ} (λ y. cond (is_none y) 1 0) e)

pub count_assigned : (c : List (Option Bool)) (w : ℕ) → named (length c) w ≡ true → look c w ≡ None → open_count (assigned c w) + 1 ≡ open_count c
unfolding assigned
count_assigned c w n o =
    omega (arith, count_set c (place_of w) (made w) (place_within (length c) w n), ap {B = ℕ} (λ y. cond (is_none y) 1 0) (look_open c w o))

-- the first open place
shut : (x : Option Bool) (n : ℕ) → is_none x ≡ false → cond (is_none x) 1 0 + n ≡ n
shut None n e = cc
shut (Some y) n e = omega arith

none_open : (c : List (Option Bool)) → ((k : ℕ) → k < length c → is_none (get_or c k None) ≡ false) → open_count c ≡ 0
none_open [] f = refl
none_open (x ∷ c) f = sum_by-cons (λ y. cond (is_none y) 1 0) x c ∙ shut x (open_count c) (f 0 (omega arith)) ∙ none_open c (λ k h. f (suc k) (omega arith))

open_is : (x : Option Bool) → is_none x ≡ true → x ≡ None
open_is None e = refl
open_is (Some y) e = cc

pub none_first : (c : List (Option Bool)) → None ≡ position is_none c → open_count c ≡ 0
none_first c e = none_open c (λ k h. fails_before_first is_none c k None (before (position_or_len is_none c) refl k h))
  where
    before : (n : ℕ) → position_or_len is_none c ≡ n → (k : ℕ) → k < length c → k < position_or_len is_none c
    before n q k h = ⊎_elim (λ (l : n < length c). absurd (less n q l)) (λ (l : length c ≤ n). omega arith) (cases_lt n (length c))
      where
        less : (n : ℕ) → position_or_len is_none c ≡ n → n < length c → ⊥
        less n q l = grind (arith, nat_tests)

pub some_first : (c : List (Option Bool)) (i : ℕ) → Some i ≡ position is_none c → (i < length c) × (get_or c i None ≡ None)
some_first c i e = let h = position-Some is_none c i None (sym e) in (h.0, open_is (get_or c i None) h.1)

-- the cells themselves, read as bits, extend them
bits_fit : (c : List (Option Bool)) (i : ℕ) → Fits (get_or c i None) (get_or (bits c) i false)
bits_fit [] i = tt
bits_fit (None ∷ c) zero = tt
bits_fit (Some y ∷ c) zero = refl
bits_fit (x ∷ c) (suc i) = bits_fit c i

pub bits_extend : (c : List (Option Bool)) → Extends c (told (bits c))
bits_extend c = record { fits = bits_fit c }

-- an open cell is set: what extends the new cells extends the old
finer_set : (c : List (Option Bool)) (i : ℕ) (x : Option Bool) (a : ℕ → Bool) → get_or c i None ≡ None → Extends (set c i x) a → Extends c a
finer_set c i x a o e = record {
  fits = λ k.
      let P : Option Bool → Type 0 = λ y. Fits y (a (suc k)) in
      ⊎_elim (λ (s : k ≡ i). subst P (sym (ap (λ j. get_or c j None) s ∙ o)) tt) (λ (n : k ≡ i → ⊥). subst P (get_or-set_other c i k x None n) (e.fits k)) (cases_eq k i);
}

pub finer_assigned : (c : List (Option Bool)) (w : ℕ) (a : ℕ → Bool) → look c w ≡ None → Extends (assigned c w) a → Extends c a
unfolding assigned
finer_assigned c w a o e = finer_set c (place_of w) (made w) a (look_open c w o) e

-- what extends the old cells and fits the new one extends the new cells
extend_set : (c : List (Option Bool)) (i : ℕ) (x : Option Bool) (a : ℕ → Bool) → i < length c → Fits x (a (suc i)) → Extends c a → Extends (set c i x) a
extend_set c i x a h f e = record {
  fits = λ k.
      let P : Option Bool → Type 0 = λ y. Fits y (a (suc k)) in
      ⊎_elim
      (λ (s : k ≡ i).
      let Q : ℕ → Type 0 = λ j. Fits x (a (suc j)) in
      subst P (sym (ap (get_or-at c i x) s ∙ get_or-set_same c i x None h)) (subst Q (sym s) f))
      (λ (n : k ≡ i → ⊥). subst P (sym (get_or-set_other c i k x None n)) (e.fits k)) (cases_eq k i);
}
  where
    get_or-at : (c : List (Option Bool)) (i : ℕ) (x : Option Bool) → ℕ → Option Bool
    get_or-at c i x j = get_or (set c i x) j None

not_back : (b : Bool) → not b ≡ true → b ≡ false
not_back true e = sym e
not_back false e = refl

made-fits : (t : Bool) (b : Bool) → cond t b (not b) ≡ true → Fits (Some t) b
made-fits true b e = e
made-fits false b e = not_back b e

pub extend_assigned : (c : List (Option Bool)) (w : ℕ) (a : ℕ → Bool) → named (length c) w ≡ true → lit a w ≡ true → Extends c a → Extends (assigned c w) a
unfolding assigned
extend_assigned c w a n l e =
    let P : ℕ → Type 0 = λ v. Fits (made w) (a v) in
    extend_set c (place_of w) (made w) a (place_within (length c) w n) (subst P (sym (variable_is (length c) w n)) (made-fits (eqb (w % 2) 0) (a (w / 2)) l)) e

made_yes : (t : Bool) → cond t (Some t) (opposed (Some t)) ≡ Some true
made_yes true = refl
made_yes false = refl

pub look-assigned : (c : List (Option Bool)) (w : ℕ) → named (length c) w ≡ true → look (assigned c w) w ≡ Some true
unfolding look assigned
look-assigned c w n =
    ap (λ x. cond (eqb (w % 2) 0) x (opposed x)) (get_or-set_same c (place_of w) (made w) None (place_within (length c) w n)) ∙ made_yes (eqb (w % 2) 0)

pub length-assigned : (c : List (Option Bool)) (w : ℕ) → length (assigned c w) ≡ length c
unfolding assigned
length-assigned c w = length-set c (place_of w) (made w)

-- opening the last place first
pub restored_push : (c : List (Option Bool)) (is : List ℕ) (i : ℕ) → restored c (is ++ i ∷ []) ≡ restored (set c i None) is
restored_push c [] i = refl
restored_push c (j ∷ is) i = ap (λ d. set d j None) (restored_push c is i)

pub restored-append : (c : List (Option Bool)) (is js : List ℕ) → restored c (is ++ js) ≡ restored (restored c js) is
restored-append c [] js = refl
restored-append c (i ∷ is) js = ap (λ d. set d i None) (restored-append c is js)

-- an open cell that is set and opened again
pub restored-assigned : (c : List (Option Bool)) (w : ℕ) → look c w ≡ None → restored (assigned c w) (place_of w ∷ []) ≡ c
unfolding assigned
restored-assigned c w o =
    set-set c (place_of w) (made w) None ∙ ap (set c (place_of w)) (sym (look_open c w o)) ∙ set-get_or c (place_of w) None
