-- How many variables changed their kind. Assumes nothing.
use Rattle.std.proofs.Common.{◌≡◌, ◌≢◌, ℕ, ◌+◌, ◌*◌, ◌<◌, ◌≤◌, zero, suc, Bool, true, false, cond, ◌&&◌, List, ◌∷◌, length, drop, get_or, sym, refl, ap, ◌∙◌, subst, ◌⊎◌, ⊎_elim, add-one, arith}
use Rattle.std.proofs.lemmas.List.{length-drop, drop_more}
use Rattle.std.proofs.lemmas.Bool.Decides.{nat_tests}
use Rattle.classes.specs.Renumber.{below}
use Rattle.sheet.specs.Calls.{is_kind, newly}

-- free by t and of this kind by u
abbrev pub turns : ℕ → List ℕ → List ℕ → ℕ → Bool
turns k t u v = is_kind 0 t v && is_kind k u v

turns_fixed : (t u : List ℕ) (v : ℕ) → get_or t v 0 ≡ 2 * v → get_or u v 0 ≢ 2 * v → get_or u v 0 < 2 → (turns 1 t u v ≡ true) × (turns 2 t u v ≡ false)
turns_fixed t u v e n l = (grind (arith, nat_tests), grind (arith, nat_tests))

turns_tied : (t u : List ℕ) (v : ℕ) → get_or t v 0 ≡ 2 * v → get_or u v 0 ≢ 2 * v → 2 ≤ get_or u v 0 → (turns 1 t u v ≡ false) × (turns 2 t u v ≡ true)
turns_tied t u v e n l = (grind (arith, nat_tests), grind (arith, nat_tests))

turns_free : (t u : List ℕ) (v : ℕ) → get_or t v 0 ≡ 2 * v → get_or u v 0 ≡ 2 * v → (turns 1 t u v ≡ false) × (turns 2 t u v ≡ false)
turns_free t u v e n = (grind (arith, nat_tests), grind (arith, nat_tests))

turns_other : (t u : List ℕ) (v : ℕ) → get_or t v 0 ≢ 2 * v → (turns 1 t u v ≡ false) × (turns 2 t u v ≡ false)
turns_other t u v n = (grind (arith, nat_tests), grind (arith, nat_tests))

-- the counts below v
pub record Counted (t u : List ℕ) (v fixed tied : ℕ) : Type 0 where
  pub of_fixed : fixed ≡ below (turns 1 t u) v
  pub of_tied : tied ≡ below (turns 2 t u) v

below_few : (f : ℕ → Bool) (v : ℕ) → below f v ≤ v
below_few f zero = omega arith
below_few f (suc v) = let i = below_few f v in elim (f v) as (λ b. below f v + cond b 1 0 ≤ suc v) [ true ↦ omega arith | false ↦ omega arith ]

pub counted_few : (t u : List ℕ) (v fixed tied : ℕ) → Counted t u v fixed tied → (fixed ≤ v) × (tied ≤ v)
counted_few t u v fixed tied w = (omega (arith, w.of_fixed, below_few (turns 1 t u) v), omega (arith, w.of_tied, below_few (turns 2 t u) v))

below_more : (f : ℕ → Bool) (v : ℕ) (b : Bool) → f v ≡ b → below f (v + 1) ≡ below f v + cond b 1 0
below_more f v b e = rw add-one (ap (λ c. below f v + cond c 1 0) e)

counted_more : (t u : List ℕ) (v fixed tied fixed' tied' : ℕ) (b c : Bool) → Counted t u v fixed tied → (turns 1 t u v ≡ b) × (turns 2 t u v ≡ c)
    → fixed' ≡ fixed + cond b 1 0 → tied' ≡ tied + cond c 1 0 → Counted t u (v + 1) fixed' tied'
counted_more t u v fixed tied fixed' tied' b c w e p q = record {
  of_fixed = p ∙ ap (λ n. n + cond b 1 0) w.of_fixed ∙ sym (below_more (turns 1 t u) v b e.0);
  of_tied = q ∙ ap (λ n. n + cond c 1 0) w.of_tied ∙ sym (below_more (turns 2 t u) v c e.1);
}

-- an item of a list of which the first v are behind
item : (xs : List ℕ) (v x : ℕ) (rest : List ℕ) → drop v xs ≡ x ∷ rest → (v < length xs) × (x ≡ get_or xs v 0) × (rest ≡ drop (v + 1) xs)
item xs v x rest e =
    let n = ap length e in
    let l : v < length xs = omega (arith, length-drop v xs) in
    let d = drop_more xs v 0 l in
    (l, (cc), (cc))

-- a loop over both tables, of which the first v entries are behind
pub record Counting (t u rest others : List ℕ) (v fixed tied : ℕ) : Type 0 where
  pub within : v ≤ length t
  pub first : rest ≡ drop v t
  pub second : others ≡ drop v u
  pub counts : Counted t u v fixed tied

-- the next entries
module _ {t u rest others : List ℕ} {v v' fixed tied x y : ℕ} {rest' others' : List ℕ} (w : Counting t u rest others v fixed tied) (p : rest ≡ x ∷ rest') (q : others ≡ y ∷ others') (n : v' ≡ v + 1) where
  here : (v < length t) × (x ≡ get_or t v 0) × (rest' ≡ drop (v + 1) t)
  here = item t v x rest' (sym w.first ∙ p)

  there : (v < length u) × (y ≡ get_or u v 0) × (others' ≡ drop (v + 1) u)
  there = item u v y others' (sym w.second ∙ q)

  pub counting_few : (fixed < length t) × (tied < length t)
  counting_few = (omega (arith, here.0, counted_few t u v fixed tied w.counts), omega (arith, here.0, counted_few t u v fixed tied w.counts))

  more : (fixed' tied' : ℕ) → Counted t u (v + 1) fixed' tied' → Counting t u rest' others' v' fixed' tied'
  more fixed' tied' k = subst (λ i. Counting t u rest' others' i fixed' tied') (sym n) (record { within = omega (arith, here.0); first = here.2; second = there.2; counts = k })

  pub counting_fixed : x ≡ 2 * v → y ≢ 2 * v → y < 2 → Counting t u rest' others' v' (fixed + 1) tied
  counting_fixed e d l = more _ _ (counted_more t u v _ _ _ _ true false w.counts (turns_fixed t u v (sym here.1 ∙ e) (λ z. d (there.1 ∙ z)) (omega (arith, there.1))) refl (omega arith))

  pub counting_tied : x ≡ 2 * v → y ≢ 2 * v → 2 ≤ y → Counting t u rest' others' v' fixed (tied + 1)
  counting_tied e d l = more _ _ (counted_more t u v _ _ _ _ false true w.counts (turns_tied t u v (sym here.1 ∙ e) (λ z. d (there.1 ∙ z)) (omega (arith, there.1))) (omega arith) refl)

  pub counting_free : x ≡ 2 * v → y ≡ 2 * v → Counting t u rest' others' v' fixed tied
  counting_free e d = more _ _ (counted_more t u v _ _ _ _ false false w.counts (turns_free t u v (sym here.1 ∙ e) (sym there.1 ∙ d)) (omega arith) (omega arith))

  pub counting_other : x ≢ 2 * v → Counting t u rest' others' v' fixed tied
  counting_other d = more _ _ (counted_more t u v _ _ _ _ false false w.counts (turns_other t u v (λ z. d (here.1 ∙ z))) (omega arith) (omega arith))

-- all entries are behind
pub counting_done : {t u rest others : List ℕ} {v fixed tied : ℕ} → Counting t u rest others v fixed tied → (length rest ≡ 0) ⊎ (length others ≡ 0) → length u ≡ length t
    → (fixed ≡ newly 1 t u) × (tied ≡ newly 2 t u)
counting_done {t} {u} {rest} {others} {v} w e l =
    let all : v ≡ length t =
    ⊎_elim (λ (z : length rest ≡ 0). omega (arith, w.within, ap length w.first, length-drop v t))
    (λ (z : length others ≡ 0). omega (arith, w.within, ap length w.second, length-drop v u)) e in
    (w.counts.of_fixed ∙ ap (below (turns 1 t u)) all, w.counts.of_tied ∙ ap (below (turns 2 t u)) all)
