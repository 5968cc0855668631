-- What loops over the spaces need, over values. Assumes nothing.
use Rattle.std.proofs.Common.{◌≡◌, ℕ, zero, suc, ◌+◌, ◌*◌, ◌/◌, ◌<◌, ◌≤◌, Bool, false, cond, eqb, List, [], ◌∷◌, ◌++◌, length, get_or, set, Some, None, Option, sym, refl, ap, ◌∙◌, ⊎_elim, subst, arith}
use mathlib.Core.Path.{fun_ext}
use Rattle.std.proofs.Math.ListN.{get_or-append}
use Rattle.std.proofs.Math.Seq.{get_or-append_seam}
use Rattle.std.proofs.lemmas.List.{get_or-set_same, get_or-set_other, get_or_past}
use Rattle.std.proofs.lemmas.Bool.{cases_eq, cases_lt, eq-eqb, ne_eqb}
use Rattle.cnf.specs.Truth.{told, lit}
use Rattle.cnf.specs.Table.{via, by, fresh}
use Rattle.cnf.specs.Open.{Refuses}
use Rattle.cnf.specs.declared.open.OpenError.{OpenError}
use Rattle.cnf.specs.declared.open.OpenError.TheVariants.{Memory, Refused}
use Rattle.cnf.proofs.Entries.{fresh-length, fresh_entry}
use Rattle.cnf.proofs.Tables.{Within}
use Rattle.classes.specs.Classes.{held, Keeps, settled, Plain}
use Rattle.classes.proofs.Renumbering.{lit_even}
use Rattle.classes.proofs.Sweeping.{settled-below, settled_from}

-- one more element is pushed
pub push_below : {X : Type 0} (P : ℕ → X → Type 0) (xs : List X) (i : ℕ) (x d : X) → length xs ≡ i → ((k : ℕ) → k < i → P k (get_or xs k d)) → P i x
    → (k : ℕ) → k < i + 1 → P k (get_or (xs ++ x ∷ []) k d)
push_below P xs i x d l h p k j =
    ⊎_elim
    (λ (e : k ≡ i). subst (P k) (sym (ap (λ n. get_or (xs ++ x ∷ []) n d) (e ∙ sym l) ∙ get_or-append_seam xs x [] d)) (subst (λ n. P n x) (sym e) p))
    (λ (n : k ≡ i → ⊥). subst (P k) (sym (get_or-append xs (x ∷ []) d k (omega arith))) (h k (omega arith))) (cases_eq k i)

held_past : (m : ℕ) (o : Option (List Bool)) (w : ℕ) → Keeps m o → m < w → held o w ≡ false
held_past m None w h l = refl
held_past m (Some a) zero h l = refl
held_past m (Some a) (suc w) h l = get_or_past a w false (omega arith)

pub held-zero : (o : Option (List Bool)) → held o 0 ≡ false
held-zero None = refl
held-zero (Some a) = refl

-- the bits that were written are those of the model with settled variables at the value of their names
pub recalled : (m : ℕ) (o : Option (List Bool)) (t : List ℕ) (v : ℕ) (bits : List Bool) → Keeps m o → get_or t 0 0 ≡ 0 → length t ≡ m + 1 → length bits ≡ m
    → ((i : ℕ) → i < m → get_or bits i false ≡ via (held o) (settled t v) (i + 1)) → told bits ≡ via (held o) (settled t v)
recalled m o t v bits k z n l h = fun_ext each
  where
    each : (w : ℕ) → told bits w ≡ via (held o) (settled t v) w
    each zero =
        sym (⊎_elim (λ i. ap (lit (held o)) (settled-below t v 0 i ∙ z)) (λ i. ap (lit (held o)) (settled_from t v 0 i)) (cases_lt 0 v) ∙ held-zero o)
    each (suc i) =
        let e : i + 1 ≡ suc i = omega arith in
        ⊎_elim (λ j. h i j ∙ ap (via (held o) (settled t v)) e)
        (λ j. get_or_past bits i false (omega arith) ∙ sym (⊎_elim
        (λ q. ap (lit (held o)) (settled-below t v (suc i) q ∙ get_or_past t (suc i) 0 (omega arith)) ∙ held-zero o)
        (λ q. ap (lit (held o)) (settled_from t v (suc i) q) ∙ lit_even (held o) (suc i) ∙ held_past m o (suc i) k (omega arith)) (cases_lt (suc i) v)))
        (cases_lt i m)

module _ (m v old : ℕ) (spare : List ℕ) (n : m < length spare) (p : Plain spare) (l : v ≤ m) (d : old / 2 ≤ v) where
  -- the table that replaces v alone
  pub by_one : (w : ℕ) → w ≤ m → by (set spare v old) w ≡ cond (eqb w v) old (2 * w)
  by_one w h =
      ⊎_elim
      (λ (e : w ≡ v). let k : v < length spare = omega arith in rw (e, get_or-set_same spare v old 0 k, eq-eqb v v refl))
      (λ (e : w ≡ v → ⊥). get_or-set_other spare v w old 0 e ∙ p w (omega arith) ∙ sym (rw (ne_eqb w v e)))
      (cases_eq w v)

  pub by_within : Within m (by (set spare v old))
  by_within = record {
    each = λ w h.
        ⊎_elim
        (λ (e : w ≡ v). let k : v < length spare = omega arith in rw (e, get_or-set_same spare v old 0 k) (omega arith))
        (λ (e : w ≡ v → ⊥). let q = p w (omega arith) in rw (get_or-set_other spare v w old 0 e) (omega arith))
        (cases_eq w v);
  }

-- the entries of a table that is made anew
pub plain_fresh : (n : ℕ) (xs : List ℕ) → xs ≡ fresh n → Plain xs
plain_fresh n xs e w h =
    let l = ap length e ∙ fresh-length 0 (n + 1) in
    ap (λ t. get_or t w 0) e ∙ fresh_entry 0 (n + 1) w (omega arith) ∙ omega arith

-- no table is too large here, so only memory can be short
pub only_memory : (e : OpenError) → Refuses 2000 e → e ≡ Memory
only_memory Memory h = refl
only_memory (Refused f) h = absurd (omega (arith, h.0))
