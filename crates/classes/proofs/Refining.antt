-- The loop that cuts the classes, over values. Assumes nothing.
use Rattle.std.proofs.Common.{◌≡◌, ℕ, ◌+◌, ◌*◌, ◌/◌, ◌%◌, ◌<◌, ◌≤◌, Bool, true, false, cond, not, eqb, List, length, get_or, set, sym, refl, ap, ◌∙◌, ⊎_elim, arith, length-set}
use mathlib.Core.Bool.{beq}
use Rattle.std.proofs.lemmas.List.{get_or-set_same, get_or-set_other}
use Rattle.std.proofs.lemmas.Bool.{both_ways, cases_eq, cases_lt, cases_Bool}
use Rattle.std.proofs.lemmas.Bool.Decides.{nat_tests}
use Rattle.cnf.specs.Truth.{told, lit, opp}
use Rattle.cnf.specs.Table.{rep}
use Rattle.cnf.proofs.Entries.{Entrywise, tabled_from_entries, turn_var}
use Rattle.classes.specs.Classes.{agrees, Refines}

-- t is the table as it was, u the table as it is, of which the first i entries are done, and f has the new representatives so far
pub record Refining (bits : List Bool) (t u f : List ℕ) (i : ℕ) : Type 0 where
  pub long : length u ≡ length t
  pub wide : length t ≤ length f
  pub later : (w : ℕ) → i ≤ w → get_or u w 0 ≡ get_or t w 0
  pub same : (w : ℕ) → w < i → agrees bits t w ≡ true → get_or u w 0 ≡ get_or t w 0
  pub moved : (w : ℕ) → w < i → agrees bits t w ≡ false → (get_or u w 0 ≡ rep f (get_or t w 0)) × (get_or f (get_or t w 0 / 2) 0 ≡ 0 → ⊥)
  pub down : (w : ℕ) → w < i → get_or u w 0 / 2 ≤ w
  pub split : (k : ℕ) → k < length t → (get_or f k 0 ≡ 0 → ⊥)
      → (get_or f k 0 / 2 < i) × (agrees bits t (get_or f k 0 / 2) ≡ false) × (get_or u (get_or f k 0 / 2) 0 ≡ 2 * (get_or f k 0 / 2))

pub refining_none : (bits : List Bool) (t f : List ℕ) → length t ≤ length f → ((k : ℕ) → k < length t → get_or f k 0 ≡ 0) → Refining bits t t f 0
refining_none bits t f e h = record {
  long = refl;
  wide = e;
  later = λ w _. refl;
  same = λ w l _. absurd (omega arith);
  moved = λ w l _. absurd (omega arith);
  down = λ w l. absurd (omega arith);
  split = λ k l n. absurd (n (h k (omega arith)));
}

-- a code that is its own table's entry stands for itself
pub self_even : (t : List ℕ) (n : ℕ) → rep t n ≡ n → get_or t (n / 2) 0 ≡ 2 * (n / 2)
self_even t n e = grind (arith, nat_tests)

pub even_self : (t : List ℕ) (n : ℕ) → get_or t (n / 2) 0 ≡ 2 * (n / 2) → rep t n ≡ n
even_self t n e = grind (arith, nat_tests)

agrees_own : (bits : List Bool) (t : List ℕ) (k : ℕ) → get_or t k 0 ≡ 2 * k → agrees bits t k ≡ true
agrees_own bits t k e = rw e (same_beq (lit (told bits) (2 * k)))
  where
    same_beq : (b : Bool) → beq b b ≡ true
    same_beq true = refl
    same_beq false = refl

module _ (bits : List Bool) (t u f : List ℕ) (i : ℕ) (s : Refining bits t u f i) (tab : Entrywise t) where
  pub refining_keep : i < length t → agrees bits t i ≡ true → Refining bits t u f (i + 1)
  refining_keep l g = record {
    long = s.long;
    wide = s.wide;
    later = λ w h. s.later w (omega arith);
    same = λ w h a. ⊎_elim (λ q. s.same w q a) (λ q. s.later w q) (cases_lt w i);
    moved = λ w h a. ⊎_elim (λ q. s.moved w q a) (λ q. let e : w ≡ i = omega arith in absurd (both_ways _ a (ap (agrees bits t) e ∙ g))) (cases_lt w i);
    down = λ w h. ⊎_elim (λ q. s.down w q) (λ q. rw (s.later w q) (tab.low w (omega arith))) (cases_lt w i);
    split = λ k h n. let p = s.split k h n in (omega arith, p.1, p.2);
  }

  pub refining_move : i < length t → agrees bits t i ≡ false → (get_or f (get_or t i 0 / 2) 0 ≡ 0 → ⊥) → Refining bits t (set u i (rep f (get_or t i 0))) f (i + 1)
  refining_move l g z =
      let x : ℕ = rep f (get_or t i 0) in
      let li : i < length u = omega (arith, s.long) in
      let k : get_or t i 0 / 2 < length t = omega (arith, tab.low i l) in
      let p = s.split (get_or t i 0 / 2) k z in
      let old : (w : ℕ) → (w ≡ i → ⊥) → get_or (set u i x) w 0 ≡ get_or u w 0 = λ w ne. get_or-set_other u i w x 0 ne in
      let new : get_or (set u i x) i 0 ≡ x = get_or-set_same u i x 0 li in
      record {
        long = length-set u i x ∙ s.long;
        wide = s.wide;
        later = λ w h. old w (omega arith) ∙ s.later w (omega arith);
        same = λ w h a. ⊎_elim (λ q. old w (omega arith) ∙ s.same w q a) (λ q. let e : w ≡ i = omega arith in absurd (both_ways _ g (ap (agrees bits t) (sym e) ∙ a))) (cases_lt w i);
        moved = λ w h a. ⊎_elim (λ q. let m = s.moved w q a in (old w (omega arith) ∙ m.0, m.1)) (λ q. let e : w ≡ i = omega arith in rw e (new, z)) (cases_lt w i);
        down = λ w h. ⊎_elim (λ q. rw (old w (omega arith)) (s.down w q)) (λ (q : i ≤ w). let e : w ≡ i = omega arith in rw (e, new) (omega (arith, turn_var (get_or f (get_or t i 0 / 2) 0) (get_or t i 0)))) (cases_lt w i);
        split = λ j h n. let y = s.split j h n in (omega arith, y.1, old _ (omega arith) ∙ y.2);
      }

  pub refining_mint : i < length t → agrees bits t i ≡ false → get_or f (get_or t i 0 / 2) 0 ≡ 0
      → Refining bits t (set u i (rep (set f (get_or t i 0 / 2) (2 * i + get_or t i 0 % 2)) (get_or t i 0))) (set f (get_or t i 0 / 2) (2 * i + get_or t i 0 % 2)) (i + 1)
  refining_mint l g z =
      let r : ℕ = get_or t i 0 / 2 in
      let y : ℕ = 2 * i + get_or t i 0 % 2 in
      let f' : List ℕ = set f r y in
      let x : ℕ = rep f' (get_or t i 0) in
      let li : i < length u = omega (arith, s.long) in
      let k : r < length f = omega (arith, tab.low i l, s.wide) in
      let fr : get_or f' r 0 ≡ y = get_or-set_same f r y 0 k in
      let fo : (j : ℕ) → (j ≡ r → ⊥) → get_or f' j 0 ≡ get_or f j 0 = λ j ne. get_or-set_other f r j y 0 ne in
      let xi : x ≡ 2 * i = grind (arith, nat_tests) in
      let pos : i ≡ 0 → ⊥ = λ e. both_ways _ g (agrees_own bits t i (rw e tab.constant)) in
      let old : (w : ℕ) → (w ≡ i → ⊥) → get_or (set u i x) w 0 ≡ get_or u w 0 = λ w ne. get_or-set_other u i w x 0 ne in
      let new : get_or (set u i x) i 0 ≡ x = get_or-set_same u i x 0 li in
      record {
        long = length-set u i x ∙ s.long;
        wide = omega (arith, length-set f r y, s.wide);
        later = λ w h. old w (omega arith) ∙ s.later w (omega arith);
        same = λ w h a. ⊎_elim (λ q. old w (omega arith) ∙ s.same w q a) (λ q. let e : w ≡ i = omega arith in absurd (both_ways _ g (ap (agrees bits t) (sym e) ∙ a))) (cases_lt w i);
        moved = λ w h a. ⊎_elim
            (λ q. let m = s.moved w q a in
            let ne : get_or t w 0 / 2 ≡ r → ⊥ = λ e. m.1 (ap (λ n. get_or f n 0) e ∙ z) in
            let o = fo _ ne in
            (old w (omega arith) ∙ m.0 ∙ ap (λ n. cond (eqb (get_or t w 0 % 2) 0) n (opp n)) (sym o), λ e. m.1 (sym o ∙ e)))
            (λ q. let e : w ≡ i = omega arith in rw e (new, λ n. pos (omega (arith, fr)))) (cases_lt w i);
        down = λ w h. ⊎_elim (λ q. rw (old w (omega arith)) (s.down w q)) (λ (q : i ≤ w). let e : w ≡ i = omega arith in rw (e, new) (omega arith)) (cases_lt w i);
        split = λ j h n. ⊎_elim
            (λ e. let q : get_or f' j 0 ≡ y = ap (λ n. get_or f' n 0) e ∙ fr in let d : get_or f' j 0 / 2 ≡ i = omega arith in rw d (omega arith, g, new ∙ xi))
            (λ ne. let o = fo j ne in let p = s.split j h (λ e. n (o ∙ e)) in rw o (omega arith, p.1, old _ (omega arith) ∙ p.2)) (cases_eq j r);
      }

  pub refining_all : length t ≤ i → Refines bits t u f
  refining_all l =
      let self : (w : ℕ) → w < length t → get_or u (get_or u w 0 / 2) 0 ≡ 2 * (get_or u w 0 / 2)
      = λ w h. ⊎_elim
      (λ a. let e = s.same w (omega arith) a in
      let d = tab.low w h in
      let o = self_even t (get_or t w 0) (tab.own w h) in
      rw e (s.same (get_or t w 0 / 2) (omega arith) (agrees_own bits t _ o) ∙ o))
      (λ a. let m = s.moved w (omega arith) a in
      let p = s.split (get_or t w 0 / 2) (omega (arith, tab.low w h)) m.1 in
      rw (m.0, turn_var (get_or f (get_or t w 0 / 2) 0) (get_or t w 0)) p.2)
      (cases_Bool (agrees bits t w)) in
      record {
        size = s.long;
        tabled = tabled_from_entries u (record {
          constant = ⊎_elim (λ q. s.same 0 q (agrees_own bits t 0 tab.constant) ∙ tab.constant) (λ q. s.later 0 q ∙ tab.constant) (cases_lt 0 i);
          low = λ w h. s.down w (omega (arith, s.long));
          own = λ w h. even_self u _ (self w (omega (arith, s.long)));
        });
        each = λ w h. ⊎_elim (λ a. s.same w (omega arith) a ∙ sym (rw a)) (λ a. (s.moved w (omega arith) a).0 ∙ sym (rw a)) (cases_Bool (agrees bits t w));
        fresh = λ w h a. let m = s.moved w (omega arith) a in
            rw (m.0, turn_var (get_or f (get_or t w 0 / 2) 0) (get_or t w 0)) (s.split (get_or t w 0 / 2) (omega (arith, tab.low w h)) m.1).1;
      }

  -- the same, as the code has it
  pub name_within : (r : ℕ) → r ≡ get_or u i 0 / 2 → i < length t → r < length f
  name_within r d l = omega (arith, s.later i (omega arith), tab.low i l, s.wide)

  module _ (b d : Bool) (p : b ≡ lit (told bits) (2 * i)) (q : d ≡ lit (told bits) (get_or u i 0)) where
    agrees-by : agrees bits t i ≡ beq b d
    agrees-by = rw (p, q, s.later i (omega arith))

    pub agrees_not : not (beq b d) ≡ true → agrees bits t i ≡ false
    agrees_not h = agrees-by ∙ turned (beq b d) h
      where
        turned : (x : Bool) → not x ≡ true → x ≡ false
        turned true e = sym e
        turned false e = refl

    pub agrees_still : not (beq b d) ≡ false → agrees bits t i ≡ true
    agrees_still h = agrees-by ∙ turned (beq b d) h
      where
        turned : (x : Bool) → not x ≡ false → x ≡ true
        turned true e = refl
        turned false e = sym e

  pub move_by : (v g : List ℕ) (x r : ℕ) → v ≡ set u i x → r ≡ get_or u i 0 / 2 → g ≡ f → x ≡ rep g (get_or u i 0) → i < length t → agrees bits t i ≡ false → (get_or f r 0 ≡ 0 → ⊥)
      → Refining bits t v g (i + 1)
  move_by v g x r p d q e l a z =
      let n = s.later i (omega arith) in
      rw (p, e, q, n) (refining_move l a (λ h. z (ap (λ k. get_or f k 0) (d ∙ ap (λ k. k / 2) n) ∙ h)))

  pub mint_by : (v g : List ℕ) (x r : ℕ) → v ≡ set u i x → r ≡ get_or u i 0 / 2 → g ≡ set f r (2 * i + get_or u i 0 % 2) → x ≡ rep g (get_or u i 0) → i < length t
      → agrees bits t i ≡ false → get_or f r 0 ≡ 0 → Refining bits t v g (i + 1)
  mint_by v g x r p d q e l a z =
      let n = s.later i (omega arith) in
      rw (p, e, q, d, n) (refining_mint l a (ap (λ k. get_or f k 0) (sym (d ∙ ap (λ k. k / 2) n)) ∙ z))
