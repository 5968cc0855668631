-- The turns of a sweep, over values. Assumes nothing.
use Rattle.std.proofs.Common.{◌≡◌, ℕ, ◌+◌, ◌*◌, ◌/◌, ◌%◌, ◌<◌, ◌≤◌, Bool, true, false, cond, not, eqb, List, length, get_or, sym, refl, ap, ◌∙◌, ⊎_elim, arith}
use mathlib.Core.Bool.{beq}
use mathlib.Core.Path.{fun_ext}
use Rattle.std.proofs.lemmas.Bool.{both_ways, cases_eq, cases_lt, cases_Bool, lt-ltb, le-ltb, ne_eqb, eq-eqb}
use Rattle.std.proofs.lemmas.Bool.Decides.{nat_tests}
use Rattle.cnf.specs.Truth.{told, lit, clauses, opp, Model, Equal}
use Rattle.cnf.specs.Words.{goods}
use Rattle.cnf.specs.Table.{rep, via, applieds}
use Rattle.cnf.specs.Finite.{is_equal, lowest}
use Rattle.cnf.proofs.Tables.{lit-opp, applied_keeps_truth}
use Rattle.cnf.proofs.Counting.{clauses_same, equal_means, first_is}
use Rattle.classes.specs.Classes.{Apart, agrees, Refines, settled, Sweeping, Swept}
use Rattle.cnf.proofs.Entries.{tabled_from_entries, entries_from_tabled, rep-opp, turn_var}
use Rattle.classes.proofs.Renumbering.{lit_even, lit_at}
use Rattle.classes.proofs.Refining.{self_even}

beq_same : (x y : Bool) → x ≡ y → beq x y ≡ true
beq_same true true e = refl
beq_same true false e = sym e
beq_same false true e = e
beq_same false false e = refl

beq_not : (x y : Bool) → beq (not x) (not y) ≡ beq x y
beq_not true true = refl
beq_not true false = refl
beq_not false true = refl
beq_not false false = refl

bit_down : (b : Bool) (n v : ℕ) → n ≡ cond b 1 0 → n / 2 ≤ v
bit_down true n v e = omega arith
bit_down false n v e = omega arith

bit_itself : (t : List ℕ) (b : Bool) (n : ℕ) → get_or t 0 0 ≡ 0 → n ≡ cond b 1 0 → rep t n ≡ n
bit_itself t true n z e = rw (e, z)
bit_itself t false n z e = rw (e, z)

bit_rep : (a : ℕ → Bool) (t : List ℕ) (c : ℕ) → get_or t (c / 2) 0 ≡ cond (a (c / 2)) 1 0 → cond (lit a c) 1 0 ≡ rep t c
bit_rep a t c e = grind (arith, nat_tests)

-- the opposite of a choice
opp_cond : (b d : Bool) (x y z : ℕ) → d ≡ b → z ≡ opp y → opp (cond b x y) ≡ cond d (opp x) z
opp_cond true d x y z e f = rw e
opp_cond false d x y z e f = rw (e, f)

pub settled-below : (t : List ℕ) (v w : ℕ) → w < v → settled t v w ≡ get_or t w 0
settled-below t v w h = rw (lt-ltb w v h)

pub settled_from : (t : List ℕ) (v w : ℕ) → v ≤ w → settled t v w ≡ 2 * w
settled_from t v w h = rw (le-ltb w v h)

-- one more settled variable, with the same below
settled_more : (t u : List ℕ) (v : ℕ) → ((w : ℕ) → w < v → get_or u w 0 ≡ get_or t w 0) → get_or u v 0 ≡ 2 * v → (w : ℕ) → settled t v w ≡ settled u (v + 1) w
settled_more t u v h e w =
    ⊎_elim
    (λ l. settled-below t v w l ∙ sym (h w l) ∙ sym (settled-below u (v + 1) w (omega arith)))
    (λ l. settled_from t v w l ∙ ⊎_elim
    (λ (q : w ≡ v). let k : 2 * w ≡ get_or u w 0 = rw q (sym e) in k ∙ sym (settled-below u (v + 1) w (omega arith)))
    (λ q. sym (settled_from u (v + 1) w (omega arith))) (cases_eq w v))
    (cases_lt w v)

-- the variable v is replaced, and no other
abbrev one : ℕ → ℕ → ℕ → ℕ
one v d w = cond (eqb w v) d (2 * w)

one_other : (v d w : ℕ) → (w ≡ v → ⊥) → one v d w ≡ 2 * w
one_other v d w n = rw (ne_eqb w v n)

one_same : (v d : ℕ) → one v d v ≡ d
one_same v d = rw (eq-eqb v v refl)

-- to replace v in what is left is to settle v
one_more : (a : ℕ → Bool) (t : List ℕ) (v : ℕ) → ((w : ℕ) → w < v → get_or t w 0 / 2 ≤ w) → (w : ℕ)
    → via (via a (one v (get_or t v 0))) (settled t v) w ≡ via a (settled t (v + 1)) w
one_more a t v h w =
    let b : ℕ → Bool = via a (one v (get_or t v 0)) in
    let own : (u : ℕ) → (u ≡ v → ⊥) → b u ≡ a u = λ u n. ap (lit a) (one_other v (get_or t v 0) u n) ∙ lit_even a u in
    ⊎_elim
    (λ l. ap (lit b) (settled-below t v w l)
    ∙ lit_at b a (get_or t w 0) (own (get_or t w 0 / 2) (λ q. let d = h w l in omega arith))
    ∙ ap (lit a) (sym (settled-below t (v + 1) w (omega arith))))
    (λ l. ap (lit b) (settled_from t v w l) ∙ lit_even b w
    ∙ ⊎_elim
    (λ (q : w ≡ v). rw q (ap (lit a) (one_same v (get_or t v 0) ∙ sym (settled-below t (v + 1) v (omega arith)))))
    (λ n. ap (lit a) (one_other v (get_or t v 0) w n ∙ sym (settled_from t (v + 1) w (omega arith)))) (cases_eq w v))
    (cases_lt w v)

module _ (cs : List (List ℕ)) where
  pub start_sweeping : (a : ℕ → Bool) (t : List ℕ) → Model cs a → 0 < length t → ((w : ℕ) → w < length t → get_or t w 0 ≡ cond (a w) 1 0) → Sweeping cs t 1 cs
  start_sweeping a t x n h =
      let z : get_or t 0 0 ≡ 0 = h 0 n ∙ ap (λ b. cond b 1 0) x.constant in
      record {
        some = record { by = a; model = x };
        tabled = tabled_from_entries t (record { constant = z; low = λ v l. bit_down (a v) (get_or t v 0) v (h v l); own = λ v l. bit_itself t (a v) (get_or t v 0) z (h v l) });
        sound = λ w k l. let q : w ≡ 0 = omega arith in rw (q, z) (λ _ _. refl);
        whole = λ w c l k e.
            h w l ∙ ap (λ b. cond b 1 0) (sym (lit_even a w) ∙ e a x) ∙ bit_rep a t c (h (c / 2) k);
        same = λ b _. ap (λ f. clauses f cs) (fun_ext (λ w. sym (lit_even b w) ∙ ap (lit b) (first-settled t z w)));
      }
    where
      first-settled : (t : List ℕ) → get_or t 0 0 ≡ 0 → (w : ℕ) → 2 * w ≡ settled t 1 w
      first-settled t z w = ⊎_elim (λ l. let q : w ≡ 0 = omega arith in rw q (sym z)) (λ l. sym (settled_from t 1 w l)) (cases_lt w 1)

  module _ (t : List ℕ) (v : ℕ) (left : List (List ℕ)) (s : Sweeping cs t v left) where
    -- nothing to do
    pub keep : get_or t v 0 ≡ 2 * v → Sweeping cs t (v + 1) left
    keep e = record {
      some = s.some;
      tabled = s.tabled;
      whole = s.whole;
      sound = λ w h l. ⊎_elim (λ (q : w ≡ v). rw (q, e) (λ _ _. refl)) (λ q. s.sound w (omega arith) l) (cases_eq w v);
      same = λ a z. s.same a z ∙ ap (λ f. clauses (via a f) cs) (fun_ext (settled_more t t v (λ _ _. refl) e));
    }

    -- a model of all clauses is one of what is left of them
    left_model : v ≤ length t → (a : ℕ → Bool) → Model cs a → Model left a
    left_model l a x =
        let own : (w : ℕ) → lit a (settled t v w) ≡ a w
        = λ w. ⊎_elim
        (λ h. ap (lit a) (settled-below t v w h) ∙ sym (s.sound w h (omega arith) a x) ∙ lit_even a w)
        (λ h. ap (lit a) (settled_from t v w h) ∙ lit_even a w) (cases_lt w v) in
        record { constant = x.constant; holds = s.same a x.constant ∙ ap (λ f. clauses f cs) (fun_ext own) ∙ x.holds }

    -- v is settled, and replaced by its name
    pub replace : (m : ℕ) (f : ℕ → ℕ) → 1 ≤ v → v ≤ length t → goods m left ≡ true → Equal left (2 * v) (get_or t v 0)
        → ((w : ℕ) → w ≤ m → f w ≡ cond (eqb w v) (get_or t v 0) (2 * w)) → Sweeping cs t (v + 1) (applieds f left)
    replace m f o l g e h = record {
      some = s.some;
      tabled = s.tabled;
      whole = s.whole;
      sound = λ w k i. ⊎_elim (λ (q : w ≡ v). rw q (λ a x. e a (left_model l a x))) (λ q. s.sound w (omega arith) i) (cases_eq w v);
      same = λ a z.
          applied_keeps_truth a f left z
          ∙ clauses_same m (via a f) (via a (one v (get_or t v 0))) (λ w k. ap (lit a) (h w k)) left g
          ∙ s.same (via a (one v (get_or t v 0))) (ap (lit a) (one_other v (get_or t v 0) 0 (λ q. omega arith)) ∙ z)
          ∙ ap (λ x. clauses x cs) (fun_ext (one_more a t v (λ w k. (entries_from_tabled t s.tabled).low w (omega arith))));
    }

    module _ (a : ℕ → Bool) (l : v < length t) (o : 1 ≤ v) (x : Apart left (2 * v) (get_or t v 0) a) where
      -- a model of what is left, with settled variables at the value of their names, is a model of all clauses
      lifted : Apart cs (2 * v) (get_or t v 0) (via a (settled t v))
      lifted =
          let d = (entries_from_tabled t s.tabled).low v l in
          let i = self_even t (get_or t v 0) ((entries_from_tabled t s.tabled).own v l) in
          let u : ℕ = get_or t v 0 / 2 in
          let p : settled t v u ≡ 2 * u
          = ⊎_elim (λ h. settled-below t v u h ∙ i) (λ h. settled_from t v u h) (cases_lt u v) in
          let q : via a (settled t v) u ≡ a u = ap (lit a) p ∙ lit_even a u in
          let r : lit (via a (settled t v)) (2 * v) ≡ lit a (2 * v) = lit_even (via a (settled t v)) v ∙ ap (lit a) (settled_from t v v (omega arith)) in
          record {
            model = record {
              constant = ap (lit a) (settled-below t v 0 (omega arith) ∙ (entries_from_tabled t s.tabled).constant) ∙ x.model.constant;
              holds = sym (s.same a x.model.constant) ∙ x.model.holds;
            };
            apart = ap (λ b. beq b (lit (via a (settled t v)) (get_or t v 0))) r
                ∙ ap (λ b. beq (lit a (2 * v)) (cond (eqb (get_or t v 0 % 2) 0) b (not b))) q ∙ x.apart;
          }

    module _ (bits : List Bool) (u f : List ℕ) (l : v < length t) (x : Apart cs (2 * v) (get_or t v 0) (told bits)) (r : Refines bits t u f) where
      below : (w : ℕ) → w < v → agrees bits t w ≡ true
      below w h = beq_same _ _ (s.sound w h (omega arith) (told bits) x.model)

      own : get_or u v 0 ≡ 2 * v
      own =
          let d = (entries_from_tabled u r.tabled).low v (omega (arith, r.size)) in
          let i = (entries_from_tabled u r.tabled).own v (omega (arith, r.size)) in
          let q : get_or u v 0 / 2 ≡ v
          = ⊎_elim (λ k. absurd (both_ways _ (r.fresh v l x.apart) (below (get_or u v 0 / 2) k))) (λ k. omega arith) (cases_lt (get_or u v 0 / 2) v) in
          sym (ap (λ n. get_or u n 0) q) ∙ self_even u (get_or u v 0) i ∙ ap (λ n. 2 * n) q

      refined : (c : ℕ) → c / 2 < length t → rep u c ≡ cond (beq (lit (told bits) c) (lit (told bits) (rep t c))) (rep t c) (rep f (rep t c))
      refined c h =
          let base : get_or u (c / 2) 0 ≡ cond (beq (told bits (c / 2)) (lit (told bits) (get_or t (c / 2) 0))) (get_or t (c / 2) 0) (rep f (get_or t (c / 2) 0))
          = r.each (c / 2) h ∙ ap (λ b. cond (beq b (lit (told bits) (get_or t (c / 2) 0))) (get_or t (c / 2) 0) (rep f (get_or t (c / 2) 0))) (lit_even (told bits) (c / 2)) in
          elim (eqb (c % 2) 0)
          as (λ b. cond b (get_or u (c / 2) 0) (opp (get_or u (c / 2) 0))
          ≡ cond (beq (cond b (told bits (c / 2)) (not (told bits (c / 2)))) (lit (told bits) (cond b (get_or t (c / 2) 0) (opp (get_or t (c / 2) 0)))))
          (cond b (get_or t (c / 2) 0) (opp (get_or t (c / 2) 0))) (rep f (cond b (get_or t (c / 2) 0) (opp (get_or t (c / 2) 0))))) [
            | true ↦ base
            | false ↦ ap opp base
                ∙ opp_cond _ _ _ _ _
                (ap (beq (not (told bits (c / 2)))) (lit-opp (told bits) (get_or t (c / 2) 0)) ∙ beq_not (told bits (c / 2)) (lit (told bits) (get_or t (c / 2) 0)))
                (rep-opp f (get_or t (c / 2) 0))
          ]

      pub cut : Sweeping cs u (v + 1) left
      cut =
          let kept : (w : ℕ) → w < v → get_or u w 0 ≡ get_or t w 0 = λ w q. rw (r.each w (omega arith), below w q) in
          record {
            some = s.some;
            tabled = r.tabled;
            sound = λ w h k.
                let n : w < length t = omega (arith, r.size) in
                ⊎_elim (λ q. rw (kept w q) (s.sound w q n)) (λ q. let e : w ≡ v = omega arith in rw (e, own) (λ _ _. refl)) (cases_lt w v);
            whole = λ w c h k e.
                let n : w < length t = omega (arith, r.size) in
                let i : c / 2 < length t = omega (arith, r.size) in
                r.each w n ∙ ap (λ z. cond (beq z (lit (told bits) (get_or t w 0))) (get_or t w 0) (rep f (get_or t w 0))) (e (told bits) x.model)
                ∙ ap (λ z. cond (beq (lit (told bits) c) (lit (told bits) z)) z (rep f z)) (s.whole w c n i e)
                ∙ sym (refined c i);
            same = λ a z. s.same a z ∙ ap (λ g. clauses (via a g) cs) (fun_ext (settled_more t u v kept own));
          }

    -- the same, as the code has it
    pub cut_by : (a : ℕ → Bool) (bits : List Bool) (u f : List ℕ) → v < length t → 1 ≤ v → Apart left (2 * v) (get_or t v 0) a → told bits ≡ via a (settled t v)
        → Refines bits t u f → Sweeping cs u (v + 1) left
    cut_by a bits u f l o x e r = cut bits u f l (rw e (lifted a l o x)) r

  -- all are settled
  pub swept : (m : ℕ) (t : List ℕ) (v : ℕ) (left : List (List ℕ)) → Sweeping cs t v left → length t ≡ m + 1 → m < v → goods m cs ≡ true → Swept m cs t
  swept m t v left s n h g = record {
    some = s.some;
    tabled = s.tabled;
    sound = λ w l. s.sound w (omega arith) (omega arith);
    whole = λ w c l k. s.whole w c (omega arith) (omega arith);
    low = λ w l. sym (low w l);
  }
    where
      low : (w : ℕ) → w ≤ m → lowest m cs w ≡ get_or t w 0
      low w l =
          let k : w < length t = omega arith in
          let d = (entries_from_tabled t s.tabled).low w k in
          let i = self_even t (get_or t w 0) ((entries_from_tabled t s.tabled).own w k) in
          let top : get_or t w 0 ≤ 2 * w
          = ⊎_elim (λ q. let e = ap (λ x. get_or t x 0) q in omega arith) (λ q. omega arith) (cases_eq (get_or t w 0 / 2) w) in
          first_is (is_equal m cs (2 * w)) 0 (2 * w) (get_or t w 0) (omega arith) (omega arith)
          ((equal_means m cs (2 * w) (get_or t w 0) g (omega arith) (omega arith)).1 (s.sound w (omega arith) k))
          (λ c _ j. ⊎_elim
          (λ x. let y = s.whole w c k (omega arith) ((equal_means m cs (2 * w) c g (omega arith) (omega arith)).0 x) in
          let r = turn_var (get_or t (c / 2) 0) c in
          let z = (entries_from_tabled t s.tabled).low (c / 2) (omega arith) in
          let q : c / 2 ≡ get_or t w 0 / 2 = omega (arith, ap (λ x. x / 2) y) in
          let p : c % 2 ≡ 0 = omega arith in
          let e = ap (λ x. get_or t x 0) q in
          absurd (grind (arith, nat_tests)))
          (λ x. x) (cases_Bool (is_equal m cs (2 * w) c)))
