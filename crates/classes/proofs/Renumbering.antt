-- Renumbering keeps the lowest equal literal, and a table that is followed keeps a sheet's assignments. Assumes nothing.
use Rattle.std.proofs.Common.{◌≡◌, ℕ, zero, suc, ◌+◌, ◌*◌, ◌/◌, ◌%◌, ◌<◌, ◌≤◌, Bool, true, false, cond, not, ◌&&◌, ◌||◌, eqb, List, [], ◌∷◌, map, length, get_or, sym, refl, ap, ◌∙◌, ⊎_elim, arith}
use Rattle.std.proofs.lemmas.Bool.{both_ways, cases_Bool, cases_eq, cases_lt, eq-eqb, ne_eqb, or_left, or_right}
use Rattle.std.proofs.lemmas.Bool.Decides.{nat_tests}
use Rattle.cnf.specs.Truth.{lit, clause, clauses, Model, Equal}
use Rattle.cnf.specs.Words.{goods}
use Rattle.cnf.specs.Table.{by, via, applieds}
use Rattle.cnf.specs.Finite.{is_equal, first, lowest}
use Rattle.classes.specs.Renumber.{mentions, occurs, moved, renamed, Renumbers, RenumberingKeeps, Stands, SheetKeeps}
use Rattle.cnf.proofs.Tables.{lit_turn, applied_keeps_truth}
use Rattle.cnf.proofs.Counting.{clauses_same, equal_means, first_is}

pub lit_even : (a : ℕ → Bool) (w : ℕ) → lit a (2 * w) ≡ a w
lit_even a w = let p : (2 * w) % 2 ≡ 0 = omega arith in let q : (2 * w) / 2 ≡ w = omega arith in let e = ap a q in grind (arith, nat_tests)

pub lit_at : (a b : ℕ → Bool) (c : ℕ) → a (c / 2) ≡ b (c / 2) → lit a c ≡ lit b c
lit_at a b c e = ap (λ x. cond (eqb (c % 2) 0) x (not x)) e

-- a moved literal has the value that its literal has under the moved assignment
lit-moved : (a : ℕ → Bool) (f : ℕ → ℕ) (c : ℕ) → lit a (moved f c) ≡ lit (λ v. a (f v)) c
lit-moved a f c = lit_turn a (2 * f (c / 2)) c ∙ ap (λ x. cond (eqb (c % 2) 0) x (not x)) (lit_even a (f (c / 2)))

clause-moved : (a : ℕ → Bool) (f : ℕ → ℕ) (c : List ℕ) → clause a (map (moved f) c) ≡ clause (λ v. a (f v)) c
clause-moved a f [] = refl
clause-moved a f (c ∷ cs) = ap (λ x. x || clause a (map (moved f) cs)) (lit-moved a f c) ∙ ap (λ x. lit (λ v. a (f v)) c || x) (clause-moved a f cs)

pub clauses-moved : (a : ℕ → Bool) (f : ℕ → ℕ) (cs : List (List ℕ)) → clauses a (renamed f cs) ≡ clauses (λ v. a (f v)) cs
clauses-moved a f [] = refl
clauses-moved a f (c ∷ cs) = ap (λ x. x && clauses a (renamed f cs)) (clause-moved a f c) ∙ ap (λ x. clause (λ v. a (f v)) c && x) (clauses-moved a f cs)

-- only the variables that occur count
clause-on : (a b : ℕ → Bool) (c : List ℕ) → ((v : ℕ) → mentions c v ≡ true → a v ≡ b v) → clause a c ≡ clause b c
clause-on a b [] h = refl
clause-on a b (c ∷ cs) h =
    ap (λ x. x || clause a cs) (lit_at a b c (h (c / 2) (or_left _ _ (eq-eqb (c / 2) (c / 2) refl))))
    ∙ ap (λ x. lit b c || x) (clause-on a b cs (λ v e. h v (or_right (eqb (c / 2) v) (mentions cs v) e)))

pub clauses-on : (a b : ℕ → Bool) (cs : List (List ℕ)) → ((v : ℕ) → occurs cs v ≡ true → a v ≡ b v) → clauses a cs ≡ clauses b cs
clauses-on a b [] h = refl
clauses-on a b (c ∷ cs) h =
    ap (λ x. x && clauses a cs) (clause-on a b c (λ v e. h v (or_left (mentions c v) (occurs cs v) e)))
    ∙ ap (λ x. clause b c && x) (clauses-on a b cs (λ v e. h v (or_right (mentions c v) (occurs cs v) e)))

-- what the first number with p is
pub first_hits : (p : ℕ → Bool) (c k : ℕ) → p (c + k) ≡ true → p (first p c k) ≡ true
first_hits p c zero e = let z : c ≡ c + 0 = omega arith in ap p z ∙ e
first_hits p c (suc k) e =
    let z : c + 1 + k ≡ c + suc k = omega arith in
    elim (p c) as (λ b. p c ≡ b → p (cond b c (first p (c + 1) k)) ≡ true) [ true ↦ λ q. q | false ↦ λ q. first_hits p (c + 1) k (ap p z ∙ e) ] refl

pub first_least : (p : ℕ → Bool) (c k d : ℕ) → c ≤ d → d < first p c k → p d ≡ false
first_least p c zero d h l = absurd (omega arith)
first_least p c (suc k) d h l =
    elim (p c) as (λ b. p c ≡ b → d < cond b c (first p (c + 1) k) → p d ≡ false) [
      | true ↦ λ q j. absurd (omega arith)
      | false ↦ λ q j. ⊎_elim (λ (e : d ≡ c). rw e q) (λ (e : d ≡ c → ⊥). first_least p (c + 1) k d (omega arith) j) (cases_eq d c)
    ] refl l

pub first_most : (p : ℕ → Bool) (c k : ℕ) → first p c k ≤ c + k
first_most p c zero = omega arith
first_most p c (suc k) =
    let i = first_most p (c + 1) k in
    elim (p c) as (λ b. cond b c (first p (c + 1) k) ≤ c + suc k) [ true ↦ omega arith | false ↦ omega arith ]

pub moved_is : (f : ℕ → ℕ) (c : ℕ) → 2 * f (c / 2) + c % 2 ≡ moved f c
moved_is f c = ⊎_elim
    (λ (e : c % 2 ≡ 0). rw (eq-eqb (c % 2) 0 e) (omega arith))
    (λ (e : c % 2 ≡ 0 → ⊥). rw (ne_eqb (c % 2) 0 e) (omega arith)) (cases_eq (c % 2) 0)

moved_half : (f : ℕ → ℕ) (c : ℕ) → (moved f c / 2 ≡ f (c / 2)) × (moved f c % 2 ≡ c % 2)
moved_half f c = let e = moved_is f c in (omega arith, omega arith)

-- the assignment with one bit turned over
abbrev turned : (ℕ → Bool) → ℕ → ℕ → Bool
turned g u v = cond (eqb v u) (not (g v)) (g v)

turned_other : (g : ℕ → Bool) (u v : ℕ) → (v ≡ u → ⊥) → turned g u v ≡ g v
turned_other g u v n = rw (ne_eqb v u n)

lit-turned : (g : ℕ → Bool) (d : ℕ) → lit (turned g (d / 2)) d ≡ not (lit g d)
lit-turned g d =
    let e : turned g (d / 2) (d / 2) ≡ not (g (d / 2)) = rw (eq-eqb (d / 2) (d / 2) refl) in
    grind (arith, nat_tests)

pub not_same : (b : Bool) → b ≡ not b → ⊥
not_same true e = both_ways true e refl
not_same false e = both_ways false refl e

-- a variable that does not occur is free: no literal of another variable equals it
pub free : (cs : List (List ℕ)) (g : ℕ → Bool) → Model cs g → (c d : ℕ) → occurs cs (d / 2) ≡ false → (d / 2 ≡ 0 → ⊥) → (c / 2 ≡ d / 2 → ⊥) → Equal cs c d → ⊥
free cs g x c d f z n e =
    let u : ℕ = d / 2 in
    let other : (k : ℕ) → occurs cs k ≡ true → turned g u k ≡ g k = λ k i. turned_other g u k (λ q. both_ways _ f (ap (occurs cs) (sym q) ∙ i)) in
    let y : Model cs (turned g u) = record {
      constant = turned_other g u 0 (λ q. z (sym q)) ∙ x.constant;
      holds = clauses-on (turned g u) g cs other ∙ x.holds;
    } in
    not_same (lit g d) (sym (e g x) ∙ lit_at g (turned g u) c (sym (turned_other g u (c / 2) n)) ∙ e (turned g u) y ∙ lit-turned g d)

module _ (cs : List (List ℕ)) (n m : ℕ) (rank old : ℕ → ℕ) (r : Renumbers cs n m rank old) where
  back : (k : ℕ) → k ≤ m → rank (old k) ≡ k
  back k h = ⊎_elim (λ (e : k ≡ 0). rw (e, r.old_zero, r.rank_zero)) (λ (e : k ≡ 0 → ⊥). (r.from k (omega arith) h).0) (cases_eq k 0)

  pub model_old : (b : ℕ → Bool) → Model cs b → Model (renamed rank cs) (λ k. b (old k))
  model_old b x = record {
    constant = ap b r.old_zero ∙ x.constant;
    holds = clauses-moved (λ k. b (old k)) rank cs ∙ clauses-on (λ v. b (old (rank v))) b cs (λ v e. ap b (r.to v e).1) ∙ x.holds;
  }

  pub model_rank : (a : ℕ → Bool) → Model (renamed rank cs) a → Model cs (λ v. a (rank v))
  model_rank a x = record { constant = ap a r.rank_zero ∙ x.constant; holds = sym (clauses-moved a rank cs) ∙ x.holds }

  pub equal_old : (w c : ℕ) → Equal (renamed rank cs) (2 * w) c → Equal cs (2 * old w) (moved old c)
  equal_old w c e b x =
      lit_even b (old w) ∙ sym (lit_even (λ k. b (old k)) w) ∙ e (λ k. b (old k)) (model_old b x) ∙ sym (lit-moved b old c)

  pub equal_rank : (w c : ℕ) → w ≤ m → c / 2 ≤ m → Equal cs (2 * old w) (moved old c) → Equal (renamed rank cs) (2 * w) c
  equal_rank w c h l e a x =
      lit_even a w ∙ ap a (sym (back w h)) ∙ sym (lit_even (λ v. a (rank v)) (old w)) ∙ e (λ v. a (rank v)) (model_rank a x)
      ∙ lit-moved (λ v. a (rank v)) old c ∙ lit_at (λ k. a (rank (old k))) a c (ap a (back (c / 2) l))

  moved_rises : (c d : ℕ) → c ≤ d → d / 2 ≤ m → moved old c ≤ moved old d
  moved_rises c d h l =
      let p = moved_half old c in
      let q = moved_half old d in
      ⊎_elim
      (λ (e : c / 2 ≡ d / 2). let z = ap old e in omega arith)
      (λ (e : c / 2 ≡ d / 2 → ⊥). let z = r.rising (c / 2) (d / 2) (omega arith) l in omega arith) (cases_eq (c / 2) (d / 2))

  -- a literal of the variables that are numbered comes back
  moved_back : (d : ℕ) → old (rank (d / 2)) ≡ d / 2 → moved old (moved rank d) ≡ d
  moved_back d e =
      let p = moved_half rank d in
      let q = moved_half old (moved rank d) in
      let z = ap old p.0 in
      omega arith

  pub lowest_old : goods n cs ≡ true → goods m (renamed rank cs) ≡ true → (g : ℕ → Bool) → Model cs g → (w : ℕ) → 1 ≤ w → w ≤ m
      → lowest n cs (old w) ≡ moved old (lowest m (renamed rank cs) w)
  lowest_old gn gm g x w o h =
      let p : ℕ → Bool = is_equal m (renamed rank cs) (2 * w) in
      let k : ℕ = first p 0 (2 * w) in
      let top : k ≤ 2 * w = omega (arith, first_most p 0 (2 * w)) in
      let zz : 0 + 2 * w ≡ 2 * w = omega arith in
      let hit : p k ≡ true = first_hits p 0 (2 * w) (ap p zz ∙ (equal_means m (renamed rank cs) (2 * w) (2 * w) gm (omega arith) (omega arith)).1 (λ _ _. refl)) in
      let eq : Equal (renamed rank cs) (2 * w) k = (equal_means m (renamed rank cs) (2 * w) k gm (omega arith) (omega arith)).0 hit in
      let fw = r.from w o h in
      let mk = moved_rises k (2 * w) top (omega arith) in
      let mh = moved_half old (2 * w) in
      let half : (2 * w) / 2 ≡ w = omega arith in
      let ow = ap old half in
      let le : moved old k ≤ 2 * old w = omega arith in
      first_is (is_equal n cs (2 * old w)) 0 (2 * old w) (moved old k) (omega arith) (omega arith)
      ((equal_means n cs (2 * old w) (moved old k) gn (omega arith) (omega arith)).1 (equal_old w k eq))
      (λ d _ l. ⊎_elim (λ (y : is_equal n cs (2 * old w) d ≡ true). absurd (lower d ((equal_means n cs (2 * old w) d gn (omega arith) (omega arith)).0 y) k refl l)) (λ (y : is_equal n cs (2 * old w) d ≡ false). y) (cases_Bool (is_equal n cs (2 * old w) d)))
    where
      known : (d : ℕ) → old (rank (d / 2)) ≡ d / 2 → rank (d / 2) ≤ m → Equal cs (2 * old w) d → (k : ℕ) → first (is_equal m (renamed rank cs) (2 * w)) 0 (2 * w) ≡ k → d < moved old k → ⊥
      known d b i e k q l =
          let c : ℕ = moved rank d in
          let t = moved_back d b in
          let hc = moved_half rank d in
          let eq : Equal cs (2 * old w) (moved old c) = rw t e in
          let on = (equal_means m (renamed rank cs) (2 * w) c gm (omega arith) (omega arith)).1 (equal_rank w c h (omega arith) eq) in
          ⊎_elim
          (λ (j : c < k). both_ways _ (first_least (is_equal m (renamed rank cs) (2 * w)) 0 (2 * w) c (omega arith) (omega arith)) on)
          (λ (j : k ≤ c). let z = moved_rises k c j (omega arith) in omega arith) (cases_lt c k)

      lower : (d : ℕ) → Equal cs (2 * old w) d → (k : ℕ) → first (is_equal m (renamed rank cs) (2 * w)) 0 (2 * w) ≡ k → d < moved old k → ⊥
      lower d e k q l =
          ⊎_elim
          (λ (y : occurs cs (d / 2) ≡ true). let t = r.to (d / 2) y in known d t.1 t.0 e k q l)
          (λ (y : occurs cs (d / 2) ≡ false). ⊎_elim
          (λ (z : d / 2 ≡ 0). let rz = ap rank z ∙ r.rank_zero in known d (ap old rz ∙ r.old_zero ∙ sym z) (omega arith) e k q l)
          (λ (z : d / 2 ≡ 0 → ⊥). free cs g x (2 * old w) d y z (λ q. let i : old w ≡ d / 2 = omega arith in both_ways _ y (ap (occurs cs) (sym i) ∙ (r.from w o h).2)) e) (cases_eq (d / 2) 0))
          (cases_Bool (occurs cs (d / 2)))

pub renumbering_keeps : RenumberingKeeps
renumbering_keeps cs n m rank old r gn gm g x w o h = lowest_old cs n m rank old r gn gm g x w o h

-- a table that is followed changes no value
via-followed : (n : ℕ) (t : List ℕ) (a : ℕ → Bool) → length t ≡ n + 1 → ((v : ℕ) → v < length t → a v ≡ lit a (get_or t v 0)) → (v : ℕ) → v ≤ n → via a (by t) v ≡ a v
via-followed n t a l h v k = sym (h v (omega arith))

pub sheet_keeps : SheetKeeps
sheet_keeps n cs t u l g later agree a = (there, back')
  where
    lu : length u ≡ n + 1
    lu = later.size ∙ l

    there : Stands cs t a → Stands (applieds (by u) cs) u a
    there s =
        let f : (v : ℕ) → v < length u → a v ≡ lit a (get_or u v 0) = λ v k. agree a s v (omega (arith, later.size)) in
        record {
          model = record {
            constant = s.model.constant;
            holds = applied_keeps_truth a (by u) cs s.model.constant ∙ clauses_same n (via a (by u)) a (via-followed n u a lu f) cs g ∙ s.model.holds;
          };
          follows = f;
        }

    back' : Stands (applieds (by u) cs) u a → Stands cs t a
    back' s = record {
      model = record {
        constant = s.model.constant;
        holds = sym (clauses_same n (via a (by u)) a (via-followed n u a lu s.follows) cs g) ∙ sym (applied_keeps_truth a (by u) cs s.model.constant) ∙ s.model.holds;
      };
      follows = λ v k.
          let i = later.inner v k in
          let e = s.follows v (omega (arith, later.size)) in
          let d = s.follows (get_or t v 0 / 2) (omega (arith, later.size)) in
          e ∙ ap (lit a) (later.each v k) ∙ lit_turn a (get_or u (get_or t v 0 / 2) 0) (get_or t v 0) ∙ sym (ap (λ x. cond (eqb (get_or t v 0 % 2) 0) x (not x)) d);
    }
