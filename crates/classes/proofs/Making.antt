-- The tables of a renumbering, over values. Assumes nothing.
use Rattle.std.proofs.Common.{◌≡◌, ℕ, zero, suc, ◌+◌, ◌-◌, ◌*◌, ◌/◌, ◌%◌, ◌<◌, ◌≤◌, Bool, true, false, cond, ◌||◌, eqb, leb, List, [], ◌∷◌, ◌++◌, map, length, get_or, take, drop, set, replicate, sym, refl, ap, ◌∙◌, subst, ⊎_elim, arith, length-drop, length-set}
use mathlib.Core.Path.{fun_ext}
use Rattle.std.proofs.lemmas.List.{get_or-set_same, get_or-set_other, at_drop_more, take_more, take_all, append-nil, append_assoc, get_or-drop, length-take-le, length-map, take_more_set, map_more, get_or_past, drop-set-lt, drop-drop, length-append}
use Rattle.std.proofs.lemmas.List.Folds.{list_any-append}
use borrow.Rule.Slice.PartMut.{put_mid}
use Rattle.std.proofs.lemmas.Slice.{take-put_mid}
use Rattle.std.proofs.lemmas.Bool.{cases_eq, cases_lt, cases_Bool, eq-eqb, ne_eqb, eqb-true, both_ways, or_cases, and_parts}
use Rattle.std.proofs.lemmas.Bool.Decides.{nat_tests}
use Rattle.cnf.specs.Truth.{inside}
use Rattle.cnf.specs.Words.{encode, good, goods}
use Rattle.cnf.specs.Table.{by}
use Rattle.classes.specs.Renumber.{mentions, occurs, moved, renamed, below, Renumbers}
use Rattle.cnf.proofs.Reading.{first_good}
use Rattle.classes.proofs.Renumbering.{moved_is}
use Rattle.classes.specs.Marks.{Marks, or, Numbered}

or_move : (x y z : Bool) → ((x || y) || z) ≡ (x || (y || z))
or_move true y z = refl
or_move false y z = refl

or-none : (x : Bool) → (x || false) ≡ x
or-none true = refl
or-none false = refl

or_true : (x : Bool) → (x || true) ≡ true
or_true true = refl
or_true false = refl

pub marks_same : (f g : ℕ → Bool) (t : List ℕ) → ((v : ℕ) → f v ≡ g v) → Marks f t → Marks g t
marks_same f g t e h = subst (λ x. Marks x t) (fun_ext e) h

-- one more mark
pub marks_more : (f : ℕ → Bool) (t : List ℕ) (u : ℕ) → u < length t → Marks f t → Marks (or f (eqb u)) (set t u 1)
marks_more f t u l h = record {
  each = λ v k.
      let j : v < length t = simp length-set at k in
      ⊎_elim
      (λ (e : v ≡ u). rw (e, get_or-set_same t u 1 0 l, eq-eqb u u refl, or_true (f u)))
      (λ (e : v ≡ u → ⊥). get_or-set_other t u v 1 0 e ∙ h.each v j ∙ ap (λ b. cond b 1 0) (sym (ap (λ b. f v || b) (ne_eqb u v (λ q. e (sym q))) ∙ or-none (f v))))
      (cases_eq v u);
}

mentions_push : (xs : List ℕ) (c v : ℕ) → mentions (xs ++ c ∷ []) v ≡ (mentions xs v || eqb (c / 2) v)
mentions_push xs c v = list_any-append (λ x. eqb (x / 2) v) xs (c ∷ []) ∙ ap (λ b. mentions xs v || b) (or-none (eqb (c / 2) v))

-- the first i literals are marked
pub record Marking (words t here : List ℕ) (i : ℕ) : Type 0 where
  pub size : length here ≡ length t
  pub named : inside (length t - 1) (drop i words) ≡ true
  pub marked : (f : ℕ → Bool) → Marks f t → Marks (or f (mentions (take i words))) here

module _ (words t here : List ℕ) (i : ℕ) (w : Marking words t here i) where
  pub literal_named : i < length words → (inside (length t - 1) (drop (i + 1) words) ≡ true) × (get_or words i 0 / 2 < length t)
  literal_named l =
      let e = at_drop_more (inside (length t - 1)) words i 0 l in
      let n = w.named in
      let a : 2 ≤ get_or words i 0 = grind (arith, nat_tests) in
      let b : get_or words i 0 ≤ 2 * (length t - 1) + 1 = grind (arith, nat_tests) in
      (grind (arith, nat_tests), omega arith)

  pub marking_more : i < length words → (u : ℕ) → u ≡ get_or words i 0 / 2 → Marking words t (set here u 1) (i + 1)
  marking_more l u q =
      let n = literal_named l in
      rw q record {
        size = length-set here (get_or words i 0 / 2) 1 ∙ w.size;
        named = n.0;
        marked = λ f h. marks_same _ _ _
            (λ v. or_move (f v) (mentions (take i words) v) (eqb (get_or words i 0 / 2) v)
            ∙ ap (λ b. f v || b) (sym (ap (λ xs. mentions xs v) (take_more words i 0 l) ∙ mentions_push (take i words) (get_or words i 0) v)))
            (marks_more (or f (mentions (take i words))) here (get_or words i 0 / 2) (omega (arith, w.size)) (w.marked f h));
      }

  pub marking_all : length words ≤ i → (f : ℕ → Bool) → Marks f t → Marks (or f (mentions words)) here
  marking_all l f h = subst (λ xs. Marks (or f (mentions xs)) here) (take_all i words l) (w.marked f h)

-- what is filled with zeros
pub cleared : (t : List ℕ) (n : ℕ) → ◌≡◌ {A = List ℕ} t (replicate n 0) → (k : ℕ) → get_or t k 0 ≡ 0
cleared t n e k = ap (λ xs. get_or xs k 0) e ∙ get_or-zeros n k
  where
    get_or-zeros : (n k : ℕ) → ◌≡◌ {A = ℕ} (get_or (replicate n 0) k 0) 0
    get_or-zeros zero k = refl
    get_or-zeros (suc n) zero = refl
    get_or-zeros (suc n) (suc k) = get_or-zeros n k

-- the clauses of `all` are marked, but for those that are left
pub record MarkingAll (all left : List (List ℕ)) (t here : List ℕ) : Type 0 where
  pub so_far : ℕ → Bool
  pub size : length here ≡ length t
  pub good : goods (length t - 1) left ≡ true
  pub marks : Marks so_far here
  pub rest : (v : ℕ) → (so_far v || occurs left v) ≡ occurs all v

pub marking_all_none : (all : List (List ℕ)) (t here : List ℕ) → length here ≡ length t → goods (length t - 1) all ≡ true → ((k : ℕ) → k < length here → get_or here k 0 ≡ 0) → MarkingAll all all t here
marking_all_none all t here e h z = record { so_far = λ _. false; size = e; good = h; marks = record { each = z }; rest = λ v. refl }

pub marking_all_more : (all left rest : List (List ℕ)) (c t here after : List ℕ) → left ≡ c ∷ rest → length after ≡ length t → MarkingAll all left t here
    → ((f : ℕ → Bool) → Marks f here → Marks (or f (mentions c)) after) → MarkingAll all rest t after
marking_all_more all left rest c t here after e l w h = record {
  so_far = or w.so_far (mentions c);
  size = l;
  good = (first_good (length t - 1) left rest c e w.good).rest;
  marks = h w.so_far w.marks;
  rest = λ v. or_move (w.so_far v) (mentions c v) (occurs rest v) ∙ ap (λ cs. w.so_far v || occurs cs v) (sym e) ∙ w.rest v;
}

pub marking_all_done : (all left : List (List ℕ)) (t here : List ℕ) → left ≡ [] → MarkingAll all left t here → Marks (occurs all) here
marking_all_done all left t here e w = marks_same w.so_far _ here (λ v. sym (or-none (w.so_far v)) ∙ ap (λ cs. w.so_far v || occurs cs v) (sym e) ∙ w.rest v) w.marks

bit_one : (b : Bool) → ◌≡◌ {A = ℕ} (cond b 1 0) 1 → b ≡ true
bit_one true e = refl
bit_one false e = absurd (omega arith)

bit_zero : (b : Bool) → (◌≡◌ {A = ℕ} (cond b 1 0) 1 → ⊥) → b ≡ false
bit_zero true e = absurd (e refl)
bit_zero false e = refl

-- one number more is counted
below_more : (f : ℕ → Bool) (v m b : ℕ) → m ≡ below f v → cond (f v) 1 0 ≡ b → m + b ≡ below f (v + 1)
below_more f v m b e h = let z : suc v ≡ v + 1 = omega arith in omega (arith, ap (below f) z)

-- numbering
module _ (f : ℕ → Bool) (rank old : List ℕ) where
  pub numbered_none : Marks f rank → get_or rank 0 0 ≡ 0 → 0 < length rank → get_or old 0 0 ≡ 0 → Numbered f rank old 1 0
  numbered_none h z l o =
      let no : f 0 ≡ false = bit_zero (f 0) (λ x. let y = sym (h.each 0 l) ∙ z in omega arith) in
      record {
        rank_zero = z;
        old_zero = o;
        few = omega arith;
        count = sym (ap (λ b. 0 + cond b 1 0) no);
        small = λ w k. let q : w ≡ 0 = omega arith in rw (q, z) (omega arith);
        later = λ w _ k. h.each w k;
        to = λ w k e. let q : w ≡ 0 = omega arith in absurd (both_ways (f 0) no (ap f (sym q) ∙ e));
        from = λ k i j. absurd (omega arith);
        rising = λ j k i l. absurd (omega arith);
      }

  module _ (v m : ℕ) (s : Numbered f rank old v m) (l : v < length rank) where
    pub numbered_skip : (get_or rank v 0 ≡ 1 → ⊥) → Numbered f rank old (v + 1) m
    numbered_skip n =
        let no : f v ≡ false = bit_zero (f v) (λ e. n (s.later v (omega arith) l ∙ e)) in
        let z : get_or rank v 0 ≡ 0 = s.later v (omega arith) l ∙ ap (λ b. cond b 1 0) no in
        record {
          rank_zero = s.rank_zero;
          old_zero = s.old_zero;
          few = omega (arith, s.few);
          count = (let z : m ≡ m + 0 = omega arith in z ∙ below_more f v m 0 s.count (ap (λ b. cond b 1 0) no));
          small = λ w k. ⊎_elim (λ (e : w ≡ v). rw (e, z) (omega arith)) (λ (e : w ≡ v → ⊥). s.small w (omega arith)) (cases_eq w v);
          later = λ w k. s.later w (omega arith);
          to = λ w k y. ⊎_elim (λ (e : w ≡ v). absurd (both_ways _ no (ap f (sym e) ∙ y))) (λ (e : w ≡ v → ⊥). s.to w (omega arith) y) (cases_eq w v);
          from = λ k i j. let r = s.from k i j in (r.0, omega arith, r.2);
          rising = s.rising;
        }

    pub numbered_more : length rank ≡ length old → 1 ≤ v → get_or rank v 0 ≡ 1 → (x y : ℕ) → x ≡ m + 1 → y ≡ v → Numbered f (set rank v x) (set old (m + 1) y) (v + 1) (m + 1)
    numbered_more lo o n x y p q =
        let yes : f v ≡ true = bit_one (f v) (sym (s.later v (omega arith) l) ∙ n) in
        let lm : m + 1 < length old = omega (arith, s.few) in
        let rv : get_or (set rank v (m + 1)) v 0 ≡ m + 1 = get_or-set_same rank v (m + 1) 0 l in
        let om : get_or (set old (m + 1) v) (m + 1) 0 ≡ v = get_or-set_same old (m + 1) v 0 lm in
        let ro : (w : ℕ) → (w ≡ v → ⊥) → get_or (set rank v (m + 1)) w 0 ≡ get_or rank w 0 = λ w e. get_or-set_other rank v w (m + 1) 0 e in
        let oo : (k : ℕ) → (k ≡ m + 1 → ⊥) → get_or (set old (m + 1) v) k 0 ≡ get_or old k 0 = λ k e. get_or-set_other old (m + 1) k v 0 e in
        rw (p, q) record {
          rank_zero = ro 0 (λ e. omega arith) ∙ s.rank_zero;
          old_zero = oo 0 (λ e. omega arith) ∙ s.old_zero;
          few = omega (arith, s.few);
          count = below_more f v m 1 s.count (ap (λ b. cond b 1 0) yes);
          small = λ w k. ⊎_elim (λ (e : w ≡ v). rw (e, rv) (omega arith)) (λ (e : w ≡ v → ⊥). let q = s.small w (omega arith) in rw (ro w e) (omega arith)) (cases_eq w v);
          later = λ w k j. ro w (λ e. omega arith) ∙ s.later w (omega arith) (simp length-set at j);
          to = λ w k y. ⊎_elim
              (λ (e : w ≡ v). rw (e, rv) (omega arith, om))
              (λ (e : w ≡ v → ⊥). let q = s.to w (omega arith) y in rw (ro w e) (omega arith, oo (get_or rank w 0) (λ z. omega arith) ∙ q.1)) (cases_eq w v);
          from = λ k i j. ⊎_elim
              (λ (e : k ≡ m + 1). rw (e, om) (rv, omega arith, yes))
              (λ (e : k ≡ m + 1 → ⊥). let q = s.from k i (omega arith) in rw (oo k e) (ro (get_or old k 0) (λ z. omega arith) ∙ q.0, omega arith, q.2)) (cases_eq k (m + 1));
          rising = λ j k i h. ⊎_elim
              (λ (e : k ≡ m + 1). rw (e, om, oo j (λ z. omega arith))
              (⊎_elim (λ (z : j ≡ 0). rw (z, s.old_zero) o) (λ (z : j ≡ 0 → ⊥). (s.from j (omega arith) (omega arith)).1) (cases_eq j 0)))
              (λ (e : k ≡ m + 1 → ⊥). rw (oo k e, oo j (λ z. omega arith)) (s.rising j k i (omega arith))) (cases_eq k (m + 1));
        }

-- numbering from the constant on, which is not marked
pub record Numbering (marks first rank old : List ℕ) (v m : ℕ) : Type 0 where
  pub size : length old ≡ length rank
  pub zero : get_or rank 0 0 ≡ 0
  pub start : v ≡ 0 → (rank ≡ marks) × (old ≡ first) × (m ≡ 0)
  pub few : 0 < v → m < v
  pub done : 0 < v → (f : ℕ → Bool) → Marks f marks → Numbered f rank old v m

module _ (marks first rank old : List ℕ) (v m : ℕ) (s : Numbering marks first rank old v m) (l : v < length rank) where
  pub numbering_skip : get_or first 0 0 ≡ 0 → (get_or rank v 0 ≡ 1 → ⊥) → Numbering marks first rank old (v + 1) m
  numbering_skip z n = record {
    size = s.size;
    zero = s.zero;
    start = λ e. absurd (omega arith);
    few = λ _. ⊎_elim (λ (e : v ≡ 0). let q = (s.start e).2 in omega arith) (λ (e : v ≡ 0 → ⊥). let q = s.few (omega arith) in omega arith) (cases_eq v 0);
    done = λ _ f h. ⊎_elim
        (λ (e : v ≡ 0).
        let b = s.start e in
        rw (e, b.2) (numbered_none f rank old (subst (Marks f) (sym b.0) h) s.zero (omega arith) (ap (λ xs. get_or xs 0 0) b.1 ∙ z)))
        (λ (e : v ≡ 0 → ⊥). numbered_skip f rank old v m (s.done (omega arith) f h) l n) (cases_eq v 0);
  }

  pub numbering_more : get_or rank v 0 ≡ 1 → (x y : ℕ) → x ≡ m + 1 → y ≡ v → Numbering marks first (set rank v x) (set old (m + 1) y) (v + 1) (m + 1)
  numbering_more n x y p q =
      let o : 1 ≤ v = ⊎_elim (λ (e : v ≡ 0). let z = ap (λ w. get_or rank w 0) e in let t = s.zero in absurd (omega arith)) (λ (e : v ≡ 0 → ⊥). omega arith) (cases_eq v 0) in
      let few = s.few (omega arith) in
      record {
        size = length-set old (m + 1) y ∙ s.size ∙ sym (length-set rank v x);
        zero = get_or-set_other rank v 0 x 0 (λ e. omega arith) ∙ s.zero;
        start = λ e. absurd (omega arith);
        few = λ _. omega arith;
        done = λ _ f h. numbered_more f rank old v m (s.done (omega arith) f h) l (sym s.size) o n x y p q;
      }

  -- there is room for one number more
  pub numbering_room : get_or rank v 0 ≡ 1 → m + 1 < length old
  numbering_room n =
      ⊎_elim (λ (e : v ≡ 0). let z = ap (λ w. get_or rank w 0) e in let t = s.zero in absurd (omega arith)) (λ (e : v ≡ 0 → ⊥). let few = s.few (omega arith) in omega (arith, s.size)) (cases_eq v 0)

-- what occurs is a variable from 1 to n
pub mentions_within : (n : ℕ) (c : List ℕ) (v : ℕ) → inside n c ≡ true → mentions c v ≡ true → (1 ≤ v) × (v ≤ n)
mentions_within n [] v h e = absurd (both_ways false refl e)
mentions_within n (c ∷ cs) v h e =
    let a : 2 ≤ c = grind (arith, nat_tests) in
    let b : c / 2 ≤ n = grind (arith, nat_tests) in
    let i : inside n cs ≡ true = grind arith in
    ⊎_elim (λ (q : eqb (c / 2) v ≡ true). let y = eqb-true (c / 2) v q in (omega arith, omega arith)) (λ q. mentions_within n cs v i q) (or_cases (eqb (c / 2) v) (mentions cs v) e)

pub occurs_within : (n : ℕ) (cs : List (List ℕ)) (v : ℕ) → goods n cs ≡ true → occurs cs v ≡ true → (1 ≤ v) × (v ≤ n)
occurs_within n [] v h e = absurd (both_ways false refl e)
occurs_within n (c ∷ cs) v h e =
    let p = and_parts (good n c) (goods n cs) h in
    let q = and_parts (leb (length c) 64) (inside n c) p.0 in
    ⊎_elim (λ y. mentions_within n c v q.1 y) (λ y. occurs_within n cs v p.1 y) (or_cases (mentions c v) (occurs cs v) e)

-- the constant is not marked
pub zero_unmarked : (n : ℕ) (cs : List (List ℕ)) (t : List ℕ) → goods n cs ≡ true → 0 < length t → Marks (occurs cs) t → get_or t 0 0 ≡ 0
zero_unmarked n cs t g l h =
    ⊎_elim (λ (y : occurs cs 0 ≡ true). let w = occurs_within n cs 0 g y in absurd (omega arith)) (λ (y : occurs cs 0 ≡ false). h.each 0 l ∙ rw y refl) (cases_Bool (occurs cs 0))

pub all_small : (f : ℕ → Bool) (rank old : List ℕ) (m : ℕ) → length rank ≤ 2001 → Numbered f rank old (length rank) m → (v : ℕ) → get_or rank v 0 ≤ 2000
all_small f rank old m l s v =
    ⊎_elim (λ (h : v < length rank). let q = s.small v h in let y = s.few in omega arith) (λ (h : length rank ≤ v). rw (get_or_past rank v 0 h) (omega arith)) (cases_lt v (length rank))

pub renumbers : (cs : List (List ℕ)) (n m : ℕ) (rank old : List ℕ) → goods n cs ≡ true → Numbered (occurs cs) rank old (n + 1) m → Renumbers cs n m (by rank) (by old)
renumbers cs n m rank old g s = record {
  few = omega (arith, s.few);
  rank_zero = s.rank_zero;
  old_zero = s.old_zero;
  to = λ v e. let h = occurs_within n cs v g e in s.to v (omega arith) e;
  from = λ k i j. let q = s.from k i j in (q.0, omega arith, q.2);
  rising = s.rising;
}

-- the first s literals of a clause are renumbered
pub record Shifting (f : ℕ → ℕ) (clause here : List ℕ) (s : ℕ) : Type 0 where
  pub size : length here ≡ length clause
  pub done : take s here ≡ map (moved f) (take s clause)
  pub rest : drop s here ≡ drop s clause

module _ (f : ℕ → ℕ) (clause here : List ℕ) (s : ℕ) (w : Shifting f clause here s) where
  pub shifting_here : s < length here → get_or here s 0 ≡ get_or clause s 0
  shifting_here l =
      let z : s + 0 ≡ s = omega arith in
      ap (λ i. get_or here i 0) (sym z) ∙ sym (get_or-drop s here 0 0) ∙ ap (λ xs. get_or xs 0 0) w.rest ∙ get_or-drop s clause 0 0 ∙ ap (λ i. get_or clause i 0) z

  pub shifting_more : s < length here → (u : ℕ) → u ≡ get_or here s 0 / 2 → Shifting f clause (set here s (2 * f u + get_or here s 0 % 2)) (s + 1)
  shifting_more l u q =
      let c : ℕ = get_or here s 0 in
      let e = shifting_here l in
      rw q record {
        size = length-set here s (2 * f (c / 2) + c % 2) ∙ w.size;
        done = take_more_set here s (2 * f (c / 2) + c % 2) l ∙ ap (λ xs. xs ++ (2 * f (c / 2) + c % 2) ∷ []) w.done
            ∙ ap (λ x. map (moved f) (take s clause) ++ x ∷ []) (moved_is f c ∙ ap (moved f) e) ∙ sym (map_more (moved f) clause s 0 (omega (arith, w.size)));
        rest = drop-set-lt (s + 1) here s (2 * f (c / 2) + c % 2) (omega arith) ∙ sym (drop-drop 1 s here) ∙ ap (drop 1) w.rest ∙ drop-drop 1 s clause;
      }

  pub shifting_all : length here ≤ s → here ≡ map (moved f) clause
  shifting_all l = sym (take_all s here l) ∙ w.done ∙ ap (map (moved f)) (take_all s clause (omega (arith, w.size)))

-- a literal that is still to be renumbered is of a variable from 1 to m
pub shifting_named : (f : ℕ → ℕ) (m : ℕ) (clause here : List ℕ) (s : ℕ) → Shifting f clause here s → s < length here → inside m clause ≡ true → (1 ≤ get_or here s 0 / 2) × (get_or here s 0 / 2 ≤ m)
shifting_named f m clause here s w l h =
    let q = inside_at m clause s (omega (arith, w.size)) h in
    let e = shifting_here f clause here s w l in
    (omega arith, omega arith)
  where
    inside_at : (m : ℕ) (xs : List ℕ) (i : ℕ) → i < length xs → inside m xs ≡ true → (1 ≤ get_or xs i 0 / 2) × (get_or xs i 0 / 2 ≤ m)
    inside_at m [] i l h = absurd (omega arith)
    inside_at m (x ∷ xs) zero l h = let a : 2 ≤ x = grind (arith, nat_tests) in let b : x ≤ 2 * m + 1 = grind (arith, nat_tests) in (omega arith, omega arith)
    inside_at m (x ∷ xs) (suc i) l h = inside_at m xs i (omega arith) (grind (arith, nat_tests))

-- the clauses of `all` are written up to the place `at`, but for those that are left
pub record Writing (f : ℕ → ℕ) (m : ℕ) (all left : List (List ℕ)) (work here : List ℕ) (at : ℕ) : Type 0 where
  pub size : length here ≡ length work
  pub room : at + length (encode left) ≡ length (encode all)
  pub fits : length (encode all) ≤ length work
  pub good : goods m left ≡ true
  pub words : take at here ++ encode (renamed f left) ≡ encode (renamed f all)

module _ (f : ℕ → ℕ) (m : ℕ) (all left : List (List ℕ)) (work here : List ℕ) (at : ℕ) (w : Writing f m all left work here at) where
  -- the words of the next clause: its count is written, then its literals
  pub writing_more : (rest : List (List ℕ)) (c ys : List ℕ) (j end : ℕ) → left ≡ c ∷ rest → j ≡ length c → ys ≡ map (moved f) c → end ≡ at + 1 + length c
      → Writing f m all rest work (put_mid (at + 1) j (set here at (length c)) ys) end
  writing_more rest c ys j end e z t q =
      let k : ℕ = length c in
      let xs : List ℕ = set here at k in
      let ly : length ys ≡ k = ap length t ∙ length-map c (moved f) in
      let room : end + length (encode rest) ≡ length (encode all) = omega (arith, w.room, ap (λ cs. length (encode cs)) e, length-append c (encode rest)) in
      let fits = w.fits in
      let here_size = w.size in
      let lx : length xs ≡ length here = length-set here at k in
      let lt : length (take (at + 1) xs) ≡ at + 1 = length-take-le (at + 1) xs (omega arith) in
      let front : take (at + 1) xs ≡ take at here ++ k ∷ [] = take_more_set here at k (omega arith) in
      let written : take end (put_mid (at + 1) j xs ys) ≡ take at here ++ k ∷ ys =
      take-put_mid (at + 1) j xs ys end (omega arith) (omega arith) ∙ ap (λ zs. zs ++ ys) front ∙ append_assoc (take at here) (k ∷ []) ys in
      record {
        size = omega (arith, length-append (take (at + 1) xs) (ys ++ drop j (drop (at + 1) xs)), length-append ys (drop j (drop (at + 1) xs)), length-drop j (drop (at + 1) xs), length-drop (at + 1) xs);
        room = room;
        fits = w.fits;
        good = (first_good m left rest c e w.good).rest;
        words = ap (λ zs. zs ++ encode (renamed f rest)) written ∙ append_assoc (take at here) (k ∷ ys) (encode (renamed f rest))
            ∙ ap (λ x. take at here ++ x ∷ (ys ++ encode (renamed f rest))) (sym ly) ∙ ap (λ zs. take at here ++ length zs ∷ (zs ++ encode (renamed f rest))) t ∙ ap (λ cs. take at here ++ encode (renamed f cs)) (sym e) ∙ w.words;
      }

  pub writing_all : left ≡ [] → take at here ≡ encode (renamed f all)
  writing_all e = sym (append-nil (take at here)) ∙ ap (λ cs. take at here ++ encode (renamed f cs)) (sym e) ∙ w.words
