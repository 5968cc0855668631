-- The names of the small list, under their own numbers. Assumes nothing.
use Rattle.std.proofs.Common.{◌≡◌, ℕ, ◌+◌, ◌-◌, ◌*◌, ◌/◌, ◌%◌, ◌<◌, ◌≤◌, Bool, true, false, cond, eqb, leb, List, [], ◌∷◌, map, length, get_or, take, set, None, sym, refl, ap, ◌∙◌, subst, ⊎_elim, arith, length-set}
use Rattle.std.proofs.lemmas.List.{get_or-set_same, get_or-set_other, length-map}
use Rattle.std.proofs.lemmas.Bool.{cases_eq, cases_Bool, both_ways, eq-eqb, le-leb, or_left, or_right, and_parts, and_from}
use Rattle.cnf.specs.Truth.{Model, inside}
use Rattle.cnf.specs.Words.{read, good, goods, well}
use Rattle.cnf.proofs.Reading.{read_means, read-encode, well-encode}
use Rattle.classes.specs.Classes.{Swept}
use Rattle.cnf.specs.Table.{by}
use Rattle.cnf.specs.Finite.{lowest}
use Rattle.classes.specs.Renumber.{mentions, occurs, occurring, moved, renamed, Renumbers}
use Rattle.classes.proofs.Renumbering.{lowest_old, model_old, model_rank, moved_is}
use Rattle.classes.proofs.Making.{occurs_within}
use Rattle.classes.specs.Marks.{Renumbered}
use Rattle.classes.specs.Group.{Carried, CarriedBack, Rises, Groups, refusal}

-- what is renumbered stays good
inside-moved : (m : ℕ) (f : ℕ → ℕ) (c : List ℕ) → ((v : ℕ) → mentions c v ≡ true → (1 ≤ f v) × (f v ≤ m)) → inside m (map (moved f) c) ≡ true
inside-moved m f [] h = refl
inside-moved m f (c ∷ cs) h =
    let q = h (c / 2) (or_left (eqb (c / 2) (c / 2)) (mentions cs (c / 2)) (eq-eqb (c / 2) (c / 2) refl)) in
    let e = moved_is f c in
    and_from _ _ (and_from _ _ (le-leb 2 (moved f c) (omega arith)) (le-leb (moved f c) (2 * m + 1) (omega arith)))
    (inside-moved m f cs (λ v y. h v (or_right (eqb (c / 2) v) (mentions cs v) y)))

goods-moved : (n m : ℕ) (f : ℕ → ℕ) (cs : List (List ℕ)) → goods n cs ≡ true → ((v : ℕ) → occurs cs v ≡ true → (1 ≤ f v) × (f v ≤ m)) → goods m (renamed f cs) ≡ true
goods-moved n m f [] g h = refl
goods-moved n m f (c ∷ cs) g h =
    let p = and_parts (good n c) (goods n cs) g in
    let q = and_parts (leb (length c) 64) (inside n c) p.0 in
    and_from _ _ (and_from _ _ (ap (λ x. leb x 64) (length-map c (moved f)) ∙ q.0) (inside-moved m f c (λ v y. h v (or_left (mentions c v) (occurs cs v) y))))
    (goods-moved n m f cs p.1 (λ v y. h v (or_right (mentions c v) (occurs cs v) y)))

rank_some : (cs : List (List ℕ)) (n m : ℕ) (rank old : ℕ → ℕ) → Renumbers cs n m rank old → goods n cs ≡ true → (v : ℕ) → occurs cs v ≡ true → (1 ≤ rank v) × (rank v ≤ m)
rank_some cs n m rank old r g v y =
    let q = r.to v y in
    let w = occurs_within n cs v g y in
    (⊎_elim (λ (z : rank v ≡ 0). let e = sym q.1 ∙ ap old z ∙ r.old_zero in absurd (omega arith)) (λ (z : rank v ≡ 0 → ⊥). omega arith) (cases_eq (rank v) 0), q.0)

pub renamed-good : (cs : List (List ℕ)) (n m : ℕ) (rank old : ℕ → ℕ) → Renumbers cs n m rank old → goods n cs ≡ true → goods m (renamed rank cs) ≡ true
renamed-good cs n m rank old r g = goods-moved n m rank cs g (rank_some cs n m rank old r g)

-- the table of own numbers rises
pub rises : (cs : List (List ℕ)) (n m : ℕ) (rank old : List ℕ) → Renumbers cs n m (by rank) (by old) → Rises old n m
rises cs n m rank old r = record { zero = r.old_zero; most = λ k i j. (r.from k i j).1; rising = r.rising }

pub carried_more : (old names t u : List ℕ) (n m w y x : ℕ) → Rises old n m → n < length t → 1 ≤ w → w ≤ m → y ≡ get_or names w 0 / 2 → x ≡ 2 * get_or old y 0 + get_or names w 0 % 2
    → Carried old names t u (w - 1) → Carried old names t (set u (get_or old w 0) x) w
carried_more old names t u n m w y x r l o h d q s =
    let is : x ≡ moved (by old) (get_or names w 0) = q ∙ ap (λ v. 2 * get_or old v 0 + get_or names w 0 % 2) d ∙ moved_is (by old) (get_or names w 0) in
    let p : ℕ = get_or old w 0 in
    let lp : p < length u = omega (arith, r.most w o h, s.size) in
    record {
      size = length-set u p x ∙ s.size;
      each = λ k i j. ⊎_elim
          (λ (e : k ≡ w). rw e (get_or-set_same u p x 0 lp ∙ is))
          (λ (e : k ≡ w → ⊥). let q = r.rising k w (omega arith) h in get_or-set_other u p (get_or old k 0) x 0 (λ z. omega arith) ∙ s.each k i (omega arith)) (cases_eq k w);
      other = λ v f. get_or-set_other u p v x 0 (λ z. f w o (omega arith) (sym z)) ∙ s.other v (λ k i j. f k i (omega arith));
    }

grouped : (cs : List (List ℕ)) (n m : ℕ) (rank old names t u : List ℕ) → Renumbers cs n m (by rank) (by old) → goods n cs ≡ true → goods m (renamed (by rank) cs) ≡ true
    → (g : ℕ → Bool) → Model cs g → ((w : ℕ) → w ≤ m → get_or names w 0 ≡ lowest m (renamed (by rank) cs) w) → Carried old names t u m
    → (v : ℕ) → v ≤ n → get_or u v 0 ≡ cond (occurs cs v) (lowest n cs v) (get_or t v 0)
grouped cs n m rank old names t u r gn gm g x low s v h =
    ⊎_elim
    (λ (y : occurs cs v ≡ true).
    let q = r.to v y in
    let k : ℕ = get_or rank v 0 in
    let nz : 1 ≤ k = (rank_some cs n m (by rank) (by old) r gn v y).0 in
    rw y (ap (λ w. get_or u w 0) (sym q.1) ∙ s.each k nz q.0 ∙ ap (moved (by old)) (low k q.0)
    ∙ sym (lowest_old cs n m (by rank) (by old) r gn gm g x k nz q.0) ∙ ap (lowest n cs) q.1))
    (λ (y : occurs cs v ≡ false). rw y (s.other v (λ k i j e. both_ways _ y (ap (occurs cs) (sym e) ∙ (r.from k i j).2))))
    (cases_Bool (occurs cs v))

-- a list that was renumbered to the front of the work space
module _ (list work rank old : List ℕ) (n m : ℕ) (h : well n list ≡ true) (s : Renumbered list work rank old n m) where
  r : Renumbers (read list) n m (by rank) (by old)
  r = s.tables

  good_list : goods n (read list) ≡ true
  good_list = (read_means n list h).1

  small_good : goods m (renamed (by rank) (read list)) ≡ true
  small_good = renamed-good (read list) n m (by rank) (by old) r good_list

  small_is : read (take (length list) work) ≡ renamed (by rank) (read list)
  small_is = ap read s.words ∙ read-encode (renamed (by rank) (read list))

  pub small_well : well m (take (length list) work) ≡ true
  small_well = ap (well m) s.words ∙ well-encode m (renamed (by rank) (read list)) small_good

  -- what is carried back is what the list asks for
  pub group_back : (t u : List ℕ) (b : Bool) → CarriedBack m (read (take (length list) work)) old t u b → Groups n (read list) t u b
  group_back t u true d =
      let w : Swept m (renamed (by rank) (read list)) d.names = subst (λ cs. Swept m cs d.names) small_is d.swept in
      let g : ℕ → Bool = λ v. w.some.by (get_or rank v 0) in
      let x = model_rank (read list) n m (by rank) (by old) r w.some.by w.some.model in
      (record { by = g; model = x }, grouped (read list) n m rank old d.names t u r good_list small_good g x w.low d.carried)
  group_back t u false d =
      (λ a x. d.0 (λ k. a (get_or old k 0)) (subst (λ cs. Model cs (λ k. a (get_or old k 0))) (sym small_is) (model_old (read list) n m (by rank) (by old) r a x)), d.1)

-- none of the tests refuses
pub not_refused : (size most room m : ℕ) (list t : List ℕ) → length t ≡ size → well (size - 1) list ≡ true → length list ≤ room → m ≡ occurring (size - 1) (read list) → m ≤ most
    → refusal size most list room t ≡ None
not_refused size most room m list t e w l c h = rw (eq-eqb (length t) size e, w, le-leb (length list) room l, ← c, le-leb m most h)
