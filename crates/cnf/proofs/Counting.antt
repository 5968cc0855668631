-- The test over all rows of bits means what it says. Assumes nothing.
use Rattle.std.proofs.Common.{◌≡◌, ℕ, zero, suc, ◌+◌, ◌/◌, ◌%◌, ◌<◌, ◌≤◌, Bool, true, false, cond, not, ◌&&◌, ◌||◌, eqb, leb, List, [], ◌∷◌, map, length, get_or, filter, sym, refl, ap, ◌∙◌, inl, inr, arith}
use mathlib.Core.Bool.{beq}
use Rattle.std.specs.List.{list_all}
use Rattle.std.proofs.lemmas.List.Folds.{list_all-append, list_all-map}
use Rattle.std.proofs.lemmas.Bool.{and_parts, and_from, both_ways, cases_lt}
use Rattle.std.proofs.lemmas.Bool.Decides.{nat_tests}
use Rattle.cnf.specs.Truth.{told, lit, clause, clauses, inside, Equal}
use Rattle.cnf.specs.Words.{good, goods}
use Rattle.cnf.specs.Finite.{rows, models, is_equal, is_backbone, first}
use Rattle.cnf.specs.Laws.{EqualMeans, BackboneMeans, BackboneEqualsTrue}

module _ {X : Type 0} where
  passes_kept : (p q : X → Bool) (xs : List X) → list_all p (filter q xs) ≡ list_all (λ x. not (q x) || p x) xs
  passes_kept p q [] = refl
  passes_kept p q (x ∷ xs) =
      elim (q x) as (λ b. list_all p (cond b (x ∷ filter q xs) (filter q xs)) ≡ ((not b || p x) && list_all (λ y. not (q y) || p y) xs))
      [ true ↦ ap (λ b. p x && b) (passes_kept p q xs) | false ↦ passes_kept p q xs ]

rows_more : (m : ℕ) (p : List Bool → Bool) → list_all p (rows (suc m)) ≡ (list_all (λ bs. p (false ∷ bs)) (rows m) && list_all (λ bs. p (true ∷ bs)) (rows m))
rows_more m p = list_all-append p (map (λ bs. false ∷ bs) (rows m)) (map (λ bs. true ∷ bs) (rows m)) ∙ simp list_all-map

sound : (m : ℕ) (p : List Bool → Bool) → list_all p (rows m) ≡ true → (bs : List Bool) → length bs ≡ m → p bs ≡ true
sound zero p e [] h = (and_parts (p []) true e).0
sound zero p e (b ∷ bs) h = absurd (omega arith)
sound (suc m) p e [] h = absurd (omega arith)
sound (suc m) p e (false ∷ bs) h = sound m (λ x. p (false ∷ x)) (and_parts _ _ (sym (rows_more m p) ∙ e)).0 bs (omega arith)
sound (suc m) p e (true ∷ bs) h = sound m (λ x. p (true ∷ x)) (and_parts _ _ (sym (rows_more m p) ∙ e)).1 bs (omega arith)

complete : (m : ℕ) (p : List Bool → Bool) → ((bs : List Bool) → length bs ≡ m → p bs ≡ true) → list_all p (rows m) ≡ true
complete zero p f = and_from (p []) true (f [] refl) refl
complete (suc m) p f =
    rows_more m p
    ∙ and_from _ _ (complete m (λ x. p (false ∷ x)) (λ bs h. f (false ∷ bs) (ap suc h))) (complete m (λ x. p (true ∷ x)) (λ bs h. f (true ∷ bs) (ap suc h)))

split : (q p : Bool) → (not q || p) ≡ true → q ≡ true → p ≡ true
split true p e h = e
split false p e h = absurd (both_ways false refl h)

join : (q p : Bool) → (q ≡ true → p ≡ true) → (not q || p) ≡ true
join true p f = f refl
join false p f = refl

-- an assignment's bits at the variables from 1 to m
pub row : ℕ → (ℕ → Bool) → List Bool
row zero a = []
row (suc m) a = a 1 ∷ row m (λ v. a (suc v))

pub row_length : (m : ℕ) (a : ℕ → Bool) → length (row m a) ≡ m
unfolding row
row_length zero a = refl
row_length (suc m) a = ap suc (row_length m (λ v. a (suc v)))

row_bit : (m : ℕ) (a : ℕ → Bool) (v : ℕ) → v < m → get_or (row m a) v false ≡ a (suc v)
unfolding row
row_bit zero a v h = absurd (omega arith)
row_bit (suc m) a zero h = refl
row_bit (suc m) a (suc v) h = row_bit m (λ v. a (suc v)) v (omega arith)

pub row_told : (m : ℕ) (a : ℕ → Bool) → a 0 ≡ false → (v : ℕ) → v ≤ m → told (row m a) v ≡ a v
row_told m a z zero h = sym z
row_told m a z (suc v) h = row_bit m a v (omega arith)

-- assignments with the same bits up to m give the same
module _ (m : ℕ) (a b : ℕ → Bool) (e : (v : ℕ) → v ≤ m → a v ≡ b v) where
  pub lit_same : (c : ℕ) → c / 2 ≤ m → lit a c ≡ lit b c
  lit_same c h = ap (λ x. cond (eqb (c % 2) 0) x (not x)) (e (c / 2) h)

  clause_same : (c : List ℕ) → inside m c ≡ true → clause a c ≡ clause b c
  clause_same [] h = refl
  clause_same (c ∷ cs) h =
      let l : c / 2 ≤ m = grind (arith, nat_tests) in
      let i : inside m cs ≡ true = grind arith in
      ap (λ x. x || clause a cs) (lit_same c l) ∙ ap (λ x. lit b c || x) (clause_same cs i)

  pub clauses_same : (cs : List (List ℕ)) → goods m cs ≡ true → clauses a cs ≡ clauses b cs
  clauses_same [] h = refl
  clauses_same (c ∷ cs) h =
      let p = and_parts (good m c) (goods m cs) h in
      let q = and_parts (leb (length c) 64) (inside m c) p.0 in
      ap (λ x. x && clauses a cs) (clause_same c q.1) ∙ ap (λ x. clause b c && x) (clauses_same cs p.1)

beq_same : (x y : Bool) → beq x y ≡ true → x ≡ y
beq_same true true e = refl
beq_same true false e = sym e
beq_same false true e = e
beq_same false false e = refl

same_beq : (x y : Bool) → x ≡ y → beq x y ≡ true
same_beq true true e = refl
same_beq true false e = sym e
same_beq false true e = e
same_beq false false e = refl

abbrev tied : ℕ → ℕ → List Bool → Bool
tied c d bits = beq (lit (told bits) c) (lit (told bits) d)

abbrev fits : List (List ℕ) → List Bool → Bool
fits cs bits = clauses (told bits) cs

pub equal_means : EqualMeans
unfolding is_equal
equal_means m cs c d g hc hd = (there, back)
  where
    there : list_all (tied c d) (models m cs) ≡ true → Equal cs c d
    there e a s =
        let r = row_told m a s.constant in
        let w = split (fits cs (row m a)) (tied c d (row m a))
        (sound m (λ bs. not (fits cs bs) || tied c d bs) (sym (passes_kept (tied c d) (fits cs) (rows m)) ∙ e) (row m a) (row_length m a))
        (clauses_same m (told (row m a)) a r cs g ∙ s.holds) in
        sym (lit_same m (told (row m a)) a r c hc) ∙ beq_same _ _ w ∙ lit_same m (told (row m a)) a r d hd

    back : Equal cs c d → list_all (tied c d) (models m cs) ≡ true
    back f =
        passes_kept (tied c d) (fits cs) (rows m)
        ∙ complete m _ (λ bs h. join (fits cs bs) (tied c d bs) (λ k. same_beq _ _ (f (told bs) (record { constant = refl; holds = k }))))

beq_true : (x : Bool) → beq x true ≡ x
beq_true true = refl
beq_true false = refl

passes_same : {X : Type 0} (p q : X → Bool) → ((x : X) → p x ≡ q x) → (xs : List X) → list_all p xs ≡ list_all q xs
passes_same p q e [] = refl
passes_same p q e (x ∷ xs) = ap (λ b. b && list_all p xs) (e x) ∙ ap (λ b. q x && b) (passes_same p q e xs)

pub backbone_equals_true : BackboneEqualsTrue
unfolding is_backbone is_equal
backbone_equals_true m cs c g h =
    passes_same (λ bits. lit (told bits) c) (λ bits. beq (lit (told bits) c) true) (λ bits. sym (beq_true (lit (told bits) c))) (models m cs)

pub backbone_means : BackboneMeans
backbone_means m cs c g h =
    let e = backbone_equals_true m cs c g h in
    let d = equal_means m cs c 1 g h (omega arith) in
    ((λ t a s. d.0 (sym e ∙ t) a s ∙ ap not s.constant), (λ f. e ∙ d.1 (λ a s. f a s ∙ sym (ap not s.constant))))

-- the first number with p
pub first_is : (p : ℕ → Bool) (c k n : ℕ) → c ≤ n → n ≤ c + k → p n ≡ true → ((d : ℕ) → c ≤ d → d < n → p d ≡ false) → first p c k ≡ n
first_is p c zero n h l e f = omega arith
first_is p c (suc k) n h l e f =
    elim (p c) as (λ b. p c ≡ b → cond b c (first p (c + 1) k) ≡ n) [
      | true ↦ λ t. first_hit t
      | false ↦ λ t. first_is p (c + 1) k n (first_past t) (omega arith) e (λ d i j. f d (omega arith) j)
    ] refl
  where
    first_hit : p c ≡ true → c ≡ n
    first_hit t = elim (cases_lt c n) [ inl j ↦ absurd (both_ways (p c) (f c (omega arith) j) t) | inr j ↦ omega arith ]

    first_past : p c ≡ false → c + 1 ≤ n
    first_past t = elim (cases_lt c n) [ inl j ↦ omega arith | inr j ↦ (let q : n ≡ c = omega arith in absurd (both_ways (p c) t (ap p (sym q) ∙ e))) ]
