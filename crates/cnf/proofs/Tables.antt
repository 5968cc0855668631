-- What replacing literals does to truth. Assumes nothing.
use Rattle.std.proofs.Common.{◌≡◌, ℕ, ◌+◌, ◌*◌, ◌/◌, ◌%◌, ◌≤◌, Bool, true, false, cond, not, ◌&&◌, ◌||◌, eqb, leb, List, [], ◌∷◌, ◌++◌, length, Some, None, Option, refl, ap, ◌∙◌, subst, arith}
use Rattle.std.proofs.lemmas.List.{length_push}
use Rattle.std.proofs.lemmas.Bool.{and_parts, and_from, both_ways, le-leb, leb-true}
use Rattle.std.proofs.lemmas.Bool.Decides.{nat_tests}
use Rattle.cnf.specs.Truth.{opp, lit, clause, clauses, inside, named}
use Rattle.cnf.specs.Words.{good, goods}
use Rattle.cnf.specs.Table.{turn, has, put, puts, then', applied, applieds, before, clause_or_true, via}
use Rattle.cnf.specs.Laws.{AppliedKeepsTruth}

pub lit-opp : (a : ℕ → Bool) (c : ℕ) → lit a (opp c) ≡ not (lit a c)
lit-opp a c =
    let h : opp c / 2 ≡ c / 2 = omega arith in
    let p : opp c % 2 + c % 2 ≡ 1 = omega arith in
    let e = ap a h in
    grind (arith, nat_tests)

-- the literal that a literal is replaced by
pub lit_turn : (a : ℕ → Bool) (d c : ℕ) → lit a (turn d c) ≡ cond (eqb (c % 2) 0) (lit a d) (not (lit a d))
lit_turn a d c =
    elim (eqb (c % 2) 0) as (λ b. lit a (cond b d (opp d)) ≡ cond b (lit a d) (not (lit a d)))
    [ true ↦ refl | false ↦ lit-opp a d ]

clause-has : (a : ℕ → Bool) (cs : List ℕ) (d : ℕ) → has cs d ≡ true → lit a d ≡ true → clause a cs ≡ true
clause-has a [] d h k = absurd (both_ways false refl h)
clause-has a (c ∷ cs) d h k = grind (arith, nat_tests, clause-has a cs d)

clause_push : (a : ℕ → Bool) (cs : List ℕ) (d : ℕ) → clause a (cs ++ d ∷ []) ≡ (clause a cs || lit a d)
clause_push a [] d = grind arith
clause_push a (c ∷ cs) d = let i = clause_push a cs d in grind arith

put_true : (a : ℕ → Bool) (out : List ℕ) (d : ℕ) → a 0 ≡ false → clause_or_true a (put out d) ≡ (clause a out || lit a d)
put_true a out d z =
    let p = clause_push a out d in
    let o = lit-opp a d in
    grind (arith, nat_tests, clause-has a out d, clause-has a out (opp d))

or_assoc : (x y z : Bool) → ((x || y) || z) ≡ (x || (y || z))
or_assoc true y z = refl
or_assoc false y z = refl

after : (a : ℕ → Bool) (f : List ℕ → Option (List ℕ)) (b : Bool) → ((out : List ℕ) → clause_or_true a (f out) ≡ (clause a out || b))
    → (o : Option (List ℕ)) → clause_or_true a (then' o f) ≡ (clause_or_true a o || b)
after a f b h None = refl
after a f b h (Some out) = h out

pub puts_true : (a : ℕ → Bool) (f : ℕ → ℕ) (cs out : List ℕ) → a 0 ≡ false → clause_or_true a (puts f out cs) ≡ (clause a out || clause (via a f) cs)
puts_true a f [] out z = grind arith
puts_true a f (c ∷ cs) out z =
    after a (λ o. puts f o cs) (clause (via a f) cs) (λ o. puts_true a f cs o z) (put out (turn (f (c / 2)) c))
    ∙ ap (λ x. x || clause (via a f) cs) (put_true a out (turn (f (c / 2)) c) z ∙ ap (λ x. clause a out || x) (lit_turn a (f (c / 2)) c))
    ∙ or_assoc (clause a out) (lit (via a f) c) (clause (via a f) cs)

before_true : (a : ℕ → Bool) (o : Option (List ℕ)) (cs : List (List ℕ)) → clauses a (before o cs) ≡ (clause_or_true a o && clauses a cs)
before_true a None cs = refl
before_true a (Some c) cs = refl

pub applied_keeps_truth : AppliedKeepsTruth
applied_keeps_truth a f [] z = refl
applied_keeps_truth a f (c ∷ cs) z =
    before_true a (applied f c) (applieds f cs)
    ∙ ap (λ x. x && clauses a (applieds f cs)) (puts_true a f c [] z)
    ∙ ap (λ x. clause (via a f) c && x) (applied_keeps_truth a f cs z)

-- P holds of what a clause became, if anything is left of it
abbrev pub Holds : (List ℕ → Type 0) → Option (List ℕ) → Type 0
Holds P None = Unit {0}
Holds P (Some c) = P c

-- P, at a number of literals put, lasts where a literal with R is put; Q is what the clause has to give R of each literal that is to come
module _
    (f : ℕ → ℕ)
    (P : ℕ → List ℕ → Type 0)
    (Q : List ℕ → Type 0)
    (R : ℕ → Type 0)
    (split : (c : ℕ) (cs : List ℕ) → Q (c ∷ cs) → R (turn (f (c / 2)) c) × Q cs)
    (same : (n : ℕ) (out : List ℕ) → P n out → P (n + 1) out)
    (push : (n : ℕ) (out : List ℕ) (d : ℕ) → P n out → R d → (eqb d 0 || has out d) ≡ false → (eqb d 1 || has out (opp d)) ≡ false → P (n + 1) (out ++ d ∷ []))
  where
    put_keeps : (n : ℕ) (out : List ℕ) (d : ℕ) → P n out → R d → Holds (P (n + 1)) (put out d)
    put_keeps n out d p r =
        elim (eqb d 0 || has out d)
        as (λ b. (eqb d 0 || has out d) ≡ b → Holds (P (n + 1)) (cond b (Some out) (cond (eqb d 1 || has out (opp d)) None (Some (out ++ d ∷ []))))) [
          | true ↦ λ _. same n out p
          | false ↦ λ x.
              elim (eqb d 1 || has out (opp d)) as (λ b. (eqb d 1 || has out (opp d)) ≡ b → Holds (P (n + 1)) (cond b None (Some (out ++ d ∷ []))))
              [ true ↦ λ _. tt | false ↦ λ y. push n out d p r x y ] refl
        ] refl

    pub puts_keep : (n : ℕ) (cs out : List ℕ) → Q cs → P n out → Holds (P (n + length cs)) (puts f out cs)
    puts_keep n [] out q p = let e : n ≡ n + 0 = omega arith in subst (λ k. P k out) e p
    puts_keep n (c ∷ cs) out q p =
        let s = split c cs q in
        let e : n + 1 + length cs ≡ n + length (c ∷ cs) = omega arith in
        elim (put out (turn (f (c / 2)) c)) as (λ o. Holds (P (n + 1)) o → Holds (P (n + length (c ∷ cs))) (then' o (λ x. puts f x cs))) [
          | None ↦ λ _. tt
          | Some x ↦ λ p. subst (λ k. Holds (P k) (puts f x cs)) e (puts_keep (n + 1) cs x s.1 p)
        ] (put_keeps n out (turn (f (c / 2)) c) p s.0)

-- what is replaced stays good
pub record Within (m : ℕ) (f : ℕ → ℕ) : Type 0 where
  pub each : (v : ℕ) → v ≤ m → f v ≤ 2 * m + 1

inside_push : (m : ℕ) (out : List ℕ) (d : ℕ) → inside m out ≡ true → named m d ≡ true → inside m (out ++ d ∷ []) ≡ true
inside_push m [] d h k = grind (arith, nat_tests)
inside_push m (c ∷ out) d h k = let i = inside_push m out d in grind (arith, nat_tests)

abbrev Fine : ℕ → ℕ → List ℕ → Type 0
Fine m n c = (length c ≤ n) × (inside m c ≡ true)

applied_fine : (m : ℕ) (f : ℕ → ℕ) (cs : List ℕ) → Within m f → inside m cs ≡ true → Holds (Fine m (0 + length cs)) (applied f cs)
applied_fine m f cs w h = puts_keep f (Fine m) (λ cs. inside m cs ≡ true) (λ d. d ≤ 2 * m + 1) split (λ n out p. (omega arith, p.1)) push 0 cs [] h (omega arith, refl)
  where
    split : (c : ℕ) (cs : List ℕ) → inside m (c ∷ cs) ≡ true → (turn (f (c / 2)) c ≤ 2 * m + 1) × (inside m cs ≡ true)
    split c cs h =
        let b : c / 2 ≤ m = grind (arith, nat_tests) in
        let e = w.each (c / 2) b in
        (elim (eqb (c % 2) 0) as (λ x. cond x (f (c / 2)) (opp (f (c / 2))) ≤ 2 * m + 1) [ true ↦ e | false ↦ omega arith ], grind arith)

    push : (n : ℕ) (out : List ℕ) (d : ℕ) → Fine m n out → d ≤ 2 * m + 1 → (eqb d 0 || has out d) ≡ false → (eqb d 1 || has out (opp d)) ≡ false → Fine m (n + 1) (out ++ d ∷ [])
    push n out d p r x y = (omega (arith, length_push out d), inside_push m out d p.1 (grind (arith, nat_tests)))

pub applieds-good : (m : ℕ) (f : ℕ → ℕ) (cs : List (List ℕ)) → Within m f → goods m cs ≡ true → goods m (applieds f cs) ≡ true
applieds-good m f [] w h = refl
applieds-good m f (c ∷ cs) w h =
    let p = and_parts (good m c) (goods m cs) h in
    let q = and_parts (leb (length c) 64) (inside m c) p.0 in
    let l = leb-true _ _ q.0 in
    let i = applieds-good m f cs w p.1 in
    elim (applied f c) as (λ o. Holds (Fine m (0 + length c)) o → goods m (before o (applieds f cs)) ≡ true) [
      | None ↦ λ _. i
      | Some x ↦ λ z. and_from _ _ (and_from _ _ (le-leb (length x) 64 (omega arith)) z.1) i
    ] (applied_fine m f c w q.1)
