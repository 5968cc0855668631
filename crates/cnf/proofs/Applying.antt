-- The laws of a table that is applied to a clause. Assumes nothing.
use Rattle.std.proofs.Common.{◌≡◌, ℕ, ◌+◌, ◌/◌, ◌%◌, ◌<◌, ◌≤◌, Bool, true, false, cond, ◌||◌, eqb, List, [], ◌∷◌, ◌++◌, map, length, get_or, Some, None, Option, sym, refl, ap, ◌∙◌, subst, inl, inr, arith}
use Rattle.std.proofs.lemmas.List.{get_or_past, length_push, map_push}
use Rattle.std.proofs.lemmas.Bool.{cases_eq, cases_lt, both_ways}
use Rattle.std.proofs.lemmas.Bool.Decides.{nat_tests}
use Rattle.cnf.specs.Truth.{opp, lit, clause}
use Rattle.cnf.specs.Table.{rep, Tabled, has, put, puts, then', applied, by, via, Follows, clause_or_true, Own, Extends}
use Rattle.cnf.specs.Laws.{Applies, OwnAll, counted}
use Rattle.cnf.proofs.Tables.{Holds, puts_keep, puts_true, lit_turn}

-- a representative represents itself: of a literal beyond the table too, since that has a constant
pub rep-rep : (t : List ℕ) → Tabled t → (c : ℕ) → rep t (rep t c) ≡ rep t c
rep-rep t w c = elim (cases_lt (c / 2) (length t)) [ inl l ↦ w.itself c l | inr l ↦ w.constants (rep t c) (constant l) ]
  where
    constant : length t ≤ c / 2 → rep t c < 2
    constant l =
        let z = get_or_past t (c / 2) 0 l in
        elim (eqb (c % 2) 0) as (λ b. cond b (get_or t (c / 2) 0) (opp (get_or t (c / 2) 0)) < 2) [ true ↦ omega arith | false ↦ omega arith ]

-- truth
follows_constant : (t cs : List ℕ) (a : ℕ → Bool) → Follows t cs a → a 0 ≡ false
follows_constant t [] a f = f
follows_constant t (c ∷ cs) a f = follows_constant t cs a f.1

follows_via : (t cs : List ℕ) (a : ℕ → Bool) → Follows t cs a → clause (via a (by t)) cs ≡ clause a cs
follows_via t [] a f = refl
follows_via t (c ∷ cs) a f =
    ap (λ b. b || clause (via a (by t)) cs) (sym (lit_turn a (by t (c / 2)) c) ∙ f.0) ∙ ap (λ b. lit a c || b) (follows_via t cs a f.1)

applied_truth : (t c : List ℕ) (a : ℕ → Bool) → Follows t c a → clause_or_true a (applied (by t) c) ≡ clause a c
applied_truth t c a f = puts_true a (by t) c [] (follows_constant t c a f) ∙ follows_via t c a f

-- own representatives
own_push : (t out : List ℕ) (d : ℕ) → Own t out → rep t d ≡ d → Own t (out ++ d ∷ [])
own_push t [] d o e = (e, tt)
own_push t (c ∷ out) d o e = (o.0, own_push t out d o.1 e)

applied_own : (t c : List ℕ) → Tabled t → OwnAll t (applied (by t) c)
applied_own t c w =
    elim (applied (by t) c) as (λ o. Holds (Own t) o → OwnAll t o) [ None ↦ λ _. tt | Some x ↦ λ h. h ]
    (puts_keep (by t) (λ _. Own t) (λ _. Unit {0}) (λ d. rep t d ≡ d) (λ c _ _. (rep-rep t w c, tt)) (λ _ _ o. o) (λ _ out d o e _ _. own_push t out d o e) 0 c [] tt tt)

-- the count
applied_fewer : (t c : List ℕ) → counted (applied (by t) c) ≤ length c
applied_fewer t c =
    elim (applied (by t) c) as (λ o. Holds (λ x. length x ≤ 0 + length c) o → counted o ≤ length c) [ None ↦ λ _. omega arith | Some x ↦ λ h. omega arith ]
    (puts_keep (by t) (λ n x. length x ≤ n) (λ _. Unit {0}) (λ _. Unit {0}) (λ _ _ _. (tt, tt)) (λ n x h. omega arith)
    (λ n x d h _ _ _. omega (arith, length_push x d)) 0 c [] tt (omega arith))

-- what putting a literal gives, by its two tests
module _ (out : List ℕ) (d : ℕ) where
  put-by : (b : Bool) → (eqb d 0 || has out d) ≡ b → put out d ≡ cond b (Some out) (cond (eqb d 1 || has out (opp d)) None (Some (out ++ d ∷ [])))
  put-by b h = ap (λ x. cond x (Some out) (cond (eqb d 1 || has out (opp d)) None (Some (out ++ d ∷ [])))) h

  pub put_drops : (eqb d 0 || has out d) ≡ true → put out d ≡ Some out
  put_drops h = put-by true h

  pub put_vanishes : (eqb d 0 || has out d) ≡ false → (eqb d 1 || has out (opp d)) ≡ true → put out d ≡ None
  put_vanishes h k = put-by false h ∙ ap (λ x. cond x None (Some (out ++ d ∷ []))) k

  pub put_adds : (eqb d 0 || has out d) ≡ false → (eqb d 1 || has out (opp d)) ≡ false → put out d ≡ Some (out ++ d ∷ [])
  put_adds h k = put-by false h ∙ ap (λ x. cond x None (Some (out ++ d ∷ []))) k

-- the codes put one after the other
abbrev fill : List ℕ → List ℕ → Option (List ℕ)
fill out [] = Some out
fill out (d ∷ ds) = then' (put out d) (λ o. fill o ds)

fill-puts : (t out cs : List ℕ) → puts (by t) out cs ≡ fill out (map (rep t) cs)
fill-puts t out [] = refl
fill-puts t out (c ∷ cs) =
    elim (put out (rep t c)) as (λ o. then' o (λ x. puts (by t) x cs) ≡ then' o (λ x. fill x (map (rep t) cs))) [ None ↦ refl | Some x ↦ fill-puts t x cs ]

fill_push : (out ds : List ℕ) (d : ℕ) → fill out (ds ++ d ∷ []) ≡ then' (fill out ds) (λ o. put o d)
fill_push out [] d = elim (put out d) as (λ o. then' o (λ x. Some x) ≡ o) [ None ↦ refl | Some x ↦ refl ]
fill_push out (e ∷ ds) d =
    elim (put out e) as (λ o. then' o (λ x. fill x (ds ++ d ∷ [])) ≡ then' (then' o (λ x. fill x ds)) (λ x. put x d)) [ None ↦ refl | Some x ↦ fill_push x ds d ]

-- a clause without true and without two opposite literals
record Clean (out : List ℕ) : Type 0 where
  plain : has out 1 ≡ false
  single : (d : ℕ) → has out d ≡ true → has out (opp d) ≡ false

-- the clause `to`, to which the codes `ds` were put, from `out` on
record Filled (out ds to : List ℕ) : Type 0 where
  clean : Clean out → Clean to
  more : (d : ℕ) → has out d ≡ true → has to d ≡ true
  each : (d : ℕ) → has ds d ≡ true → (eqb d 0 || has to d) ≡ true

has_push : (out : List ℕ) (d e : ℕ) → has (out ++ d ∷ []) e ≡ (has out e || eqb d e)
has_push [] d e = grind arith
has_push (c ∷ out) d e = let i = has_push out d e in grind arith

clean_push : (out : List ℕ) (d : ℕ) → (eqb d 1 || has out (opp d)) ≡ false → Clean out → Clean (out ++ d ∷ [])
clean_push out d y w = record { plain = plain; single = single }
  where
    plain : has (out ++ d ∷ []) 1 ≡ false
    plain = let p = has_push out d 1 in let q = w.plain in grind (arith, nat_tests)

    single : (e : ℕ) → has (out ++ d ∷ []) e ≡ true → has (out ++ d ∷ []) (opp e) ≡ false
    single e h =
        let p = has_push out d e in
        let q = has_push out d (opp e) in
        elim (cases_eq d (opp e)) [
          | inl z ↦ (let a : has out (opp d) ≡ has out e = (let k : opp d ≡ e = omega arith in ap (has out) k) in let n : d ≡ e → ⊥ = λ u. omega arith in grind (arith, nat_tests))
          | inr z ↦ elim (cases_eq d e) [
            | inl u ↦ (let a : has out (opp d) ≡ has out (opp e) = ap (λ x. has out (opp x)) u in grind (arith, nat_tests))
            | inr u ↦ grind (arith, nat_tests, w.single e)
          ]
        ]

put-filled : (out : List ℕ) (d : ℕ) → Holds (Filled out (d ∷ [])) (put out d)
put-filled out d =
    elim (eqb d 0 || has out d)
    as (λ b. (eqb d 0 || has out d) ≡ b → Holds (Filled out (d ∷ [])) (cond b (Some out) (cond (eqb d 1 || has out (opp d)) None (Some (out ++ d ∷ []))))) [
      | true ↦ λ x. record { clean = λ w. w; more = λ _ h. h; each = λ e h. grind (arith, nat_tests) }
      | false ↦ λ x.
          elim (eqb d 1 || has out (opp d)) as (λ b. (eqb d 1 || has out (opp d)) ≡ b → Holds (Filled out (d ∷ [])) (cond b None (Some (out ++ d ∷ [])))) [
            | true ↦ λ _. tt
            | false ↦ λ y. record {
              clean = clean_push out d y;
              more = λ e h. let p = has_push out d e in grind arith;
              each = λ e h. let p = has_push out d e in grind (arith, nat_tests);
            }
          ] refl
    ] refl

filled_join : (out q to : List ℕ) (d : ℕ) (ds : List ℕ) → Filled out (d ∷ []) q → Filled q ds to → Filled out (d ∷ ds) to
filled_join out q to d ds a b = record {
  clean = λ w. b.clean (a.clean w);
  more = λ e h. b.more e (a.more e h);
  each = λ e h. grind (arith, a.each e, b.more e, b.each e);
}

fill-filled : (out ds : List ℕ) → Holds (Filled out ds) (fill out ds)
fill-filled out [] = record { clean = λ w. w; more = λ _ h. h; each = λ _ h. absurd (both_ways false refl h) }
fill-filled out (d ∷ ds) =
    elim (put out d) as (λ o. Holds (Filled out (d ∷ [])) o → Holds (Filled out (d ∷ ds)) (then' o (λ x. fill x ds))) [
      | None ↦ λ _. tt
      | Some x ↦ λ a.
          elim (fill x ds) as (λ o. Holds (Filled x ds) o → Holds (Filled out (d ∷ ds)) o) [ None ↦ λ _. tt | Some to ↦ λ b. filled_join out x to d ds a b ] (fill-filled x ds)
    ] (put-filled out d)

then_same : (P : List ℕ → Type 0) (o : Option (List ℕ)) (f h : List ℕ → Option (List ℕ)) → Holds P o → ((x : List ℕ) → P x → f x ≡ h x) → then' o f ≡ then' o h
then_same P None f h p e = refl
then_same P (Some x) f h p e = e x p

then-none : (o : Option (List ℕ)) → then' o (λ _. None) ≡ None
then-none None = refl
then-none (Some x) = refl

then-then : (o : Option (List ℕ)) (f h : List ℕ → Option (List ℕ)) → then' (then' o f) h ≡ then' o (λ x. then' (f x) h)
then-then None f h = refl
then-then (Some x) f h = refl

has-map : (g : ℕ → ℕ) (xs : List ℕ) (x : ℕ) → has xs x ≡ true → has (map g xs) (g x) ≡ true
has-map g [] x h = h
has-map g (c ∷ xs) x h =
    elim (cases_eq c x) [ inl e ↦ (let a = ap g e in grind (arith, nat_tests)) | inr n ↦ grind (arith, nat_tests, has-map g xs x) ]

put_gone : (out : List ℕ) (d : ℕ) → Clean out → (eqb d 1 || has out (opp d)) ≡ true → put out d ≡ None
put_gone out d w h = put_vanishes out d new h
  where
    new : (eqb d 0 || has out d) ≡ false
    new =
        let p = w.plain in
        elim (cases_eq d 1) [
          | inl e ↦ (let a : has out d ≡ has out 1 = ap (has out) e in grind (arith, nat_tests))
          | inr n ↦ elim (cases_eq d 0) [
            | inl z ↦ (let a : has out (opp d) ≡ has out 1 = ap (λ x. has out (opp x)) z in grind (arith, nat_tests))
            | inr u ↦ grind (arith, nat_tests, w.single d)
          ]
        ]

clean_none : Clean []
clean_none = record { plain = refl; single = λ _ _. refl }

-- putting codes, and then what g makes of those that are left, is putting what g makes of the codes
module _ (g : ℕ → ℕ) (zeroed : g 0 ≡ 0) (oned : g 1 ≡ 1) (turned : (x : ℕ) → g (opp x) ≡ opp (g x)) where
  seen_again : (out : List ℕ) (x : ℕ) → (eqb x 0 || has out x) ≡ true → (o : List ℕ) → Filled [] (map g out) o → put o (g x) ≡ Some o
  seen_again out x h o w =
      put_drops o (g x)
      (elim (cases_eq x 0) [
        | inl e ↦ (let a = ap g e in grind (arith, nat_tests))
        | inr n ↦ (let i : has out x ≡ true = grind (arith, nat_tests) in w.each (g x) (has-map g out x i))
      ])

  gone_again : (out : List ℕ) (x : ℕ) → (eqb x 1 || has out (opp x)) ≡ true → (o : List ℕ) → Filled [] (map g out) o → put o (g x) ≡ None
  gone_again out x h o w =
      put_gone o (g x) (w.clean clean_none)
      (elim (cases_eq x 1) [
        | inl e ↦ (let a = ap g e in grind (arith, nat_tests))
        | inr n ↦
            (let i : has out (opp x) ≡ true = grind (arith, nat_tests) in
            let m : has (map g out) (opp (g x)) ≡ true = ap (has (map g out)) (sym (turned x)) ∙ has-map g out (opp x) i in
            let e = w.each (opp (g x)) m in
            grind (arith, nat_tests))
      ])

  fill_again : (xs out : List ℕ) → then' (fill out xs) (λ q. fill [] (map g q)) ≡ then' (fill [] (map g out)) (λ o. fill o (map g xs))
  fill_again [] out = elim (fill [] (map g out)) as (λ o. o ≡ then' o (λ x. Some x)) [ None ↦ refl | Some x ↦ refl ]
  fill_again (x ∷ xs) out =
      let was : Option (List ℕ) = fill [] (map g out) in
      let rest : List ℕ → Option (List ℕ) = λ o. fill o (map g xs) in
      let last : List ℕ → Option (List ℕ) = λ q. fill [] (map g q) in
      let known = fill-filled [] (map g out) in
      elim (eqb x 0 || has out x)
      as (λ b. (eqb x 0 || has out x) ≡ b
      → then' (then' (cond b (Some out) (cond (eqb x 1 || has out (opp x)) None (Some (out ++ x ∷ [])))) (λ o. fill o xs)) last ≡ then' was (λ o. then' (put o (g x)) rest)) [
        | true ↦ λ h. fill_again xs out ∙ then_same (Filled [] (map g out)) was rest (λ o. then' (put o (g x)) rest) known (λ o w. ap (λ p. then' p rest) (sym (seen_again out x h o w)))
        | false ↦ λ _.
            elim (eqb x 1 || has out (opp x))
            as (λ b. (eqb x 1 || has out (opp x)) ≡ b → then' (then' (cond b None (Some (out ++ x ∷ []))) (λ o. fill o xs)) last ≡ then' was (λ o. then' (put o (g x)) rest)) [
              | true ↦ λ h. sym (then_same (Filled [] (map g out)) was (λ o. then' (put o (g x)) rest) (λ _. None) known (λ o w. ap (λ p. then' p rest) (gone_again out x h o w)) ∙ then-none was)
              | false ↦ λ _.
                  fill_again xs (out ++ x ∷ []) ∙ ap (λ ys. then' (fill [] ys) rest) (map_push g out x) ∙ ap (λ o. then' o rest) (fill_push [] (map g out) (g x))
                  ∙ then-then was (λ o. put o (g x)) rest
            ] refl
      ] refl

map-map : (f g : ℕ → ℕ) → ((x : ℕ) → g (f x) ≡ g x) → (xs : List ℕ) → map g (map f xs) ≡ map g xs
map-map f g e [] = refl
map-map f g e (x ∷ xs) = ap (λ y. y ∷ map g (map f xs)) (e x) ∙ ap (λ ys. g x ∷ ys) (map-map f g e xs)

-- an earlier table first makes no difference
applied_later : (s t c : List ℕ) → Extends s t → Tabled t → then' (applied (by s) c) (applied (by t)) ≡ applied (by t) c
applied_later s t c x w =
    ap (λ o. then' o (applied (by t))) (fill-puts s [] c)
    ∙ then_same (λ _. Unit {0}) (fill [] (map (rep s) c)) (applied (by t)) (λ q. fill [] (map (rep t) q)) (anything (fill [] (map (rep s) c))) (λ q _. fill-puts t [] q)
    ∙ fill_again (rep t) (w.constants 0 (omega arith)) (w.constants 1 (omega arith)) w.opposites (map (rep s) c) []
    ∙ ap (fill []) (map-map (rep s) (rep t) x c) ∙ sym (fill-puts t [] c)
  where
    anything : (o : Option (List ℕ)) → Holds (λ _. Unit {0}) o
    anything None = tt
    anything (Some x) = tt

-- every law of a clause that the rule gives
pub applies : (t c : List ℕ) (o : Option (List ℕ)) → o ≡ applied (by t) c → Applies t c o
applies t c o e = record {
  exact = e;
  truth = λ a f. ap (clause_or_true a) e ∙ applied_truth t c a f;
  own = λ w. subst (OwnAll t) (sym e) (applied_own t c w);
  fewer = omega (arith, ap counted e, applied_fewer t c);
  again = λ w. ap (λ x. then' x (applied (by t))) e ∙ applied_later t t c (rep-rep t w) w ∙ sym e;
  later = λ s x _ w. applied_later s t c x w ∙ sym e;
}
