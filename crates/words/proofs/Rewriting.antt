-- A clause that is rewritten in place, over values. Assumes nothing.
use Rattle.std.proofs.Common.{◌≡◌, ℕ, ◌+◌, ◌/◌, ◌<◌, ◌≤◌, List, [], ◌∷◌, ◌++◌, length, get_or, take, drop, set, Some, None, Option, sym, ap, ◌∙◌, arith, length-set}
use Rattle.std.proofs.lemmas.List.{at_drop_more, at_drop_all, take_more_set, drop-set-lt, drop-drop, get_or-drop}
use Rattle.cnf.specs.Table.{turn, put, puts, then', applied}

-- `here` is the clause as it stands, s literals of it are done, and n are kept
pub record Rewriting (f : ℕ → ℕ) (body here : List ℕ) (n s : ℕ) : Type 0 where
  pub size : length here ≡ length body
  pub fewer : n ≤ s
  pub rest : drop s here ≡ drop s body
  pub clause : puts f (take n here) (drop s body) ≡ applied f body

module _ (f : ℕ → ℕ) (body here : List ℕ) (n s : ℕ) (w : Rewriting f body here n s) where
  pub rewritten : length body ≤ s → Some (take n here) ≡ applied f body
  rewritten h = sym (at_drop_all (puts f (take n here)) body s h) ∙ w.clause

  module _ (l : s < length body) where
    literal_is : get_or here s 0 ≡ get_or body s 0
    literal_is =
        let z : s + 0 ≡ s = omega arith in
        let p : (xs : List ℕ) → get_or (drop s xs) 0 0 ≡ get_or xs s 0 = λ xs. get_or-drop s xs 0 0 ∙ ap (λ i. get_or xs i 0) z in
        sym (p here) ∙ ap (λ xs. get_or xs 0 0) w.rest ∙ p body

    rest-on : drop (s + 1) here ≡ drop (s + 1) body
    rest-on = sym (drop-drop 1 s here) ∙ ap (drop 1) w.rest ∙ drop-drop 1 s body

    module _ (d : ℕ) (g : d ≡ turn (f (get_or here s 0 / 2)) (get_or here s 0)) where
      turned : (r : Option (List ℕ)) → put (take n here) d ≡ r → then' r (λ o. puts f o (drop (s + 1) body)) ≡ applied f body
      turned r h =
          ap (λ x. then' x (λ o. puts f o (drop (s + 1) body))) (sym h ∙ ap (put (take n here)) (g ∙ ap (λ x. turn (f (x / 2)) x) literal_is))
          ∙ sym (at_drop_more (puts f (take n here)) body s 0 l) ∙ w.clause

      pub rewriting_gone : put (take n here) d ≡ None → None ≡ applied f body
      rewriting_gone h = turned None h

      pub rewriting_skip : put (take n here) d ≡ Some (take n here) → Rewriting f body here n (s + 1)
      rewriting_skip h = record { size = w.size; fewer = omega (arith, w.fewer); rest = rest-on; clause = turned (Some (take n here)) h }

      pub rewriting_push : put (take n here) d ≡ Some (take n here ++ d ∷ []) → (place : ℕ) → place ≡ n → Rewriting f body (set here place d) (n + 1) (s + 1)
      rewriting_push h place e =
          let pushed : Rewriting f body (set here n d) (n + 1) (s + 1) = record {
            size = length-set here n d ∙ w.size;
            fewer = omega (arith, w.fewer);
            rest = drop-set-lt (s + 1) here n d (omega (arith, w.fewer)) ∙ rest-on;
            clause = ap (λ z. puts f z (drop (s + 1) body)) (take_more_set here n d (omega (arith, w.size, w.fewer))) ∙ turned (Some (take n here ++ d ∷ [])) h;
          } in
          rw e pushed
