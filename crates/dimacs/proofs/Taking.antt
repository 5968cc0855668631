-- Numbers that are taken, one after the other. Assumes nothing.
use Rattle.std.proofs.Common.{◌≡◌, ℕ, ◌+◌, cond, true, false, List, [], ◌∷◌, ◌++◌, map, length, Ok, Err, vec_items, Result, sym, refl, ap, ◌∙◌, subst, append_assoc, append-nil, length-append}
use Rattle.std.proofs.lemmas.List.{map-append}
use Rattle.std.specs.Result.{OnOk}
use Rattle.faults.specs.declared.Located.{Located}
use Rattle.dimacs.specs.declared.clauses.Clauses.{Clauses}
use Rattle.dimacs.specs.declared.error.ReadError.{ReadError}
use Rattle.dimacs.specs.declared.problem.Problem.{Problem}
use Rattle.dimacs.specs.Numbers.{glue, cut, number}
use Rattle.dimacs.specs.Text.{Placed, placed, judged, opened, ahead, behind, codes, is_end, closed, finished}
use Rattle.dimacs.specs.Progress.{done, done_with, current_with, ended_from, numbers_say, Faults, Reads, Stops}
use Rattle.dimacs.proofs.Cutting.{glue-none, glue-glue}

-- one code is taken from those that follow
ended_more : (p : Problem) (space end : ℕ) (cs : List (List ℕ)) (now : List ℕ) (c : ℕ) (x : Result (List ℕ) Located)
    → ended_from p space end cs now (ahead c x) ≡ ended_from p space end (done_with cs now c) (current_with now c) x
ended_more p space end cs now c (Err e) = refl
ended_more p space end cs now c (Ok vs) =
    elim (is_end c)
    as (λ b. finished p space end (closed (cs ++ glue now (cond b ([] ∷ cut is_end vs) (glue (c ∷ []) (cut is_end vs)))))
    ≡ finished p space end (closed (cond b (cs ++ now ∷ []) cs ++ glue (cond b [] (now ++ c ∷ [])) (cut is_end vs)))) [
      | true ↦ ap (λ ps. finished p space end (closed ps))
          (ap (λ l. cs ++ l ∷ cut is_end vs) (append-nil now) ∙ sym (append_assoc cs (now ∷ []) (cut is_end vs)) ∙ ap (λ ps. (cs ++ now ∷ []) ++ ps) (sym (glue-none is_end vs)))
      | false ↦ ap (λ ps. finished p space end (closed (cs ++ ps))) (glue-glue now (c ∷ []) (cut is_end vs))
    ]

opened_is : (now : List ℕ) (c : ℕ) → opened (length now) c ≡ length (current_with now c)
opened_is now c =
    elim (is_end c) as (λ b. cond b 0 (length now + 1) ≡ length (cond b [] (now ++ c ∷ [])))
    [ true ↦ refl | false ↦ sym (length-append now (c ∷ [])) ]

-- a number was taken
pub took : (s t : Clauses) (line : ℕ) (token : List ℕ) (c : ℕ) → judged s.problem.nets (length (vec_items s.current)) (number token) ≡ Ok c → t.problem ≡ s.problem
    → done t ≡ done_with (done s) (vec_items s.current) c → vec_items t.current ≡ current_with (vec_items s.current) c → Reads s (placed line token ∷ []) t
took s t line token c j p d e = record {
  says = λ space end more.
      let now : List ℕ = vec_items s.current in
      let k : ℕ = length now in
      ap (λ x. ended_from s.problem space end (done s) now (behind line x (λ v. codes s.problem.nets (opened k v) more))) j
      ∙ ended_more s.problem space end (done s) now c (codes s.problem.nets (opened k c) more)
      ∙ ap (λ n. ended_from s.problem space end (done_with (done s) now c) (current_with now c) (codes s.problem.nets n more)) (opened_is now c)
      ∙ ap (λ q. ended_from q space end (done_with (done s) now c) (current_with now c) (codes q.nets (length (current_with now c)) more)) (sym p)
      ∙ ap (λ l. ended_from t.problem space end l (current_with now c) (codes t.problem.nets (length (current_with now c)) more)) (sym d)
      ∙ ap (λ l. ended_from t.problem space end (done t) l (codes t.problem.nets (length l) more)) (sym e);
}

pub took_if : (r : Result (Unit {0}) ReadError) (s t : Clauses) (line : ℕ) (token : List ℕ) (c : ℕ) → judged s.problem.nets (length (vec_items s.current)) (number token) ≡ Ok c → t.problem ≡ s.problem
    → OnOk r (done t ≡ done_with (done s) (vec_items s.current) c) → OnOk r (vec_items t.current ≡ current_with (vec_items s.current) c) → OnOk r (Reads s (placed line token ∷ []) t)
took_if (Ok u) s t line token c j p d e = took s t line token c j p d e
took_if (Err x) s t line token c j p d e = tt

pub reads_more : (s t u : Clauses) (ts us : List Placed) → Reads s ts t → Reads t us u → Reads s (ts ++ us) u
reads_more s t u ts us a b = record {
  says = λ space end more.
      ap (numbers_say s space end) (append_assoc ts us more) ∙ a.says space end (us ++ more) ∙ b.says space end more;
}

-- numbers are read, and then one has a fault
pub stops_later : (s t : Clauses) (ts us vs : List Placed) (e : ReadError) → Reads s ts t → Stops t us e → Stops s (ts ++ (us ++ vs)) e
stops_later s t ts us vs e a b = record {
  faults = λ space end more.
      subst (λ x. Faults x e)
      (sym (ap (numbers_say s space end) (append_assoc ts (us ++ vs) more ∙ ap (λ x. ts ++ x) (append_assoc us vs more)) ∙ a.says space end (us ++ (vs ++ more))))
      (b.faults space end (vs ++ more));
}

pub stops_at : (s t : Clauses) (line : ℕ) (all xs later : List (List ℕ)) (x : List ℕ) (e : ReadError) → all ≡ xs ++ x ∷ later → Reads s (map (placed line) xs) t → Stops t (placed line x ∷ []) e → Stops s (map (placed line) all) e
stops_at s t line all xs later x e q a b =
    subst (λ ts. Stops s ts e) (sym (ap (map (placed line)) q ∙ map-append (placed line) xs (x ∷ later))) (stops_later s t (map (placed line) xs) (placed line x ∷ []) (map (placed line) later) e a b)
