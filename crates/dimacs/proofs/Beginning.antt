-- The header line, and what is kept behind it. Assumes nothing.
use Rattle.std.proofs.Common.{◌≡◌, ℕ, ◌+◌, false, cond, List, [], ◌∷◌, length, None, Some, Ok, Err, vec_items, Result, sym, refl, ap, ◌∙◌}
use Rattle.faults.specs.declared.Located.{Located}
use Rattle.cnf.specs.Words.{read}
use Rattle.cnf.proofs.Reading.{read-nil}
use Rattle.dimacs.specs.declared.clauses.Clauses.{Clauses}
use Rattle.dimacs.specs.declared.error.ReadError.{ReadError}
use Rattle.dimacs.specs.declared.error.ReadError.TheVariants.{Memory, Refused}
use Rattle.dimacs.specs.declared.problem.Problem.{Problem}
use Rattle.dimacs.specs.declared.reader.Reader.{Reader}
use Rattle.dimacs.specs.Numbers.{is_comment}
use Rattle.dimacs.specs.Text.{Placed, placed, plain, tokens, codes, is_end, closed, finished, ended, body, headed}
use Rattle.dimacs.specs.Progress.{done, ended_from, numbers_say, lines_say, Headed, Goes, Halts}
use Rattle.dimacs.proofs.Cutting.{glue-none}

-- nothing is kept yet
ended-none : (p : Problem) (space end : ℕ) (x : Result (List ℕ) Located) → ended p space end x ≡ ended_from p space end [] [] x
ended-none p space end (Err e) = refl
ended-none p space end (Ok vs) = ap (λ ps. finished p space end (closed ps)) (sym (glue-none is_end vs))

body_says : (s : Clauses) (p : Problem) (space end : ℕ) (ls : List Placed) → s.problem ≡ p → vec_items s.words ≡ [] → vec_items s.current ≡ [] → body p space end ls ≡ numbers_say s space end (tokens ls)
body_says s p space end ls h w v =
    ended-none p space end (codes p.nets 0 (tokens ls))
    ∙ ap (λ l. ended_from p space end l [] (codes p.nets 0 (tokens ls))) (sym (ap read w ∙ read-nil))
    ∙ ap (λ l. ended_from p space end (done s) l (codes p.nets (length l) (tokens ls))) (sym v)
    ∙ ap (λ q. ended_from q space end (done s) (vec_items s.current) (codes q.nets (length (vec_items s.current)) (tokens ls))) (sym h)

plain_first : (k : ℕ) (l : List ℕ) (ls : List (List ℕ)) → is_comment l ≡ false → plain k (l ∷ ls) ≡ placed k l ∷ plain (k + 1) ls
plain_first k l ls e = ap (λ b. cond b (plain (k + 1) ls) (placed k l ∷ plain (k + 1) ls)) e

module _ (r : Reader) (l : List ℕ) (before : r.clauses ≡ None) (first : is_comment l ≡ false) where
  means_is : (space end : ℕ) (ls : List (List ℕ)) → lines_say r.clauses space end (plain (r.line + 1) (l ∷ ls)) ≡ headed space end (placed (r.line + 1) l ∷ plain (r.line + 1 + 1) ls)
  means_is space end ls = ap (λ o. lines_say o space end (plain (r.line + 1) (l ∷ ls))) before ∙ ap (headed space end) (plain_first (r.line + 1) l ls first)

  pub headed_goes : (q : Reader) (p : Problem) (s : Clauses) → q.line ≡ r.line + 1 → q.clauses ≡ Some s → s.problem ≡ p → vec_items s.words ≡ [] → vec_items s.current ≡ [] → Headed (r.line + 1) l (Ok p) → Goes r l q
  headed_goes q p s n k a b c h = record {
    says = λ space end ls.
        let more : List Placed = plain (r.line + 1 + 1) ls in
        means_is space end ls ∙ h (λ x. body x space end more) ∙ body_says s p space end more a b c
        ∙ sym (ap (λ o. lines_say o space end (plain (q.line + 1) ls)) k ∙ ap (λ i. numbers_say s space end (tokens (plain (i + 1) ls))) n);
  }

  pub headed_halts : (e : ReadError) → Headed (r.line + 1) l (Err e) → Halts r l e
  headed_halts Memory h = absurd h
  headed_halts (Refused k) h = record { faults = λ space end ls. means_is space end ls ∙ h (λ p. body p space end (plain (r.line + 1 + 1) ls)) }
