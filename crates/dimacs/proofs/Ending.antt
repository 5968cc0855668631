-- A text at its end. Assumes nothing.
use Rattle.std.proofs.Common.{◌≡◌, ℕ, ◌<◌, ◌≤◌, min, cond, leb, List, [], ◌∷◌, ◌++◌, length, Some, None, Ok, ap, ◌∙◌, append-nil, arith, eq-eqb, ne_eqb, le-leb, refl}
use borrow.Author.Tests.{lt-leb}
use Rattle.std.proofs.lemmas.List.{nil_from_length}
use Rattle.std.specs.Option.{option_map}
use Rattle.faults.specs.declared.ReaderFault.TheVariants.{ClauseCount}
use Rattle.faults.specs.declared.SheetFault.TheVariants.{StoreFull}
use Rattle.faults.specs.declared.Fault.TheVariants.{Reader, Sheet}
use Rattle.cnf.specs.Words.{encode}
use Rattle.dimacs.specs.declared.problem.Problem.{Problem}
use Rattle.dimacs.specs.Text.{Answer, fault, closed, finished}
use Rattle.dimacs.proofs.Written.{closed_more, closed_all}

-- a last clause that is open
closed_open : (cs : List (List ℕ)) (now : List ℕ) → 0 < length now → closed (cs ++ now ∷ []) ≡ None
closed_open [] [] lt = absurd (omega arith)
closed_open [] (c ∷ now) lt = refl
closed_open (d ∷ []) now lt = closed_more d now [] ∙ ap (option_map (λ x. d ∷ x)) (closed_open [] now lt)
closed_open (d ∷ e ∷ cs) now lt = closed_more d e (cs ++ now ∷ []) ∙ ap (option_map (λ x. d ∷ x)) (closed_open (e ∷ cs) now lt)

module _ (p : Problem) (space line : ℕ) (cs : List (List ℕ)) (now : List ℕ) where
  abbrev at_end : Answer
  at_end = finished p space line (closed (cs ++ (now ++ []) ∷ []))

  pub end_open : 0 < length now → at_end ≡ fault line (Reader ClauseCount)
  end_open lt = ap (λ x. finished p space line (closed (cs ++ x ∷ []))) (append-nil now) ∙ ap (finished p space line) (closed_open cs now lt)

  end_closed : length now ≡ 0 → at_end ≡ finished p space line (Some cs)
  end_closed z = ap (λ x. finished p space line (closed (cs ++ x ∷ []))) (append-nil now ∙ nil_from_length now z) ∙ ap (finished p space line) (closed_all cs)

  pub end_count : length now ≡ 0 → (length cs ≡ p.clauses → ⊥) → at_end ≡ fault line (Reader ClauseCount)
  end_count z ne =
      end_closed z
      ∙ ap (λ b. cond b (cond (leb (length (encode cs)) (min space 30000)) (Ok (record { nets = p.nets; clauses = cs })) (fault line (Sheet StoreFull))) (fault line (Reader ClauseCount))) (ne_eqb _ _ ne)

  end_all : length now ≡ 0 → length cs ≡ p.clauses → at_end ≡ cond (leb (length (encode cs)) (min space 30000)) (Ok (record { nets = p.nets; clauses = cs })) (fault line (Sheet StoreFull))
  end_all z e =
      end_closed z
      ∙ ap (λ b. cond b (cond (leb (length (encode cs)) (min space 30000)) (Ok (record { nets = p.nets; clauses = cs })) (fault line (Sheet StoreFull))) (fault line (Reader ClauseCount))) (eq-eqb _ _ e)

  pub end_full : length now ≡ 0 → length cs ≡ p.clauses → min space 30000 < length (encode cs) → at_end ≡ fault line (Sheet StoreFull)
  end_full z e lt = end_all z e ∙ ap (λ b. cond b (Ok (record { nets = p.nets; clauses = cs })) (fault line (Sheet StoreFull))) (lt-leb _ _ lt)

  pub end_fits : length now ≡ 0 → length cs ≡ p.clauses → length (encode cs) ≤ min space 30000 → at_end ≡ Ok (record { nets = p.nets; clauses = cs })
  end_fits z e le = end_all z e ∙ ap (λ b. cond b (Ok (record { nets = p.nets; clauses = cs })) (fault line (Sheet StoreFull))) (le-leb _ _ le)
