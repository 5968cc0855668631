-- The loop over the assumed literals, and what a search for a model under them comes to. Assumes nothing.
use Rattle.std.proofs.Common.{◌≡◌, ℕ, ◌+◌, ◌<◌, Bool, true, false, ◌&&◌, List, length, get_or, drop, sym, ap, ◌∙◌, subst, Option, Some}
use Rattle.std.proofs.lemmas.List.{at_drop_more}
use Rattle.std.proofs.lemmas.Bool.{and_parts, both_ways}
use Rattle.cnf.specs.Truth.{lit, named, inside}
use Rattle.solver.specs.Search.{every}
use Rattle.search.specs.declared.state.State.{State}
use Rattle.search.specs.Cells.{Extends, look, assigned}
use Rattle.search.specs.States.{Grew, Assumed, cells_of}
use Rattle.search.proofs.CellFacts.{named_at, lit_true, lit_false, extend_assigned, look-assigned}
use Rattle.search.proofs.StateFacts.{grew_trans}

pub record Assuming (ws : List ℕ) (s t : State) (i : ℕ) : Type 0 where
  pub grew : Grew s t
  pub known : inside (length (cells_of t)) (drop i ws) ≡ true
  pub onto : (a : ℕ → Bool) → Extends (cells_of s) a → every a ws ≡ true → Extends (cells_of t) a
  pub rest : (a : ℕ → Bool) → Extends (cells_of t) a → every a ws ≡ every a (drop i ws)

module _ (ws : List ℕ) (s t : State) (i : ℕ) (p : Assuming ws s t i) (b : i < length ws) where
  every_more : (a : ℕ → Bool) (x : Bool) → lit a (get_or ws i 0) ≡ x → every a (drop i ws) ≡ (x && every a (drop (i + 1) ws))
  every_more a x e = at_drop_more (every a) ws i 0 b ∙ ap (λ y. y && every a (drop (i + 1) ws)) e

  pub assuming_known : named (length (cells_of t)) (get_or ws i 0) ≡ true
  assuming_known = (named_at (length (cells_of t)) ws i b p.known).0

  pub assuming_yes : Some true ≡ look (cells_of t) (get_or ws i 0) → Assuming ws s t (i + 1)
  assuming_yes l = record {
    grew = p.grew;
    known = (named_at (length (cells_of t)) ws i b p.known).1;
    onto = p.onto;
    rest = λ a e. p.rest a e ∙ every_more a true (lit_true (cells_of t) a (get_or ws i 0) assuming_known l e);
  }

  pub assuming_no : Some false ≡ look (cells_of t) (get_or ws i 0) → Assumed ws s t false
  assuming_no l = λ a e m.
      let x = p.onto a e m in
      both_ways (every a ws) (p.rest a x ∙ every_more a false (lit_false (cells_of t) a (get_or ws i 0) assuming_known l x)) m

  pub assuming_open : (u : State) → cells_of u ≡ assigned (cells_of t) (get_or ws i 0) → Grew t u → Assuming ws s u (i + 1)
  assuming_open u cs g =
      let w = get_or ws i 0 in
      let k : named (length (cells_of u)) w ≡ true = ap (λ n. named n w) g.size ∙ assuming_known in
      record {
        grew = grew_trans s t u p.grew g;
        known = ap (λ n. inside n (drop (i + 1) ws)) g.size ∙ (named_at (length (cells_of t)) ws i b p.known).1;
        onto = λ a e m.
            let x = p.onto a e m in
            let y = and_parts (lit a w) _ (sym (at_drop_more (every a) ws i 0 b) ∙ sym (p.rest a x) ∙ m) in
            let P : List (Option Bool) → Type 0 = λ c. Extends c a in
            subst P (sym cs) (extend_assigned (cells_of t) w a assuming_known y.0 x);
        rest = λ a e.
            p.rest a (g.finer a e)
            ∙ every_more a true (lit_true (cells_of u) a w k (sym (ap (λ c. look c w) cs ∙ look-assigned (cells_of t) w assuming_known)) e);
      }
