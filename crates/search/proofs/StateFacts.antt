-- The state of a search. Assumes nothing.
use Rattle.std.proofs.Common.{◌≡◌, ℕ, ◌+◌, ◌/◌, ◌<◌, ◌≤◌, true, List, [], ◌∷◌, ◌++◌, length, get_or, take, drop, set, vec_len, sym, ap, ◌∙◌, subst, append_assoc, arith, Option, None, Bool}
use Rattle.std.proofs.lemmas.List.{drop-append-le, take-append-le, drop_at, take_at, append-nil}
use Rattle.std.specs.List.{All}
use Rattle.std.proofs.lemmas.List.Elements.{All-push}
use Rattle.cnf.specs.Truth.{named}
use Rattle.search.specs.declared.state.State.{State}
use Rattle.search.specs.Cells.{Extends, look, place_of, restored, open_count}
use Rattle.search.specs.States.{Grew, Same, cells_of, trail_of}
use Rattle.search.proofs.CellFacts.{named_from, open_look, restored_push, restored-append}

-- the trail holds places of cells
pub places_push : (c d : List (Option Bool)) (is js : List ℕ) (i : ℕ) → length d ≡ length c → js ≡ is ++ i ∷ [] → i < length c → All (λ k. k < length c) is → All (λ k. k < length d) js
places_push c d is js i l e h p =
    let P : ℕ → Type 0 = λ n. All (λ k. k < n) js in
    let Q : List ℕ → Type 0 = All (λ k. k < length c) in
    subst P (sym l) (subst Q (sym e) (All-push (λ k. k < length c) is i p h))

-- a place that is opened again
module _ (c : List (Option Bool)) (is js : List ℕ) (i : ℕ) (e : js ≡ is ++ i ∷ []) where
  pub undo_cells : (mark : ℕ) → mark ≤ length is → restored (set c i None) (drop mark is) ≡ restored c (drop mark js)
  undo_cells mark h = sym (restored_push c (drop mark is) i) ∙ ap (restored c) (sym (ap (drop mark) e ∙ drop-append-le mark is (i ∷ []) h))

  pub undo_trail : (mark : ℕ) → mark ≤ length is → take mark is ≡ take mark js
  undo_trail mark h = sym (ap (take mark) e ∙ take-append-le mark is (i ∷ []) h)

pub grew_trans : (s t u : State) → Grew s t → Grew t u → Grew s u
grew_trans s t u g h = record {
  more = g.more ++ h.more;
  trail = h.trail ∙ ap (λ xs. xs ++ h.more) g.trail ∙ append_assoc (trail_of s) g.more h.more;
  back = restored-append (cells_of u) g.more h.more ∙ ap (λ c. restored c g.more) h.back ∙ g.back;
  finer = λ a e. g.finer a (h.finer a e);
  size = h.size ∙ g.size;
  fewer = omega (arith, g.fewer, h.fewer);
}

pub same_grew : (s t : State) → Same s t → Grew s t
same_grew s t e = record {
  more = [];
  trail = e.trail ∙ sym (append-nil (trail_of s));
  back = e.cells;
  finer = λ a x. let P : List (Option Bool) → Type 0 = λ c. Extends c a in subst P e.cells x;
  size = ap length e.cells;
  fewer = omega (arith, ap open_count e.cells);
}

-- what was set since s is opened again; u is t after a try that failed
pub taken_back : (s t u v : State) (mark : ℕ) → mark ≡ vec_len s.trail → Grew s t → Same t u → cells_of v ≡ restored (cells_of u) (drop mark (trail_of u))
    → trail_of v ≡ take mark (trail_of u) → Same s v
taken_back s t u v mark e g m cs tr =
    let f = grew_trans s t u g (same_grew t u m) in
    let l = sym (e ∙ s.trail.ok.0) in
    record {
      cells = cs ∙ ap (restored (cells_of u)) (ap (drop mark) f.trail ∙ drop_at (trail_of s) f.more mark l) ∙ f.back;
      trail = tr ∙ ap (take mark) f.trail ∙ take_at (trail_of s) f.more mark l;
    }

-- the literals of an open place
module _ (c' c : List (Option Bool)) (p w : ℕ) (e : c' ≡ c) (h : (p < length c') × (get_or c' p None ≡ None)) (at : w / 2 ≡ p + 1) where
  pub known_at : named (length c) w ≡ true
  known_at = let l = ap length e in named_from (length c) w (omega arith) (omega (arith, h.0))

  pub free_at : look c w ≡ None
  free_at =
      let z : place_of w ≡ p = omega arith in
      open_look c w (ap (λ i. get_or c i None) z ∙ sym (ap (λ x. get_or x p None) e) ∙ h.1)
