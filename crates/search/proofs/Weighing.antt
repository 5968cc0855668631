-- The loop over the literals of a clause. Assumes nothing.
use Rattle.std.proofs.Common.{◌≡◌, ℕ, ◌+◌, ◌<◌, Bool, true, false, ◌||◌, List, length, get_or, drop, is_some, Some, None, Option, sym, refl, ap, ◌∙◌}
use Rattle.std.proofs.lemmas.List.{at_drop_more}
use Rattle.std.proofs.lemmas.Bool.{false≢true}
use Rattle.cnf.specs.Truth.{lit, clause, named, inside}
use Rattle.search.specs.Cells.{look, Extends}
use Rattle.search.proofs.CellFacts.{named_at, lit_true, lit_false}

-- once the first i literals are read: none is true, and at most the last that is given is open
abbrev pub Scanned : List (Option Bool) → List ℕ → ℕ → Option ℕ → Type 0
Scanned c ws i None = (inside (length c) (drop i ws) ≡ true) × ((a : ℕ → Bool) → Extends c a → clause a ws ≡ clause a (drop i ws))
Scanned c ws i (Some w) =
    (inside (length c) (drop i ws) ≡ true) × (named (length c) w ≡ true) × (look c w ≡ None)
    × ((a : ℕ → Bool) → Extends c a → clause a ws ≡ (lit a w || clause a (drop i ws)))

pub scanned_inside : (c : List (Option Bool)) (ws : List ℕ) (i : ℕ) (last : Option ℕ) → Scanned c ws i last → inside (length c) (drop i ws) ≡ true
scanned_inside c ws i None h = h.0
scanned_inside c ws i (Some w) h = h.0

or_true : (b : Bool) → (b || true) ≡ true
or_true true = refl
or_true false = refl

or_false : (b : Bool) → (b || false) ≡ b
or_false true = refl
or_false false = refl

module _ (c : List (Option Bool)) (ws : List ℕ) (i : ℕ) where
  module _ (h : i < length ws) where
    clause_more : (a : ℕ → Bool) → clause a (drop i ws) ≡ (lit a (get_or ws i 0) || clause a (drop (i + 1) ws))
    clause_more a = at_drop_more (clause a) ws i 0 h

    clause_is : (a : ℕ → Bool) (b : Bool) → lit a (get_or ws i 0) ≡ b → clause a (drop i ws) ≡ (b || clause a (drop (i + 1) ws))
    clause_is a b e = clause_more a ∙ ap (λ x. x || clause a (drop (i + 1) ws)) e

    pub scanned_named : (last : Option ℕ) → Scanned c ws i last → named (length c) (get_or ws i 0) ≡ true
    scanned_named last s = (named_at (length c) ws i h (scanned_inside c ws i last s)).0

    -- a false literal
    pub scanned_no : (last : Option ℕ) → Some false ≡ look c (get_or ws i 0) → Scanned c ws i last → Scanned c ws (i + 1) last
    scanned_no None l s =
        let n = named_at (length c) ws i h s.0 in (n.1, λ a e. s.1 a e ∙ clause_is a false (lit_false c a (get_or ws i 0) n.0 l e))
    scanned_no (Some w) l s =
        let n = named_at (length c) ws i h s.0 in
        (n.1, s.1, s.2, λ a e. s.3 a e ∙ ap (λ b. lit a w || b) (clause_is a false (lit_false c a (get_or ws i 0) n.0 l e)))

    -- the first open literal
    pub scanned_open : (last : Option ℕ) → None ≡ look c (get_or ws i 0) → is_some last ≡ false → Scanned c ws i last → Scanned c ws (i + 1) (Some (get_or ws i 0))
    scanned_open None l f s = let n = named_at (length c) ws i h s.0 in (n.1, n.0, sym l, λ a e. s.1 a e ∙ clause_more a)
    scanned_open (Some w) l f s = absurd (false≢true (sym f))

    -- a true literal
    pub scanned_yes : (last : Option ℕ) → Some true ≡ look c (get_or ws i 0) → Scanned c ws i last → (a : ℕ → Bool) → Extends c a → clause a ws ≡ true
    scanned_yes None l s a e = s.1 a e ∙ clause_is a true (lit_true c a (get_or ws i 0) (scanned_named None s) l e)
    scanned_yes (Some w) l s a e =
        s.3 a e ∙ ap (λ b. lit a w || b) (clause_is a true (lit_true c a (get_or ws i 0) (scanned_named (Some w) s) l e)) ∙ or_true (lit a w)
