-- What a sweep of stored clauses does to a sheet. Assumes nothing.
use Rattle.std.proofs.Common.{◌≡◌, ℕ, ◌*◌, ◌/◌, ◌<◌, ◌≤◌, Bool, true, false, cond, eqb, List, [], ◌∷◌, length, get_or, sym, refl, ap, ◌∙◌, subst, ⊎_elim, arith}
use Rattle.std.proofs.lemmas.List.{ext_get_or, get_or-map, length-map}
use Rattle.std.proofs.lemmas.Bool.{both_ways, cases_Bool, cases_lt, or_cases, eqb-true}
use Rattle.std.proofs.lemmas.Bool.Decides.{nat_tests}
use Rattle.cnf.specs.Truth.{lit, Model, Equal}
use Rattle.cnf.specs.Words.{goods}
use Rattle.cnf.specs.Table.{turn, rep, by, applieds, Own, Tabled}
use Rattle.cnf.specs.Finite.{is_backbone, lowest}
use Rattle.cnf.proofs.Counting.{backbone_means}
use Rattle.cnf.proofs.Entries.{entries_from_tabled}
use Rattle.classes.specs.Renumber.{mentions, occurs, Stands}
use Rattle.classes.specs.Classes.{Satisfied}
use Rattle.classes.specs.Lowest.{Lowers}
use Rattle.classes.proofs.Lowest.{lowest_means}
use Rattle.classes.proofs.Refining.{self_even}
use Rattle.classes.proofs.Renumbering.{lit_even}
use Rattle.propagation.specs.Follow.{followed, OwnEach, Moves}
use Rattle.propagation.specs.Propagate.{rewritten, propagated}
use Rattle.propagation.proofs.Keeping.{followed-rep}
use Rattle.sheet.specs.State.{State, Sound}
use Rattle.sheet.specs.Calls.{news}

-- a variable of clauses that are written in representatives is its own
own_mentioned : (t c : List ℕ) (v : ℕ) → Own t c → mentions c v ≡ true → get_or t v 0 ≡ 2 * v
own_mentioned t [] v o h = absurd (both_ways false refl h)
own_mentioned t (c ∷ cs) v o h =
    ⊎_elim (λ (q : eqb (c / 2) v ≡ true). subst (λ u. get_or t u 0 ≡ 2 * u) (eqb-true (c / 2) v q) (self_even t c o.0))
    (λ q. own_mentioned t cs v o.1 q) (or_cases (eqb (c / 2) v) (mentions cs v) h)

pub own_occurring : (t : List ℕ) (cs : List (List ℕ)) (v : ℕ) → OwnEach t cs → occurs cs v ≡ true → get_or t v 0 ≡ 2 * v
own_occurring t [] v o h = absurd (both_ways false refl h)
own_occurring t (c ∷ cs) v o h = ⊎_elim (λ q. own_mentioned t c v o.0 q) (λ q. own_occurring t cs v o.1 q) (or_cases (mentions c v) (occurs cs v) h)

-- a literal of a variable that represents itself represents itself
own_code : (t : List ℕ) (d : ℕ) → get_or t (d / 2) 0 ≡ 2 * (d / 2) → rep t d ≡ d
own_code t d e = grind (arith, nat_tests)

-- false is a backbone exactly if there is no model
pub some_model : (n : ℕ) (cs : List (List ℕ)) → goods n cs ≡ true → Satisfied cs → is_backbone n cs 0 ≡ false
some_model n cs g x =
    ⊎_elim (λ b. absurd (both_ways (x.by 0) x.model.constant ((backbone_means n cs 0 g (omega arith)).0 b x.by x.model))) (λ b. b) (cases_Bool (is_backbone n cs 0))

pub no_model : (n : ℕ) (cs : List (List ℕ)) → goods n cs ≡ true → ((a : ℕ → Bool) → Model cs a → ⊥) → is_backbone n cs 0 ≡ true
no_model n cs g x = (backbone_means n cs 0 g (omega arith)).1 (λ a m. absurd (x a m))

-- two replacements that agree on the variables of the table
pub rewritten_same : (f h : ℕ → ℕ) (t : List ℕ) (cs : List (List ℕ)) → Tabled t → ((v : ℕ) → v < length t → f v ≡ h v) → rewritten f t cs ≡ rewritten h t cs
rewritten_same f h t cs w e =
    let same : followed f t ≡ followed h t
    = ext_get_or 0 (followed f t) (followed h t) (length-map t _ ∙ sym (length-map t _))
    (λ v l.
    let k : v < length t = omega (arith, length-map t (λ r. turn (f (r / 2)) r)) in
    let low = (entries_from_tabled t w).low v k in
    get_or-map (λ r. turn (f (r / 2)) r) t v 0 0 k ∙ ap (λ x. turn x (get_or t v 0)) (e (get_or t v 0 / 2) (omega arith)) ∙ sym (get_or-map (λ r. turn (h (r / 2)) r) t v 0 0 k)) in
    ap (λ x. propagated x (applieds (by x) cs)) same

-- the sweep of clauses G that have a model, and that every assignment of the sheet satisfies
module _
    (s : State)
    (cs : List (List ℕ))
    (w : Sound s)
    (own : OwnEach s.table cs)
    (good : goods s.nets cs ≡ true)
    (sat : Satisfied cs)
  where
    lows : Lowers s.nets cs
    lows = lowest_means s.nets cs good sat

    -- a variable that does not occur has only itself, so the new representatives are the lowest equal literals
    pub news-lowest : (v : ℕ) → v ≤ s.nets → news s.nets cs v ≡ lowest s.nets cs v
    news-lowest v l =
        ⊎_elim
        (λ q. ap (λ b. cond b (lowest s.nets cs v) (2 * v)) q)
        (λ q. ap (λ b. cond b (lowest s.nets cs v) (2 * v)) q ∙ sym (lows.absent v l q)) (cases_Bool (occurs cs v))

    module _ (f : ℕ → ℕ) (same : (v : ℕ) → v ≤ s.nets → f v ≡ lowest s.nets cs v) where
      within : (v : ℕ) → v < length s.table → v ≤ s.nets
      within v l = omega (arith, w.size)

      own_low : (v : ℕ) → v ≤ s.nets → get_or s.table v 0 ≡ 2 * v → rep s.table (lowest s.nets cs v) ≡ lowest s.nets cs v
      own_low v l e =
          let d : ℕ = lowest s.nets cs v in
          ⊎_elim
          (λ (k : d < 2). w.reduced.tabled.constants d k)
          (λ (k : 2 ≤ d). own_code s.table d
          (⊎_elim
          (λ q. own_occurring s.table cs (d / 2) own (lows.present v l q k))
          (λ q.
          let z : d / 2 ≡ v = (let a = lows.absent v l q in omega arith) in
          subst (λ u. get_or s.table u 0 ≡ 2 * u) (sym z) e) (cases_Bool (occurs cs v)))) (cases_lt d 2)

      pub sweep_moves : Moves s.table f
      sweep_moves = record {
        constant = same 0 (omega arith) ∙ omega (arith, lows.low 0);
        low = λ v l. omega (arith, same v (within v l), lows.low v);
        own = λ v l e. ap (rep s.table) (same v (within v l)) ∙ own_low v (within v l) e ∙ sym (same v (within v l));
        itself = λ v l.
            let k = within v l in
            let d : ℕ = lowest s.nets cs v in
            let e = same v k in
            let b : d / 2 ≤ s.nets = omega (arith, lows.low v) in
            ap (λ x. turn (f (x / 2)) x) e ∙ ap (λ x. turn x d) (same (d / 2) b) ∙ lows.itself v k ∙ sym e;
      }

      pub sweep_agrees : ((a : ℕ → Bool) → Stands s.store s.table a → Model cs a)
          → (a : ℕ → Bool) → Stands s.store s.table a → (v : ℕ) → v < length s.table → get_or s.table v 0 ≡ 2 * v → a v ≡ lit a (f v)
      sweep_agrees models a st v l e =
          let k = within v l in
          sym (lit_even a v) ∙ lows.equal v k a (models a st) ∙ ap (lit a) (sym (same v k))

      -- literals that are equal over the clauses have one representative
      pub followed_equal : (c d : ℕ) → rep s.table c / 2 ≤ s.nets → rep s.table d / 2 ≤ s.nets → Equal cs (rep s.table c) (rep s.table d)
          → rep (followed f s.table) c ≡ rep (followed f s.table) d
      followed_equal c d k l e =
          let z : f 0 ≡ 0 = sweep_moves.constant in
          let x : ℕ = rep s.table c in
          let y : ℕ = rep s.table d in
          followed-rep s.table f z c ∙ ap (λ u. turn u x) (same (x / 2) k) ∙ lows.same x y k l e ∙ ap (λ u. turn u y) (sym (same (y / 2) l)) ∙ sym (followed-rep s.table f z d)
