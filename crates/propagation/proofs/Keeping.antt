-- What replacing representatives and propagating keep. Assumes nothing.
use Rattle.std.proofs.Common.{◌≡◌, ℕ, zero, suc, ◌-◌, ◌*◌, ◌/◌, ◌%◌, ◌<◌, ◌≤◌, Bool, true, false, cond, not, eqb, ◌↔◌, List, [], ◌∷◌, length, get_or, Some, None, Option, sym, refl, ap, ◌∙◌, subst, inl, inr, arith}
use Rattle.std.proofs.lemmas.List.{length-append, length-map, get_or-map, get_or_past}
use Rattle.std.proofs.lemmas.Bool.{and_parts, both_ways, cases_eq, cases_lt, eq-eqb, ne_eqb}
use Rattle.std.proofs.lemmas.Bool.Decides.{nat_tests}
use Rattle.cnf.specs.Truth.{opp, lit, clause, clauses, named}
use Rattle.cnf.specs.Words.{encode, good, goods}
use Rattle.cnf.specs.Table.{turn, rep, Tabled, Extends, put, then', applied, applieds, before, by}
use Rattle.cnf.specs.Laws.{OwnAll, counted}
use Rattle.cnf.proofs.Tables.{lit_turn, applieds-good}
use Rattle.cnf.proofs.Applying.{rep-rep, applies}
use Rattle.cnf.proofs.Entries.{Entrywise, turn_even, turn_odd, turn_var, turn-opp, rep-opp, rep_even, tabled_from_entries, entries_from_tabled}
use Rattle.classes.specs.Renumber.{Stands, Later}
use Rattle.classes.proofs.Renumbering.{lit_even, sheet_keeps}
use Rattle.propagation.specs.declared.unit.Pending.TheVariants.{Nothing, Conflict, Forces}
use Rattle.propagation.specs.Follow.{followed, forced, OwnEach, Reduced, Moves}
use Rattle.propagation.specs.Propagate.{Rewritten, pending, propagated_for, rewritten}
use Rattle.propagation.specs.Laws.{Lasts, Outcome, PropagationKeeps, RewritingKeeps, RewritingFollows}
use Rattle.propagation.proofs.Following.{forced_literal}
use Rattle.propagation.proofs.Short.{forces_at, conflict_false}
use Rattle.propagation.proofs.Propagating.{propagated_end, propagated_nothing, propagated_conflict, propagated_forces}

turn-turn : (x r c : ℕ) → turn (turn x r) c ≡ turn x (turn r c)
turn-turn x r c = elim (eqb (c % 2) 0) as (λ b. cond b (turn x r) (opp (turn x r)) ≡ turn x (cond b r (opp r))) [ true ↦ refl | false ↦ sym (turn-opp x r) ]

-- the entry of a literal that represents itself
own_entry : (t : List ℕ) (c : ℕ) → rep t c ≡ c → get_or t (c / 2) 0 ≡ 2 * (c / 2)
own_entry t c e =
    elim (cases_eq (c % 2) 0) [
      | inl p ↦ (let h = sym (turn_even (get_or t (c / 2) 0) c p) ∙ e in omega arith)
      | inr n ↦ (let h = sym (turn_odd (get_or t (c / 2) 0) c (omega arith)) ∙ e in omega arith)
    ]

-- a literal that represents itself does so with either sign
rep_turn : (t : List ℕ) (d c : ℕ) → rep t d ≡ d → rep t (turn d c) ≡ turn d c
rep_turn t d c e = elim (eqb (c % 2) 0) as (λ b. rep t (cond b d (opp d)) ≡ cond b d (opp d)) [ true ↦ e | false ↦ rep-opp t d ∙ ap opp e ]

-- the entries of a table whose representatives are replaced, and what it makes of a literal
module _ (t : List ℕ) (f : ℕ → ℕ) (z : f 0 ≡ 0) where
  pub followed_entry : (v : ℕ) → get_or (followed f t) v 0 ≡ turn (f (get_or t v 0 / 2)) (get_or t v 0)
  followed_entry v =
      elim (cases_lt v (length t)) [
        | inl l ↦ get_or-map (λ r. turn (f (r / 2)) r) t v 0 0 l
        | inr l ↦ get_or_past (followed f t) v 0 (omega (arith, length-map t (λ r. turn (f (r / 2)) r))) ∙ sym (ap (λ r. turn (f (r / 2)) r) (get_or_past t v 0 l) ∙ z)
      ]

  pub followed-rep : (c : ℕ) → rep (followed f t) c ≡ turn (f (rep t c / 2)) (rep t c)
  followed-rep c =
      let r : ℕ = get_or t (c / 2) 0 in
      ap (λ x. turn x c) (followed_entry (c / 2)) ∙ turn-turn (f (r / 2)) r c ∙ ap (λ v. turn (f v) (turn r c)) (sym (turn_var r c))

-- a table keeps its facts
module _ (t : List ℕ) (f : ℕ → ℕ) (some : 0 < length t) (w : Tabled t) (m : Moves t f) where
  abbrev new : List ℕ
  new = followed f t

  followed_size : length new ≡ length t
  followed_size = length-map t (λ r. turn (f (r / 2)) r)

  pub followed_extends : Extends t new
  followed_extends c = followed-rep t f m.constant (rep t c) ∙ ap (λ d. turn (f (d / 2)) d) (rep-rep t w c) ∙ sym (followed-rep t f m.constant c)

  pub followed_later : Later t new
  followed_later = record {
    size = followed_size;
    inner = λ v h. omega (arith, (entries_from_tabled t w).low v h);
    each = λ v h. sym (rep_even new v) ∙ sym (followed_extends (2 * v)) ∙ ap (rep new) (rep_even t v);
  }

  pub followed_tabled : Tabled new
  followed_tabled = tabled_from_entries new (record { constant = constant; low = low; own = own })
    where
      old : Entrywise t
      old = entries_from_tabled t w

      entry : (v : ℕ) → get_or new v 0 ≡ turn (f (get_or t v 0 / 2)) (get_or t v 0)
      entry = followed_entry t f m.constant

      constant : get_or new 0 0 ≡ 0
      constant = entry 0 ∙ ap (λ r. turn (f (r / 2)) r) old.constant ∙ m.constant

      low : (v : ℕ) → v < length new → get_or new v 0 / 2 ≤ v
      low v h =
          let r : ℕ = get_or t v 0 in
          let l = old.low v (omega (arith, followed_size)) in
          omega (arith, ap (λ x. x / 2) (entry v) ∙ turn_var (f (r / 2)) r, m.low (r / 2) (omega (arith, followed_size)))

      own : (v : ℕ) → v < length new → rep new (get_or new v 0) ≡ get_or new v 0
      own v h =
          let r : ℕ = get_or t v 0 in
          let d : ℕ = f (r / 2) in
          let k : v < length t = omega (arith, followed_size) in
          let l : r / 2 < length t = omega (arith, old.low v k) in
          let e : rep t d ≡ d = m.own (r / 2) l (own_entry t r (old.own v k)) in
          let i : rep new d ≡ d = followed-rep t f m.constant d ∙ ap (λ x. turn (f (x / 2)) x) e ∙ m.itself (r / 2) l in
          ap (rep new) (entry v) ∙ rep_turn new d r i ∙ sym (entry v)

-- what applying a table leaves of the clauses
applieds_own : (t : List ℕ) (cs : List (List ℕ)) → Tabled t → OwnEach t (applieds (by t) cs)
applieds_own t [] w = tt
applieds_own t (c ∷ cs) w =
    elim (applied (by t) c) as (λ o. OwnAll t o → OwnEach t (before o (applieds (by t) cs))) [ None ↦ λ _. applieds_own t cs w | Some x ↦ λ h. (h, applieds_own t cs w) ]
    ((applies t c (applied (by t) c) refl).own w)

pub applieds_fewer : (t : List ℕ) (cs : List (List ℕ)) → length (encode (applieds (by t) cs)) ≤ length (encode cs)
applieds_fewer t [] = omega arith
applieds_fewer t (c ∷ cs) =
    let i = applieds_fewer t cs in
    let l = length-append c (encode cs) in
    elim (applied (by t) c) as (λ o. counted o ≤ length c → length (encode (before o (applieds (by t) cs))) ≤ length (encode (c ∷ cs))) [
      | None ↦ λ _. omega arith
      | Some x ↦ λ h. omega (arith, length-append x (encode (applieds (by t) cs)))
    ] (applies t c (applied (by t) c) refl).fewer

before_count : (o : Option (List ℕ)) (cs : List (List ℕ)) → length (before o cs) ≤ suc (length cs)
before_count None cs = omega arith
before_count (Some c) cs = omega arith

applieds_count : (f : ℕ → ℕ) (cs : List (List ℕ)) → length (applieds f cs) ≤ length cs
applieds_count f [] = omega arith
applieds_count f (c ∷ cs) = omega (arith, applieds_count f cs, before_count (applied f c) (applieds f cs))

-- an assignment agrees with f about each representative
abbrev pub Agrees : List ℕ → List (List ℕ) → (ℕ → ℕ) → Type 0
Agrees t cs f = (a : ℕ → Bool) → Stands cs t a → (v : ℕ) → v < length t → get_or t v 0 ≡ 2 * v → a v ≡ lit a (f v)

-- a table with its clauses, whose representatives are replaced
module _ (t : List ℕ) (cs : List (List ℕ)) (f : ℕ → ℕ) (r : Reduced t cs) (m : Moves t f) where
  abbrev newer : List ℕ
  newer = followed f t

  abbrev rest : List (List ℕ)
  rest = applieds (by newer) cs

  pub followed_reduced : Reduced newer rest
  followed_reduced =
      let l = followed_size t f r.some r.tabled m in
      let w = followed_tabled t f r.some r.tabled m in
      let n : length t - 1 ≡ length newer - 1 = omega arith in
      record {
        some = omega (arith, r.some);
        tabled = w;
        good = subst (λ k. goods k rest ≡ true) n
            (applieds-good (length t - 1) (by newer) cs (record { each = λ v h. omega (arith, r.some, (entries_from_tabled newer w).low v (omega (arith, r.some))) }) r.good);
        own = applieds_own newer cs w;
      }

  module _ (agrees : Agrees t cs f) where
    followed-agrees : (a : ℕ → Bool) → Stands cs t a → (v : ℕ) → v < length t → a v ≡ lit a (get_or newer v 0)
    followed-agrees a s v h =
        let old = entries_from_tabled t r.tabled in
        let d : ℕ = get_or t v 0 in
        s.follows v h
        ∙ ap (λ x. cond (eqb (d % 2) 0) x (not x)) (agrees a s (d / 2) (omega (arith, old.low v h)) (own_entry t d (old.own v h)))
        ∙ sym (lit_turn a (f (d / 2)) d) ∙ ap (lit a) (sym (followed_entry t f m.constant v))

    followed_same : (a : ℕ → Bool) → Stands cs t a ↔ Stands rest newer a
    followed_same = sheet_keeps (length t - 1) cs t newer (omega (arith, r.some)) r.good (followed_later t f r.some r.tabled m) followed-agrees

    -- what lasts from the new table on, lasts from the old one on
    carried : (o : Option Rewritten) → Outcome newer rest o → Outcome t cs o
    carried None h = λ a s. h a ((followed_same a).0 s)
    carried (Some p) h = record {
      reduced = h.reduced;
      size = h.size ∙ followed_size t f r.some r.tabled m;
      fewer = omega (arith, h.fewer, applieds_fewer newer cs);
      later = λ c. sym (h.later (rep t c)) ∙ ap (rep p.table) (followed_extends t f r.some r.tabled m c) ∙ h.later c;
      same = λ a. (λ s. (h.same a).0 ((followed_same a).0 s), λ s. (followed_same a).1 ((h.same a).1 s));
      rest = h.rest;
    }

-- what is known of the literal of a one-literal clause
forces_true : (a : ℕ → Bool) (c : ℕ) (cs : List (List ℕ)) → pending cs ≡ Forces c → clauses a cs ≡ true → lit a c ≡ true
forces_true a c =
    forces_at (λ cs. clauses a cs ≡ true → lit a c ≡ true) c (λ cs h. grind arith) (λ d cs i h. i (and_parts (clause a d) (clauses a cs) h).1)

forces_named : (m c : ℕ) (cs : List (List ℕ)) → pending cs ≡ Forces c → goods m cs ≡ true → named m c ≡ true
forces_named m c =
    forces_at (λ cs. goods m cs ≡ true → named m c ≡ true) c (λ cs h. grind arith) (λ d cs i h. i (and_parts (good m d) (goods m cs) h).1)

forces_own : (t : List ℕ) (c : ℕ) (cs : List (List ℕ)) → pending cs ≡ Forces c → OwnEach t cs → rep t c ≡ c
forces_own t c = forces_at (λ cs. OwnEach t cs → rep t c ≡ c) c (λ cs h. h.0.0) (λ d cs i h. i h.1)

forces_fewer : (f : ℕ → ℕ) (c : ℕ) (cs : List (List ℕ)) → pending cs ≡ Forces c → applied f (c ∷ []) ≡ None → length (applieds f cs) < length cs
forces_fewer f c =
    forces_at (λ cs. applied f (c ∷ []) ≡ None → length (applieds f cs) < length cs) c
    (λ cs h. omega (arith, ap (λ o. length (before o (applieds f cs))) h, applieds_count f cs))
    (λ d cs i h. omega (arith, i h, before_count (applied f d) (applieds f cs)))

-- a literal that becomes true
module _ (c : ℕ) where
  forced_here : (v : ℕ) → v ≡ c / 2 → forced c v ≡ turn 1 c
  forced_here v e = ap (λ b. cond b (turn 1 c) (2 * v)) (eq-eqb v (c / 2) e)

  forced_else : (v : ℕ) → (v ≡ c / 2 → ⊥) → forced c v ≡ 2 * v
  forced_else v n = ap (λ b. cond b (turn 1 c) (2 * v)) (ne_eqb v (c / 2) n)

  pub forced_moves : (t : List ℕ) → Tabled t → 2 ≤ c → Moves t (forced c)
  forced_moves t w h = record { constant = constant; low = low; own = own; itself = itself }
    where
      one : turn 1 c < 2
      one = omega (arith, turn_var 1 c)

      constant : forced c 0 ≡ 0
      constant = forced_else 0 (λ e. omega arith)

      low : (v : ℕ) → v < length t → forced c v / 2 ≤ v
      low v l = elim (cases_eq v (c / 2)) [ inl e ↦ omega (arith, forced_here v e, one) | inr n ↦ omega (arith, forced_else v n) ]

      own : (v : ℕ) → v < length t → get_or t v 0 ≡ 2 * v → rep t (forced c v) ≡ forced c v
      own v l i =
          elim (cases_eq v (c / 2)) [
            | inl e ↦ w.constants (forced c v) (omega (arith, forced_here v e, one))
            | inr n ↦ ap (rep t) (forced_else v n) ∙ rep_even t v ∙ i ∙ sym (forced_else v n)
          ]

      itself : (v : ℕ) → v < length t → turn (forced c (forced c v / 2)) (forced c v) ≡ forced c v
      itself v l =
          elim (cases_eq v (c / 2)) [
            | inl e ↦
                (let k : forced c v < 2 = omega (arith, forced_here v e, one) in
                let z : forced c v / 2 ≡ 0 = omega arith in
                ap (λ x. turn x (forced c v)) (ap (forced c) z ∙ constant) ∙ turn-zero (forced c v) k)
            | inr n ↦
                (let z : 2 * v / 2 ≡ v = omega arith in
                ap (λ x. turn (forced c (x / 2)) x) (forced_else v n) ∙ turn_even (forced c (2 * v / 2)) (2 * v) (omega arith) ∙ ap (forced c) z)
          ]
        where
          turn-zero : (x : ℕ) → x < 2 → turn 0 x ≡ x
          turn-zero x k = elim (cases_eq (x % 2) 0) [ inl e ↦ turn_even 0 x e ∙ omega arith | inr n ↦ turn_odd 0 x (omega arith) ∙ omega arith ]

  -- every assignment agrees with it
  forced-agrees : (t : List ℕ) (cs : List (List ℕ)) → pending cs ≡ Forces c → Agrees t cs (forced c)
  forced-agrees t cs p a s v l i =
      let o = s.model.constant in
      let h = forces_true a c cs p s.model.holds in
      elim (cases_eq v (c / 2)) [
        | inl e ↦ (let k = lit_turn a 1 c in let q = ap a e in let one : a v ≡ lit a (turn 1 c) = grind (arith, nat_tests) in one ∙ ap (lit a) (sym (forced_here v e)))
        | inr n ↦ sym (lit_even a v) ∙ ap (lit a) (sym (forced_else v n))
      ]

  -- the clause with it vanishes
  forced_vanishes : (t : List ℕ) → 2 ≤ c → rep t c ≡ c → applied (by (followed (forced c) t)) (c ∷ []) ≡ None
  forced_vanishes t h e =
      ap (λ d. then' (put [] d) (λ o. Some o))
      (followed-rep t (forced c) (forced_else 0 (λ z. omega arith)) c ∙ ap (λ d. turn (forced c (d / 2)) d) e ∙ sym (forced_literal c c refl))

lasts_itself : (t : List ℕ) (cs : List (List ℕ)) → Reduced t cs → pending cs ≡ Nothing → Lasts t cs t cs
lasts_itself t cs r e = record { reduced = r; size = refl; fewer = omega arith; later = rep-rep t r.tabled; same = λ a. (λ s. s, λ s. s); rest = e }

-- there are never more clauses than turns
propagation_for : (k : ℕ) (t : List ℕ) (cs : List (List ℕ)) → length cs ≤ k → Reduced t cs → Outcome t cs (propagated_for k t cs)
propagation_for zero t [] h r = subst (Outcome t []) (sym (propagated_end t [])) (lasts_itself t [] r refl)
propagation_for zero t (c ∷ cs) h r = absurd (omega arith)
propagation_for (suc k) t cs h r =
    elim (pending cs) as (λ p. pending cs ≡ p → Outcome t cs (propagated_for (suc k) t cs)) [
      | Nothing ↦ λ e. subst (Outcome t cs) (sym (propagated_nothing t cs k e)) (lasts_itself t cs r e)
      | Conflict ↦ λ e. subst (Outcome t cs) (sym (propagated_conflict t cs k e)) (λ a s. both_ways (clauses a cs) (conflict_false a cs e) s.model.holds)
      | Forces c ↦ λ e.
          (let n : 2 ≤ c = (let g = forces_named (length t - 1) c cs e r.good in grind (arith, nat_tests)) in
          let m = forced_moves c t r.tabled n in
          let b = forces_fewer (by (followed (forced c) t)) c cs e (forced_vanishes c t n (forces_own t c cs e r.own)) in
          subst (Outcome t cs) (sym (propagated_forces t cs k c e))
          (carried t cs (forced c) r m (forced-agrees c t cs e) _ (propagation_for k _ _ (omega arith) (followed_reduced t cs (forced c) r m))))
    ] refl

count_encode : (cs : List (List ℕ)) → length cs ≤ length (encode cs)
count_encode [] = omega arith
count_encode (c ∷ cs) = omega (arith, count_encode cs, length-append c (encode cs))

pub propagation_keeps : PropagationKeeps
propagation_keeps t cs r = propagation_for (length (encode cs)) t cs (count_encode cs) r

pub rewriting_keeps : RewritingKeeps
rewriting_keeps t cs f r m agrees = carried t cs f r m agrees (rewritten f t cs) (propagation_keeps _ _ (followed_reduced t cs f r m))

pub rewriting_follows : RewritingFollows
rewriting_follows t cs f p r m e c d h =
    let o : Outcome (followed f t) (applieds (by (followed f t)) cs) (Some p)
    = subst (Outcome (followed f t) (applieds (by (followed f t)) cs)) e (propagation_keeps _ _ (followed_reduced t cs f r m)) in
    sym (o.later c) ∙ ap (rep p.table) h ∙ o.later d
