-- What a full sweep keeps and finds. Assumes nothing.
use Rattle.std.proofs.Common.{◌≡◌, ℕ, ◌-◌, ◌*◌, ◌/◌, ◌≤◌, Bool, true, false, cond, List, [], ◌∷◌, length, get_or, Some, None, Ok, filter, Option, sym, refl, ap, ◌∙◌, subst, arith}
use Rattle.std.proofs.lemmas.Bool.{both_ways, true≢false}
use Rattle.cnf.specs.Truth.{told, lit, clauses, Model}
use Rattle.cnf.specs.Words.{encode, goods}
use Rattle.cnf.specs.Table.{rep, by, via}
use Rattle.cnf.specs.Finite.{is_backbone, lowest, rows}
use Rattle.std.specs.List.{list_all}
use Rattle.cnf.proofs.Tables.{lit_turn}
use Rattle.cnf.proofs.Counting.{backbone_means}
use Rattle.cnf.proofs.Entries.{entries_from_tabled}
use Rattle.classes.specs.Renumber.{Stands}
use Rattle.classes.specs.Classes.{Satisfied}
use Rattle.classes.proofs.Refining.{self_even}
use Rattle.classes.proofs.Renumbering.{lit_even, lit_at, clauses-on}
use Rattle.propagation.specs.declared.unit.Pending.TheVariants.{Nothing}
use Rattle.propagation.specs.Propagate.{Rewritten, pending, propagated_for, rewritten}
use Rattle.propagation.specs.Laws.{Lasts, Outcome}
use Rattle.propagation.proofs.Keeping.{rewriting_keeps, rewriting_follows}
use Rattle.sheet.specs.declared.outcome.Outcome.{Outcome as Answer}
use Rattle.sheet.specs.declared.outcome.Outcome.TheVariants.{Contradiction, Settled}
use Rattle.sheet.specs.State.{State, broken, Sound}
use Rattle.sheet.specs.Calls.{contradicted, landed, rested, full_swept, news, newly, outcome}
use Rattle.sheet.specs.Laws.{Fits, Complete, Sweeps}
use Rattle.sheet.proofs.Standing.{lit_follows}
use Rattle.sheet.proofs.Sweeping.{own_occurring, news-lowest, sweep_moves, sweep_agrees, followed_equal}

-- a test that fails on some of the elements that were kept
kept_some : {X : Type 0} (p q : X → Bool) (xs : List X) → list_all p (filter q xs) ≡ false → (x : X) × (q x ≡ true)
kept_some p q [] h = absurd (true≢false h)
kept_some {X} p q (x ∷ xs) h =
    elim (q x) as (λ b. q x ≡ b → list_all p (cond b (x ∷ filter q xs) (filter q xs)) ≡ false → (y : X) × (q y ≡ true))
    [ true ↦ λ e _. (x, e) | false ↦ λ _ k. kept_some p q xs k ] refl h

-- where false is no backbone there is a model
pub a_model : (n : ℕ) (cs : List (List ℕ)) → is_backbone n cs 0 ≡ false → Satisfied cs
unfolding is_backbone
a_model n cs h =
    let x = kept_some (λ bits. lit (told bits) 0) (λ bits. clauses (told bits) cs) (rows n) h in
    record { by = told x.0; model = record { constant = refl; holds = x.1 } }

pub pending_whole : (cs : List (List ℕ)) → pending cs ≡ Nothing → broken cs ≡ false
pending_whole [] h = refl
pending_whole ([] ∷ cs) h = absurd (let z : ◌≡◌ {A = ℕ} 0 1 = cc in omega arith)
pending_whole ((c ∷ []) ∷ cs) h = absurd (let z : ◌≡◌ {A = ℕ} 0 1 = cc in omega arith)
pending_whole ((c ∷ d ∷ ds) ∷ cs) h = pending_whole cs h

-- nothing can become empty where there is no clause
rewritten-none : (f : ℕ → ℕ) (t : List ℕ) → rewritten f t [] ≡ None → ⊥
unfolding propagated_for
rewritten-none f t h = let z : ◌≡◌ {A = ℕ} 0 1 = cc in omega arith

pub room_for_one : (s : State) (f : ℕ → ℕ) → Sound s → rewritten f s.table s.store ≡ None → 1 ≤ s.space
room_for_one s f w h = go s.store refl
  where
    go : (cs : List (List ℕ)) → s.store ≡ cs → 1 ≤ s.space
    go [] e = absurd (rewritten-none f s.table (ap (rewritten f s.table) (sym e) ∙ h))
    go (c ∷ cs) e = let k = ap (λ x. length (encode x)) e in omega (arith, w.room)

pub good : (s : State) → Sound s → goods s.nets s.store ≡ true
good s w = let n : length s.table - 1 ≡ s.nets = omega (arith, w.size) in ap (λ k. goods k s.store) (sym n) ∙ w.reduced.good

-- a model of the store, made to follow the table
module _ (s : State) (w : Sound s) (b : ℕ → Bool) (m : Model s.store b) where
  abbrev tied : ℕ → Bool
  tied = via b (by s.table)

  tied_own : (v : ℕ) → get_or s.table v 0 ≡ 2 * v → tied v ≡ b v
  tied_own v e = ap (lit b) e ∙ lit_even b v

  pub tied_stands : Stands s.store s.table tied
  tied_stands = record {
    model = record {
      constant = ap (lit b) (entries_from_tabled s.table w.reduced.tabled).constant ∙ m.constant;
      holds = clauses-on tied b s.store (λ v o. tied_own v (own_occurring s.table s.store v w.reduced.own o)) ∙ m.holds;
    };
    follows = λ v l.
        let r : ℕ = get_or s.table v 0 in
        sym (lit_at tied b r (tied_own (r / 2) (self_even s.table r ((entries_from_tabled s.table w.reduced.tabled).own v l))));
  }

  pub tied-lit : (c : ℕ) → lit tied c ≡ lit b (rep s.table c)
  tied-lit c = sym (lit_turn b (get_or s.table (c / 2) 0) c)

-- where the sheet has no assignment, the empty clause keeps that
pub fits-contradicted : (accepted : List (List ℕ)) (s : State) → ((a : ℕ → Bool) → Stands s.store s.table a → ⊥) → Fits accepted s → Fits accepted (contradicted s)
fits-contradicted h s none f a = ((λ m. absurd (none a ((f a).0 m))), (λ st. absurd (both_ways false refl st.model.holds)))

verdict_none : (s : State) → ((a : ℕ → Bool) → Stands s.store s.table a → ⊥) → Sweeps s (rested (contradicted s)) (Ok (outcome s (rested (contradicted s))))
verdict_none s none = λ h f. (fits-contradicted h s none f, λ a m. none a ((f a).0 m))

module _ (s : State) (w : Sound s) (sat : Satisfied s.store) (p : Rewritten) (e : rewritten (news s.nets s.store) s.table s.store ≡ Some p) (l : Lasts s.table s.store p.table p.clauses) where
  same : (v : ℕ) → v ≤ s.nets → news s.nets s.store v ≡ lowest s.nets s.store v
  same = news-lowest s s.store w w.reduced.own (good s w) sat

  rep_net : (c : ℕ) → c / 2 ≤ s.nets → rep s.table c / 2 ≤ s.nets
  rep_net c k = omega (arith, w.reduced.tabled.lower c (omega (arith, w.size)))

  complete : (accepted : List (List ℕ)) → Fits accepted s → Complete accepted (rested (landed s (Some p)))
  complete h f c d k j = (
    (λ q a m.
        let st = (l.same a).0 ((f a).0 m) in
        let n = l.size in
        sym (lit_follows p.table a st.follows c (omega (arith, w.size))) ∙ ap (lit a) q ∙ lit_follows p.table a st.follows d (omega (arith, w.size))),
    (λ q.
        rewriting_follows s.table s.store (news s.nets s.store) p w.reduced (sweep_moves s s.store w w.reduced.own (good s w) sat (news s.nets s.store) same) e c d
        (followed_equal s s.store w w.reduced.own (good s w) sat (news s.nets s.store) same c d (rep_net c k) (rep_net d j)
        (λ b m. sym (tied-lit s w b m c) ∙ q (via b (by s.table)) ((f (via b (by s.table))).1 (tied_stands s w b m)) ∙ tied-lit s w b m d))),
  )

  verdict_some : Sweeps s (rested (landed s (Some p))) (Ok (outcome s (rested (landed s (Some p)))))
  verdict_some =
      let u : State = rested (landed s (Some p)) in
      let pair : Answer = Settled (record { fixed = newly 1 s.table p.table; tied = newly 2 s.table p.table }) in
      subst (λ b. Sweeps s u (Ok (cond b Contradiction pair))) (sym (pending_whole p.clauses l.rest))
      (λ h f. (
        (λ a. ((λ m. (l.same a).0 ((f a).0 m)), (λ st. (f a).1 ((l.same a).1 st)))),
        record { by = via sat.by (by s.table); model = (f (via sat.by (by s.table))).1 (tied_stands s w sat.by sat.model) },
        complete h f,
      ))

-- what rewriting by the sweep's new representatives leaves
pub sweep_outcome : (s : State) → Sound s → Satisfied s.store → Outcome s.table s.store (rewritten (news s.nets s.store) s.table s.store)
sweep_outcome s w sat =
    let g = good s w in
    let same = news-lowest s s.store w w.reduced.own g sat in
    rewriting_keeps s.table s.store (news s.nets s.store) w.reduced (sweep_moves s s.store w w.reduced.own g sat _ same)
    (sweep_agrees s s.store w w.reduced.own g sat _ same (λ a st. st.model))

verdict_rewritten : (s : State) → Sound s → Satisfied s.store → (o : Option Rewritten) → rewritten (news s.nets s.store) s.table s.store ≡ o → Outcome s.table s.store o
    → Sweeps s (rested (landed s o)) (Ok (outcome s (rested (landed s o))))
verdict_rewritten s w sat None e l = verdict_none s l
verdict_rewritten s w sat (Some p) e l = verdict_some s w sat p e l

-- the answer of a full sweep, and what is kept
pub full_verdict : (s : State) → Sound s → Sweeps s (full_swept s) (Ok (outcome s (full_swept s)))
full_verdict s w =
    let o : Option Rewritten = rewritten (news s.nets s.store) s.table s.store in
    elim (is_backbone s.nets s.store 0)
    as (λ b. is_backbone s.nets s.store 0 ≡ b → Sweeps s (rested (cond b (contradicted s) (landed s o))) (Ok (outcome s (rested (cond b (contradicted s) (landed s o)))))) [
      | true ↦ λ q. verdict_none s (λ a st. both_ways (a 0) st.model.constant ((backbone_means s.nets s.store 0 (good s w) (omega arith)).0 q a st.model))
      | false ↦ λ q. let sat = a_model s.nets s.store q in verdict_rewritten s w sat o refl (sweep_outcome s w sat)
    ] refl
