-- The sweep of the store, as the sweep of a set gives it. Assumes nothing.
use Rattle.std.proofs.Common.{◌≡◌, ℕ, ◌+◌, ◌-◌, ◌*◌, ◌<◌, ◌≤◌, Bool, true, false, cond, eqb, List, [], ◌∷◌, length, get_or, replicate, Some, None, Ok, Err, Option, Result, sym, refl, ap, ◌∙◌, subst, arith}
use Rattle.std.specs.Vec.{with_items}
use Rattle.std.proofs.lemmas.List.{with_items_is}
use Rattle.std.proofs.lemmas.Bool.{and_from, eq-eqb}
use Rattle.faults.specs.declared.SheetFault.{SheetFault}
use Rattle.cnf.specs.Truth.{Model}
use Rattle.cnf.specs.Words.{encode, read, well}
use Rattle.cnf.specs.Table.{by}
use Rattle.cnf.specs.Finite.{lowest}
use Rattle.cnf.proofs.Reading.{read_means}
use Rattle.classes.specs.Renumber.{occurs, occurring}
use Rattle.classes.specs.Group.{refusal, Groups, Grouped}
use Rattle.propagation.specs.Propagate.{rewritten}
use Rattle.sheet.specs.declared.sheet.Sheet.{Sheet}
use Rattle.sheet.specs.State.{State, broken, Sound}
use Rattle.sheet.specs.Of.{state_of}
use Rattle.sheet.specs.declared.outcome.Outcome.{Outcome}
use Rattle.sheet.specs.Calls.{used, Does, outcome, landed, rested, swept, full_swept, news, sweep_refusal}
use Rattle.sheet.specs.Laws.{Sweeps}
use Rattle.sheet.specs.Sweep.{Ready, Serves}
use Rattle.sheet.proofs.Keeping.{Lands, sheet_kept, lands, cleared}
use Rattle.sheet.proofs.Joining.{used_is}
use Rattle.sheet.proofs.Sweeping.{some_model, no_model, rewritten_same, news-lowest, sweep_moves, sweep_agrees}
use Rattle.sheet.proofs.Swept.{good, full_verdict}

-- entries that stand for themselves, before the sweep of the store, and after it
module _ (s : State) (w : Sound s) (plain entries : List ℕ) (own : (v : ℕ) → v ≤ s.nets → get_or plain v 0 ≡ 2 * v) where
  entries_news : Groups s.nets s.store plain entries true → (v : ℕ) → v ≤ s.nets → get_or entries v 0 ≡ news s.nets s.store v
  entries_news g v l = g.1 v l ∙ ap (cond (occurs s.store v) (lowest s.nets s.store v)) (own v l)

  group_ready : (found : Bool) → Groups s.nets s.store plain entries found → Ready s entries found
  group_ready true g =
      let same : (v : ℕ) → v ≤ s.nets → by entries v ≡ lowest s.nets s.store v
      = λ v l. entries_news g v l ∙ news-lowest s s.store w w.reduced.own (good s w) g.0 v l in
      record {
        moves = sweep_moves s s.store w w.reduced.own (good s w) g.0 (by entries) same;
        agrees = sweep_agrees s s.store w w.reduced.own (good s w) g.0 (by entries) same (λ a st. st.model);
      }
  group_ready false g = go s.store refl
    where
      go : (cs : List (List ℕ)) → s.store ≡ cs → 1 ≤ s.space
      go [] e = absurd (g.0 (λ _. false) (subst (λ x. Model x (λ _. false)) (sym e) (record { constant = refl; holds = refl })))
      go (c ∷ cs) e = let k = ap (λ x. length (encode x)) e in omega (arith, w.room)

  group_swept : (found : Bool) → Groups s.nets s.store plain entries found → landed s (cond found (rewritten (by entries) s.table s.store) None) ≡ swept s.store s
  group_swept true g =
      let same = rewritten_same (by entries) (news s.nets s.store) s.table s.store w.reduced.tabled (λ v l. entries_news g v (omega (arith, w.size))) in
      let none = some_model s.nets s.store (good s w) g.0 in
      cc
  group_swept false g = let all = no_model s.nets s.store (good s w) g.0 in cc

-- nothing waits
pub lands_rested : (s : Sheet) (none : List Bool) → none ≡ replicate s.waiting.len false → Lands s.table.items s.words.items s.space none (rested (state_of s))
lands_rested s none e =
    let k = sheet_kept s in
    let z = cleared none s.waiting.len e in
    lands s.table.items s.words.items s.space none (rested (state_of s))
    (record {
      few = k.sound.few;
      size = k.sound.size;
      reduced = k.sound.reduced;
      room = k.sound.room;
      alone = k.sound.alone;
      quiet = λ _ _. refl;
      nets_wait = λ v h. absurd (let n : ◌≡◌ {A = ℕ} 0 1 = cc in omega arith);
    })
    refl refl refl (sym (read_means _ _ k.formed).0) z.1 (z.0 ∙ s.waiting.ok.0 ∙ k.marked)

-- what the sweep of a set found in the store of a sheet: why the store is not swept, the new representatives, and the searches
pub record Found {S : Type 0} (tally : S → ℕ) (most room : ℕ) (s : State) (entries : List ℕ) (before after : S) (found : Bool) : Type 0 where
  pub allowed : sweep_refusal most room s ≡ None
  pub ready : Ready s entries found
  pub lands : landed s (cond found (rewritten (by entries) s.table s.store) None) ≡ swept s.store s
  pub searches : tally after ≤ tally before + 2 * occurring s.nets s.store + 1

-- the sweep of the store, in the space for new representatives once each stands for itself
module _
    {S : Type 0}
    (tally : S → ℕ)
    (most room : ℕ)
    (s : Sheet)
    (list ws plain entries : List ℕ)
    (before after : S)
    (alive : false ≡ broken (state_of s).store)
    (p : list ≡ s.words.items)
    (l : length ws ≡ s.news.len)
    (own : (v : ℕ) → v < length ws → get_or ws v 0 ≡ 2 * v)
    (q : plain ≡ (with_items s.news ws).items)
  where
    nets : s.scratch.rank.len - 1 ≡ (state_of s).nets
    nets = ap (λ x. x - 1) (s.scratch_size ∙ s.table.ok.0)

    same : plain ≡ ws
    same = q ∙ with_items_is s.news ws l

    refusal_same : refusal s.scratch.rank.len most list room plain ≡ sweep_refusal most room (state_of s)
    refusal_same =
        let n = nets in
        let size : length plain ≡ s.scratch.rank.len = omega (arith, ap length same, l, s.news_size, s.scratch_size) in
        let here : well (s.scratch.rank.len - 1) list ≡ true = ap (λ x. well x list) n ∙ ap (well (state_of s).nets) p ∙ (sheet_kept s).formed in
        let words : length list ≡ used (state_of s) = ap length p ∙ sym s.words.ok.0 ∙ sym (used_is s) in
        let formed = and_from (eqb (length plain) s.scratch.rank.len) (well (s.scratch.rank.len - 1) list) (eq-eqb _ _ size) here in
        cc

    pub group_refused : (e : SheetFault) → Grouped tally most s.scratch.rank.len list room plain entries before after (Err e) → (sweep_refusal most room (state_of s) ≡ Some e) × (after ≡ before)
    group_refused e g = (sym refusal_same ∙ g.0, g.2)

    pub group_found : (found : Bool) → Grouped tally most s.scratch.rank.len list room plain entries before after (Ok found) → Found tally most room (state_of s) entries before after found
    group_found found g =
        let groups : Groups (state_of s).nets (state_of s).store plain entries found =
        subst (λ x. Groups (state_of s).nets (read x) plain entries found) p (subst (λ x. Groups x (read list) plain entries found) nets g.1) in
        let each : (v : ℕ) → v ≤ (state_of s).nets → get_or plain v 0 ≡ 2 * v = λ v k. ap (λ xs. get_or xs v 0) same ∙ own v (omega (arith, l, s.news_size, s.table.ok.0, s.some)) in
        let count : occurring (s.scratch.rank.len - 1) (read list) ≡ occurring (state_of s).nets (state_of s).store = (let n = nets in cc) in
        record {
          allowed = sym refusal_same ∙ g.0;
          ready = group_ready (state_of s) (sheet_kept s).sound plain entries each found groups;
          lands = group_swept (state_of s) (sheet_kept s).sound plain entries each found groups;
          searches = omega (arith, g.2, count);
        }

-- what a sweep promises of the sheet s, which becomes u, and of the solver
pub record Answers {S : Type 0} (tally : S → ℕ) (before after : S) (s u : State) (refusal : Option SheetFault) (r : Result Outcome SheetFault) : Type 0 where
  pub does : Does refusal s (full_swept s) (outcome s (full_swept s)) u r
  pub law : Sweeps s u r
  pub served : Serves tally s before after r

pub refused : {S : Type 0} (tally : S → ℕ) (before after : S) (s : State) (refusal : Option SheetFault) (r : Result Outcome SheetFault) (e : SheetFault)
    → r ≡ Err e → refusal ≡ Some e → after ≡ before → Answers tally before after s s refusal r
refused tally before after s refusal r e q h k =
    subst (λ x. Answers tally before after s s refusal x) (sym q) (record { does = (h, refl); law = λ accepted f. f; served = k })

pub answered : {S : Type 0} (tally : S → ℕ) (before after : S) (s u : State) (w : Sound s) (refusal : Option SheetFault) (o : Outcome)
    → refusal ≡ None → u ≡ full_swept s → o ≡ outcome s (full_swept s) → tally after ≤ tally before + 2 * occurring s.nets s.store + 1
    → Answers tally before after s u refusal (Ok o)
answered tally before after s u w refusal o h e q t = record {
  does = (h, e, q);
  law = subst (λ x. Sweeps s x (Ok o)) (sym e) (subst (λ x. Sweeps s (full_swept s) (Ok x)) (sym q) (full_verdict s w));
  served = t;
}
