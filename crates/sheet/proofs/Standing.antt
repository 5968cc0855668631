-- The assignments that a sheet stands for, as clauses join it. Assumes nothing.
use Rattle.std.proofs.Common.{◌≡◌, ℕ, ◌+◌, ◌*◌, ◌/◌, ◌<◌, Bool, true, false, ◌&&◌, leb, List, [], ◌∷◌, ◌++◌, length, get_or, Some, None, Ok, Err, Option, Result, sym, refl, ◌∙◌, subst, ⊎_elim, arith}
use Rattle.std.proofs.lemmas.Bool.{both_ways, and_parts, and_from, cases_Bool, leb-true}
use Rattle.std.proofs.lemmas.Bool.Decides.{nat_tests}
use Rattle.faults.specs.declared.SheetFault.{SheetFault}
use Rattle.cnf.specs.Truth.{lit, clause, clauses, named, inside, Model}
use Rattle.cnf.specs.Table.{by, rep, applied, clause_or_true, Follows}
use Rattle.cnf.proofs.Tables.{lit_turn}
use Rattle.cnf.proofs.Applying.{applies}
use Rattle.classes.specs.Renumber.{Stands}
use Rattle.sheet.specs.State.{State, Sound}
use Rattle.sheet.specs.Calls.{Does, joined, added, addition_refusal}
use Rattle.sheet.specs.Laws.{Fits, Adds}

clauses_push : (a : ℕ → Bool) (cs : List (List ℕ)) (c : List ℕ) → clauses a (cs ++ c ∷ []) ≡ (clauses a cs && clause a c)
clauses_push a [] c = elim (clause a c) as (λ b. (b && true) ≡ b) [ true ↦ refl | false ↦ refl ]
clauses_push a (d ∷ cs) c = let i = clauses_push a cs c in elim (clause a d) as (λ b. (b && clauses a (cs ++ c ∷ [])) ≡ ((b && clauses a cs) && clause a c)) [ true ↦ i | false ↦ refl ]

model_push : (cs : List (List ℕ)) (c : List ℕ) (a : ℕ → Bool) → Model cs a → clause a c ≡ true → Model (cs ++ c ∷ []) a
model_push cs c a m h = record { constant = m.constant; holds = clauses_push a cs c ∙ and_from (clauses a cs) (clause a c) m.holds h }

model_parts : (cs : List (List ℕ)) (c : List ℕ) (a : ℕ → Bool) → Model (cs ++ c ∷ []) a → Model cs a × (clause a c ≡ true)
model_parts cs c a m =
    let p = and_parts (clauses a cs) (clause a c) (sym (clauses_push a cs c) ∙ m.holds) in
    (record { constant = m.constant; holds = p.0 }, p.1)

-- a literal has its representative's value
pub lit_follows : (t : List ℕ) (a : ℕ → Bool) → ((v : ℕ) → v < length t → a v ≡ lit a (get_or t v 0)) → (c : ℕ) → c / 2 < length t → lit a (rep t c) ≡ lit a c
lit_follows t a h c l = let e = lit_turn a (get_or t (c / 2) 0) c in let f = h (c / 2) l in grind (arith, nat_tests)

follows : (n : ℕ) (t c : List ℕ) (a : ℕ → Bool) → length t ≡ n + 1 → inside n c ≡ true → a 0 ≡ false → ((v : ℕ) → v < length t → a v ≡ lit a (get_or t v 0)) → Follows t c a
follows n t [] a l i z h = z
follows n t (c ∷ cs) a l i z h =
    let p = and_parts (named n c) (inside n cs) i in
    let k = leb-true c (2 * n + 1) (and_parts (leb 2 c) (leb c (2 * n + 1)) p.0).1 in
    (lit_follows t a h c (omega arith), follows n t cs a l p.1 z h)

pub stands_truth : (s : State) (c : List ℕ) (a : ℕ → Bool) → Sound s → inside s.nets c ≡ true → Stands s.store s.table a → clause_or_true a (applied (by s.table) c) ≡ clause a c
stands_truth s c a w i st = (applies s.table c (applied (by s.table) c) refl).truth a (follows s.nets s.table c a w.size i st.model.constant st.follows)

-- a clause that joins counts as one more
joined-fits : (accepted : List (List ℕ)) (s : State) (c : List ℕ) (o : Option (List ℕ)) → ((a : ℕ → Bool) → Stands s.store s.table a → clause_or_true a o ≡ clause a c)
    → Fits accepted s → Fits (accepted ++ c ∷ []) (joined s o)
joined-fits h s c None e f a = (
  (λ m. (f a).0 (model_parts h c a m).0),
  (λ st. model_push h c a ((f a).1 st) (sym (e a st))),
)
joined-fits h s c (Some []) e f a = (
  (λ m. let p = model_parts h c a m in absurd (both_ways (clause a c) (sym (e a ((f a).0 p.0))) p.1)),
  (λ st. absurd (both_ways false refl st.model.holds)),
)
joined-fits h s c (Some (b ∷ bs)) e f a = (
  (λ m.
      let p = model_parts h c a m in
      let st = (f a).0 p.0 in
      record { model = model_push s.store (b ∷ bs) a st.model (e a st ∙ p.1); follows = st.follows }),
  (λ st.
      let p = model_parts s.store (b ∷ bs) a st.model in
      let old : Stands s.store s.table a = record { model = p.0; follows = st.follows } in
      model_push h c a ((f a).1 old) (sym (e a old) ∙ p.1)),
)

-- an addition that is not refused names only nets
accepted_named : (s : State) (c : List ℕ) → addition_refusal s c ≡ None → inside s.nets c ≡ true
accepted_named s c e =
    ⊎_elim (λ h. h)
    (λ (h : inside s.nets c ≡ false). absurd (let z : ◌≡◌ {A = ℕ} 0 1 = grind (arith, nat_tests) in omega arith)) (cases_Bool (inside s.nets c))

pub addition_law : (s u : State) (c : List ℕ) (r : Result Unit SheetFault) → Sound s → Does (addition_refusal s c) s (added s c) tt u r → Adds c s u r
addition_law s u c (Ok x) w d = λ h f.
    subst (Fits (h ++ c ∷ [])) (sym d.1) (joined-fits h s c (applied (by s.table) c) (λ a st. stands_truth s c a w (accepted_named s c d.0) st) f)
addition_law s u c (Err e) w d = λ h f. subst (Fits h) (sym d.1) f
