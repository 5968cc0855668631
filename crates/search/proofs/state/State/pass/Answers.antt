use Rattle.std.proofs.Common.{◌≡◌, ℕ, Bool, true, ◌⊎◌, List, length, ap, ◌∙◌, subst, inl, inr, refl, arith, Option}
use Rattle.cnf.specs.Truth.{told, inside, clause}
use Rattle.cnf.specs.Words.{read}
use Rattle.cnf.proofs.Reading.{read_means}
use Rattle.search.specs.declared.cell.Status.{Status}
use Rattle.search.specs.declared.cell.Status.TheVariants.{Satisfied, Conflict, Forced, Unresolved}
use Rattle.search.specs.Cells.{Weighed, open_count, bits}
use Rattle.search.specs.States.{cells_of}
use Rattle.search.proofs.CellFacts.{bits_extend}
use Rattle.search.proofs.StateFacts.{same_grew}
use Rattle.search.proofs.Passing.{Passing, passing_known, passing_clash, passing_hold, passing_force, passing_quiet}
use Rattle.search.proofs.state.State.pass.Goals as goal

-- What is known of a clause, by the cells themselves.
weighed : (cs cs' : List (Option Bool)) (ws : List ℕ) (r : Status) → cs ≡ cs' → Weighed cs ws r → Weighed cs' ws r
weighed cs cs' ws r e h = let P : List (Option Bool) → Type 0 = λ x. Weighed x ws r in subst P e h

settled : (cs : List (Option Bool)) (ws : List ℕ) (r : Status) → (r ≡ Satisfied) ⊎ (r ≡ Unresolved) → Weighed cs ws r → open_count cs ≡ 0 → clause (told (bits cs)) ws ≡ true
settled cs ws r (inl e) h z = let k : Weighed cs ws Satisfied = subst (Weighed cs ws) e h in k (told (bits cs)) (bits_extend cs)
settled cs ws r (inr e) h z = let k : Weighed cs ws Unresolved = subst (Weighed cs ws) e h in absurd (omega arith)

pub loop-clause-init : goal.loop-clause-init
loop-clause-init c =
    rw c.into_iter-clause-iterator.ensures.into_iter_gives record {
      grew = same_grew _ _ (record { cells = refl; trail = refl });
      formed = (read_means _ _ c.requires.formed).1;
      keeps = λ a x _. x;
      rest = λ a m. m;
      progress = λ _. refl;
    }

pub weigh-requires : goal.weigh-requires
weigh-requires c =
    ap (λ (xs : List (Option Bool)). inside (length xs) c.in-Some.clause.now) c.deref.ensures.value ∙ passing_known _ _ _ _ _ c.loop-clause.invariant _ _ c.in-Some.ensures.steps

pub returns-in-Conflict-clause-passed : goal.returns-in-Conflict-clause-passed
returns-in-Conflict-clause-passed c =
    passing_clash _ _ _ _ _ c.loop-clause.invariant _ _ c.in-Some.ensures.steps (weighed _ _ c.in-Some.clause.now Conflict c.deref.ensures.value c.in-Conflict.ensures)

pub loop-clause-preserved-in-Forced : goal.loop-clause-preserved-in-Forced
loop-clause-preserved-in-Forced c =
    let k = weighed _ _ c.in-Some.clause.now (Forced c.in-Forced.code) c.deref.ensures.value c.in-Forced.ensures in
    let n = c.assign.ensures in
    passing_force _ _ _ _ _ c.loop-clause.invariant _ _ c.in-Some.ensures.steps _ c.in-Forced.code k.0 k.1 k.2 n.grew n.cells

pub loop-clause-preserved : goal.loop-clause-preserved
loop-clause-preserved c =
    passing_hold _ _ _ _ _ c.loop-clause.invariant _ _ c.in-Some.ensures.steps
    (settled (cells_of c.loop-clause.self) c.in-Some.clause.now c.weigh.result c.in-Satisfied.is (weighed _ _ c.in-Some.clause.now c.weigh.result c.deref.ensures.value c.weigh.ensures))

pub returns-else-moved-clause-passed : goal.returns-else-moved-clause-passed
returns-else-moved-clause-passed c =
    let P : Bool → Type 0 = Passing c.args.list.now (read c.loop-clause.clause-iterator.0.now) c.args.self.now c.loop-clause.self in
    let inv = subst P c.if-moved.false c.loop-clause.invariant in
    (inv.keeps, passing_quiet _ _ _ _ c.in-None.ensures.steps.0 inv)
