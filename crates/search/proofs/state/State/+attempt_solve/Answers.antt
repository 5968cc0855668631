use Rattle.std.proofs.Common.{◌≡◌, ℕ, true, List, length, sym, ap, ◌∙◌, subst, arith, Option, Bool}
use Rattle.cnf.specs.Words.{well}
use Rattle.search.specs.declared.state.State.{State}
use Rattle.search.specs.Cells.{Extends, open_count}
use Rattle.search.specs.States.{Grew, cells_of}
use Rattle.search.proofs.CellFacts.{bits_extend, extend_assigned, none_first, some_first}
use Rattle.search.proofs.StateFacts.{grew_trans, same_grew, taken_back, known_at, free_at}
use Rattle.search.proofs.state.State.+attempt_solve.Goals as goal

formed : (ws : List ℕ) (s t : State) → Grew s t → well (length (cells_of s)) ws ≡ true → well (length (cells_of t)) ws ≡ true
formed ws s t g h = ap (λ k. well k ws) g.size ∙ h

pub attempt-returns-clause-tried : goal.attempt-returns-clause-tried
attempt-returns-clause-tried t c =
    let s = c.args.self.now in
    let n = c.assign.ensures in
    let v = c.if-solve.ensures.solved in
    let u = c.undo.ensures in
    let m = taken_back s _ _ c.undo.new.self _ c.len-mark.ensures n.grew v.same u.cells u.trail in
    record {
      same = m;
      none = λ a e l k.
          let P : List (Option Bool) → Type 0 = λ x. Extends x a in
          v.none a (subst P (sym n.cells) (extend_assigned (cells_of s) c.args.code a c.requires.known l e)) k;
    }

pub solve-returns-in_default-clause-solved : goal.solve-returns-in_default-clause-solved
solve-returns-in_default-clause-solved t c =
    let p = c.if-not-propagate.ensures in
    let cs = cells_of c.propagate.new.self in
    let none : open_count cs ≡ 0 = sym (ap open_count c.deref.ensures.value) ∙ none_first _ c.in_default.ensures in
    record { every_set = none; as_before = p.grew.finer _ (bits_extend cs); holds = p.done.1 none }

pub solve-attempt-requires : goal.solve-attempt-requires
solve-attempt-requires t c =
    let p = c.propagate.ensures in
    let cs = cells_of c.propagate.new.self in
    let e = c.deref.ensures.value in
    let h = some_first _ _ c.in-Some.ensures in (
      omega (arith, c.decreases, p.grew.fewer),
      (
        formed c.args.list.now c.args.self.now _ p.grew c.requires.formed,
        (known_at _ cs c.in-Some.place _ e h (omega arith), free_at _ cs c.in-Some.place _ e h (omega arith)),
      ),
    )

pub solve-attempt-requires-else-attempt : goal.solve-attempt-requires-else-attempt
solve-attempt-requires-else-attempt t c =
    let v = c.if-attempt.ensures in
    let m = v.tried.same in
    let g = grew_trans c.args.self.now _ _ c.propagate.ensures.grew (same_grew _ c.attempt.new.self m) in
    let cs = cells_of c.attempt.new.self in
    let e = c.deref.ensures.value ∙ sym m.cells in
    let h = some_first _ _ c.in-Some.ensures in
    let o = c.opposite.ensures in (
      omega (arith, c.decreases, g.fewer),
      (
        formed c.args.list.now c.args.self.now _ g c.requires.formed,
        (known_at _ cs c.in-Some.place _ e h (omega arith), free_at _ cs c.in-Some.place _ e h (omega arith)),
      ),
    )
