use Rattle.std.proofs.Common.{vec_items, sym, ap, ◌∙◌, subst, arith, eqb-true}
use borrow.Author.Tests.{eqb-false}
use Rattle.dimacs.specs.Text.{fault}
use Rattle.dimacs.specs.Progress.{done, Faults}
use Rattle.dimacs.proofs.Keeping.{words-length}
use Rattle.dimacs.proofs.Ending.{end_open, end_count, end_full, end_fits}
use Rattle.dimacs.proofs.clauses.Clauses.finish.Goals as goal
use Rattle.dimacs.proofs.clauses.Clauses.finish.Goals.{then-not-is_empty-via-then-not-is_empty, then-not-is_empty-via-else-not-is_empty+then-self}

pub returns-then-not-is_empty-clause-err : goal.returns-then-not-is_empty-clause-err
returns-then-not-is_empty-clause-err c =
    let s = c.args.self in
    let k = s.current.ok.0 in
    subst (Faults _) (sym c.refused.ensures)
    (elim c.then-not-is_empty.branch [
      | then-not-is_empty-via-then-not-is_empty w ↦
          let h = w.if-not-is_empty.ensures in
          end_open s.problem c.args.space c.args.line (done s) (vec_items s.current) (omega (arith, eqb-false _ _ (sym h)))
      | then-not-is_empty-via-else-not-is_empty+then-self w ↦
          let h = w.if-not-is_empty.ensures in
          end_count s.problem c.args.space c.args.line (done s) (vec_items s.current) (omega (arith, eqb-true _ _ (sym h))) (λ e. w.if-self.true (s.counted ∙ e))
    ] ∙ ap (fault c.args.line) (sym c.into.ensures))

pub returns-then-len-min-clause-err : goal.returns-then-len-min-clause-err
returns-then-len-min-clause-err c =
    let s = c.args.self in
    let h = c.if-not-is_empty.ensures in
    let k = s.current.ok.0 in
    let w = s.words.ok.0 in
    subst (Faults _) (sym c.refused-then-len-min.ensures)
    (end_full s.problem c.args.space c.args.line (done s) (vec_items s.current) (omega (arith, eqb-true _ _ (sym h)))
    (sym s.counted ∙ c.if-self.false) (omega (arith, words-length s.problem.nets s.words.items s.form, c.min.ensures, c.len.ensures))
    ∙ ap (fault c.args.line) (sym c.into-then-len-min.ensures))

pub returns-clause-ok : goal.returns-clause-ok
returns-clause-ok c =
    let s = c.args.self in
    let h = c.if-not-is_empty.ensures in
    let k = s.current.ok.0 in
    let w = s.words.ok.0 in
    end_fits s.problem c.args.space c.args.line (done s) (vec_items s.current) (omega (arith, eqb-true _ _ (sym h)))
    (sym s.counted ∙ c.if-self.false) (omega (arith, words-length s.problem.nets s.words.items s.form, c.min.ensures, c.len.ensures))
