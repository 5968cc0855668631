use Rattle.std.proofs.Common.{◌+◌, [], ◌∷◌, length, sym, ap, ◌∙◌, arith, rules, length-append}
use Rattle.cnf.specs.Words.{read}
use Rattle.dimacs.proofs.Keeping.{pushed, well_push, read_push, read-length}
use Rattle.dimacs.proofs.clauses.Clauses.close.Goals as goal

pub overflow_add-self : goal.overflow_add-self
overflow_add-self c = let s = c.args.self.now in omega (arith, read-length s.problem.nets s.words.items s.form)

pub invariant_of-self-2 : goal.invariant_of-self-2
invariant_of-self-2 c =
    let s = c.args.self.now in
    let v = pushed s.words.items _ _ _ s.current.items _ c.len-len.result (c.in_ok-reserve-2.ensures.items ∙ c.in_ok-reserve.ensures.items) (rw c.unwrap.ensures at c.push.ensures.items)
    (rw c.unwrap-2.ensures at c.extend_from_slice.ensures.items) c.deref.ensures.value (c.len-len.ensures ∙ s.current.ok.0) in
    record {
      few = s.few;
      form = well_push s.problem.nets s.words.items s.current.items _ s.form s.current_form v;
      counted = sym (ap length (read_push s.problem.nets s.words.items s.current.items _ s.form v) ∙ length-append (read s.words.items) (s.current.items ∷ [])
          ∙ ap (λ x. x + 1) (sym s.counted));
      current_form = search rules;
    }

pub returns-clause-closed : goal.returns-clause-closed
returns-clause-closed c =
    let s = c.args.self.now in
    read_push s.problem.nets s.words.items s.current.items _ s.form
    (pushed s.words.items _ _ _ s.current.items _ c.len-len.result (c.in_ok-reserve-2.ensures.items ∙ c.in_ok-reserve.ensures.items) (rw c.unwrap.ensures at c.push.ensures.items)
    (rw c.unwrap-2.ensures at c.extend_from_slice.ensures.items) c.deref.ensures.value (c.len-len.ensures ∙ s.current.ok.0))
