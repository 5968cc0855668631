use Rattle.std.proofs.Common.{sym, ap, ◌∙◌, length, rules}
use Rattle.cnf.specs.Words.{read, well}
use Rattle.cnf.proofs.Reading.{read-nil, well-nil}
use Rattle.dimacs.proofs.clauses.Clauses.new.Goals as goal

pub invariant_of-result : goal.invariant_of-result
invariant_of-result c =
    record {
      few = c.requires;
      form = ap (well c.args.problem.nets) c.new.ensures.items ∙ well-nil c.args.problem.nets;
      counted = sym (ap length (ap read c.new.ensures.items ∙ read-nil));
      current_form = search rules;
    }
