use Rattle.std.proofs.Common.{rules}
use Rattle.dimacs.proofs.Within.{judged_more}
use Rattle.dimacs.proofs.Taking.{took_if}
use Rattle.dimacs.proofs.clauses.Clauses.take_number.Goals as goal

pub take-requires : goal.take-requires
take-requires c = judged_more c.args.self.now.problem.nets c.args.self.now.current.items c.args.token.now c.in_ok-code.code c.args.self.now.current_form (search rules)

pub returns-clause-ok : goal.returns-clause-ok
returns-clause-ok c =
    took_if c.take.result c.args.self.now c.take.new.self c.args.line c.args.token.now c.in_ok-code.code (search rules) c.take.ensures.problem c.take.ensures.closed c.take.ensures.current
