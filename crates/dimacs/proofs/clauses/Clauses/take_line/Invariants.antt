use Rattle.std.proofs.Common.{map}
use Rattle.dimacs.specs.Text.{placed}
use Rattle.dimacs.specs.Progress.{Reads}
use Rattle.dimacs.proofs.clauses.Clauses.take_line.Given as goal

abbrev pub invariant-loop-token : goal.invariant-loop-token
invariant-loop-token l = Reads l.initial.self (map (placed l.line) (map (λ x. x.now) l.yielded)) l.self
