use Rattle.std.proofs.Common.{◌≡◌, ℕ, List, ◌++◌, map, length}
use Rattle.dimacs.specs.Text.{plain, headed}
use Rattle.dimacs.specs.Progress.{means}
use Rattle.dimacs.proofs.read.Given as goal

abbrev pub invariant-loop-line : goal.invariant-loop-line
invariant-loop-line l = record {
  counted : l.reader.line ≡ length l.yielded;
  says : (space end : ℕ) (ls : List (List ℕ)) → headed space end (plain 1 (map (λ x. x.now) l.yielded ++ ls)) ≡ means l.reader space end ls;
}
