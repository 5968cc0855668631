use Rattle.search.proofs.Weighing.{Scanned}
use Rattle.search.proofs.cell.weigh.Given as goal

abbrev pub invariant-loop-code : goal.invariant-loop-code
invariant-loop-code l = Scanned l.cells l.body l.code-index l.last
