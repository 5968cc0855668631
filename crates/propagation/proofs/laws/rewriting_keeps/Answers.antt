use Rattle.propagation.proofs.Keeping.{propagation_keeps, rewriting_keeps, rewriting_follows}
use Rattle.propagation.proofs.laws.rewriting_keeps.Goals as goal

pub returns : goal.returns
returns c = record { propagated = propagation_keeps; kept = rewriting_keeps; followed = rewriting_follows }
