use Rattle.cnf.proofs.Counting.{backbone_means, equal_means, backbone_equals_true}
use Rattle.cnf.proofs.laws.tests_decide.Goals as goal

pub returns : goal.returns
returns c = record { backbone = backbone_means; equal = equal_means; constant = backbone_equals_true }
