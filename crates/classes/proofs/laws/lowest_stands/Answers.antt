use Rattle.classes.proofs.Lowest.{lowest_means}
use Rattle.classes.proofs.laws.lowest_stands.Goals as goal

pub returns : goal.returns
returns c = lowest_means
