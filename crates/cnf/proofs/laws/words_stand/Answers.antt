use Rattle.cnf.proofs.Reading.{read_means, written-well}
use Rattle.cnf.proofs.Tables.{applied_keeps_truth}
use Rattle.cnf.proofs.laws.words_stand.Goals as goal

pub returns : goal.returns
returns c = record { read = read_means; written = written-well; applied = applied_keeps_truth }
