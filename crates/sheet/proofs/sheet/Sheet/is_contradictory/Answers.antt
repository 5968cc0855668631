use Rattle.std.proofs.Common.{eqb, ap, ◌∙◌}
use Rattle.sheet.proofs.Keeping.{broken-one}
use Rattle.sheet.proofs.sheet.Sheet.is_contradictory.Goals as goal

pub returns : goal.returns
returns c = ap (λ n. eqb n 1) c.len.ensures ∙ broken-one c.args.self.now
