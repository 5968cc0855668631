use Rattle.classes.proofs.Renumbering.{renumbering_keeps, sheet_keeps}
use Rattle.classes.proofs.laws.laws_stand.Goals as goal

pub returns : goal.returns
returns c = record { renumbering = renumbering_keeps; sheet = sheet_keeps }
