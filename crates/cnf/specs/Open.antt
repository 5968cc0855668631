-- When opening is refused. Assumes nothing.
use Rattle.std.specs.Prelude.{◌≡◌, ℕ, ◌<◌, ◌≤◌}
use Rattle.faults.specs.declared.SheetFault.TheVariants.{TooManyNets}
use Rattle.cnf.specs.declared.open.OpenError.{OpenError}
use Rattle.cnf.specs.declared.open.OpenError.TheVariants.{Memory, Refused}

-- a number of nets beyond the limit is turned down as such, and any other fails for want of memory only
abbrev pub Refuses : ℕ → OpenError → Type 0
Refuses nets Memory = nets ≤ 2000
Refuses nets (Refused f) = (2000 < nets) × (f ≡ TooManyNets)
