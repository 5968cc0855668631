-- What a solver keeps. Assumes nothing.
use Rattle.std.specs.Prelude.{ℕ, Bool, cond, List, [], ◌∷◌, ◌++◌, length, Option, nat_lt}
use Rattle.std.specs.Option.{option_map}

-- an assignment, as the bits of the variables from 1 on, or none; for how many bits there is room; and the bits that lie there, kept or not
pub record Keeping : Type 0 where
  pub room : ℕ
  pub bits : Option (List Bool)
  pub lying : List Bool

-- the bits that are kept with one more, where there is room
abbrev pub pushed : Keeping → Bool → Option (List Bool)
pushed k b = option_map (λ bits. cond (nat_lt (length bits) k.room) (bits ++ b ∷ []) bits) k.bits
