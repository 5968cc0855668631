-- Bytes, what stands between them, and the numbers that they write. Assumes nothing.
use Rattle.std.specs.Prelude.{ℕ, ◌+◌, ◌-◌, ◌*◌, Bool, true, false, cond, ◌&&◌, ◌||◌, List, [], ◌∷◌, ◌++◌, length, Some, None, Option, ◌==◌, nat_le}

abbrev pub is_feed : ℕ → Bool
is_feed b = b == 10

abbrev pub is_space : ℕ → Bool
is_space b = b == 32

-- a space or a tab
abbrev pub is_blank : ℕ → Bool
is_blank b = b == 32 || b == 9

abbrev pub is_digit : ℕ → Bool
is_digit b = nat_le 48 b && nat_le b 57

-- a line whose first byte is c
abbrev pub is_comment : List ℕ → Bool
is_comment [] = false
is_comment (b ∷ bs) = b == 99

-- what t puts in front of the first piece
abbrev pub glue : List ℕ → List (List ℕ) → List (List ℕ)
glue t [] = t ∷ []
glue t (p ∷ ps) = (t ++ p) ∷ ps

-- the pieces before, between and behind the elements with p
abbrev pub cut : (ℕ → Bool) → List ℕ → List (List ℕ)
cut p [] = [] ∷ []
cut p (b ∷ bs) = cond (p b) ([] ∷ cut p bs) (glue (b ∷ []) (cut p bs))

-- the pieces that are not empty
abbrev pub filled : List (List ℕ) → List (List ℕ)
filled [] = []
filled ([] ∷ ps) = filled ps
filled ((b ∷ p) ∷ ps) = (b ∷ p) ∷ filled ps

-- the number that digits write behind v
abbrev pub digits : ℕ → List ℕ → Option ℕ
digits v [] = Some v
digits v (b ∷ bs) = cond (is_digit b) (digits (v * 10 + (b - 48)) bs) None

-- one to five bytes, the first of which is 0 only if it stands alone
abbrev pub short : List ℕ → Bool
short [] = false
short (b ∷ []) = true
short (b ∷ c ∷ bs) = cond (b == 48) false (nat_le (length bs) 3)

-- the number that one to five digits write, without a leading 0 unless it is 0
abbrev pub numeral : List ℕ → Option ℕ
numeral t = cond (short t) (digits 0 t) None

abbrev pub positive : Option ℕ → Option ℕ
positive None = None
positive (Some v) = Some (2 * v)

abbrev pub negative : Option ℕ → Option ℕ
negative None = None
negative (Some v) = cond (v == 0) None (Some (2 * v + 1))

-- the code that a number of a clause says: 0 ends the clause, and a minus before v means the opposite of v; -0 is malformed
abbrev pub number : List ℕ → Option ℕ
number [] = None
number (b ∷ bs) = cond (b == 45) (negative (numeral bs)) (positive (numeral (b ∷ bs)))
