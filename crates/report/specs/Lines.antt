-- The bytes of a report, and what it is to write them into a space. Assumes nothing.
use Rattle.std.specs.Prelude.{◌≡◌, ℕ, ◌+◌, ◌/◌, ◌%◌, ◌<◌, Bool, false, cond, ◌&&◌, ◌||◌, List, [], ◌∷◌, ◌++◌, length, drop, Ok, Err, Result, ◌==◌, nat_le}
use Rattle.faults.specs.declared.SheetFault.{SheetFault}
use Rattle.faults.specs.declared.SheetFault.TheVariants.{SpaceShort}
use Rattle.faults.specs.declared.Located.{Located}
use Rattle.faults.specs.Numbers.{number_of}
use Rattle.cnf.specs.declared.kind.Kind.{Kind}
use Rattle.cnf.specs.declared.kind.Kind.TheVariants.{Free, Fixed, Tied}
use Rattle.cnf.specs.Table.{kind_of, kind_number}

-- whether a number has a digit at the place worth p: one, ten, a hundred and so on
abbrev pub has_digit : ℕ → ℕ → Bool
has_digit n p = p == 1 || nat_le p n

-- the byte at the place worth p: a digit, or a minus right before the digits, or a space
abbrev pub place : Bool → ℕ → ℕ → ℕ
place neg n p = cond (has_digit n p) (48 + n / p % 10) (cond (neg && has_digit n (p / 10)) 45 32)

-- a number right-justified in six columns
abbrev pub column : Bool → ℕ → List ℕ
column neg n =
    place neg n 100000 ∷ place neg n 10000 ∷ place neg n 1000 ∷ place neg n 100 ∷ place neg n 10 ∷ place neg n 1 ∷ []

-- three numbers, the last with a minus if neg, and a line feed
abbrev pub line : ℕ → ℕ → Bool → ℕ → List ℕ
line a b neg n = column false a ++ (column false b ++ (column neg n ++ 10 ∷ []))

-- the third number of a net's line: the net if it is free, its value if it is fixed, its representative's variable if it is tied
abbrev pub detail : ℕ → Kind → ℕ
detail v Free = v
detail v (Fixed b) = cond b 1 0
detail v (Tied r) = r / 2

-- whether that number has a minus: the representative is an opposite
abbrev pub minus : Kind → Bool
minus Free = false
minus (Fixed b) = false
minus (Tied r) = r % 2 == 1

-- the line of the net v
abbrev pub kind_line : ℕ → Kind → List ℕ
kind_line v k = line v (kind_number k) (minus k) (detail v k)

-- the lines of the nets from v on, where these are their entries
abbrev pub lines_from : ℕ → List ℕ → List ℕ
lines_from v [] = []
lines_from v (r ∷ rs) = kind_line v (kind_of v r) ++ lines_from (v + 1) rs

-- the report of a table's entries, of which the first is the constant's
abbrev pub net_report : List ℕ → List ℕ
net_report t = lines_from 1 (drop 1 t)

-- the report of a contradictory sheet
abbrev pub contradiction_report : List ℕ
contradiction_report = line 0 3 false 0

-- the report of a refused text
abbrev pub refusal_report : Located → List ℕ
refusal_report at = line at.line 4 false (number_of at.fault)

-- the bytes stand at the beginning of the space and their number is answered; or the space is too short for them and is as it was
abbrev pub Written : List ℕ → List ℕ → List ℕ → Result ℕ SheetFault → Type 0
Written bytes old new (Ok n) = (n ≡ length bytes) × (new ≡ bytes ++ drop n old)
Written bytes old new (Err e) = (e ≡ SpaceShort) × (length old < length bytes) × (new ≡ old)
