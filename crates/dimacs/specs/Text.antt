-- What a text says: its lines without the comments, the header line, then the numbers of the other lines, cut at each 0. Assumes nothing.
use Rattle.std.specs.Prelude.{◌≡◌, ℕ, ◌+◌, ◌/◌, ◌≤◌, min, Bool, true, false, cond, ◌&&◌, List, [], ◌∷◌, ◌++◌, map, length, take, drop, Some, None, Ok, Err, codes as bytes, Option, Result, ◌==◌, nat_le, nat_lt}
use Rattle.std.specs.Option.{option_map}
use Rattle.std.specs.Str.{bytes_eq}
use Rattle.faults.specs.declared.ReaderFault.TheVariants.{TextTooLong, HeaderForm, MalformedNumber, HeaderLimit, ClauseCount}
use Rattle.faults.specs.declared.SheetFault.TheVariants.{NoSuchVariable, TooManyLiterals, StoreFull}
use Rattle.faults.specs.declared.Fault.{Fault}
use Rattle.faults.specs.declared.Fault.TheVariants.{Reader, Sheet}
use Rattle.faults.specs.declared.Located.{Located}
use Rattle.cnf.specs.Words.{encode, goods}
use Rattle.dimacs.specs.declared.problem.Problem.{Problem}
use Rattle.dimacs.specs.Numbers.{is_feed, is_space, is_blank, is_comment, cut, filled, numeral, number}

-- the number of nets and the clauses, in order and as written
pub record Contents : Type 0 where
  pub nets : ℕ
  pub clauses : List (List ℕ)

abbrev pub Answer : Type 0
Answer = Result Contents Located

-- a fault, with its line beside it
abbrev pub fault : {X : Type 0} → ℕ → Fault → Result X Located
fault k f = Err (record { line = k; fault = f })

-- bytes of one line, with the number of that line
pub record Placed : Type 0 where
  pub line : ℕ
  pub bytes : List ℕ

abbrev pub placed : ℕ → List ℕ → Placed
placed k l = record { line = k; bytes = l }

-- the lines of a text: what stands before, between and behind its line feeds
abbrev pub lines : List ℕ → List (List ℕ)
lines text = cut is_feed text

-- the lines from line k on that are no comments
abbrev pub plain : ℕ → List (List ℕ) → List Placed
plain k [] = []
plain k (l ∷ ls) = cond (is_comment l) (plain (k + 1) ls) (placed k l ∷ plain (k + 1) ls)

-- the words of a line, parted by spaces or tabs
abbrev pub words : Placed → List Placed
words l = map (placed l.line) (filled (cut is_blank l.bytes))

abbrev pub tokens : List Placed → List Placed
tokens [] = []
tokens (l ∷ ls) = words l ++ tokens ls

abbrev pub starts_blank : List ℕ → Bool
starts_blank [] = false
starts_blank (b ∷ bs) = is_space b

abbrev pub both : Option ℕ → Option ℕ → Option Problem
both None m = None
both (Some n) None = None
both (Some n) (Some m) = Some (record { nets = n; clauses = m })

abbrev pub pair : List (List ℕ) → Option Problem
pair [] = None
pair (n ∷ []) = None
pair (n ∷ m ∷ []) = both (numeral n) (numeral m)
pair (n ∷ m ∷ l ∷ ls) = None

-- the five bytes p cnf, spaces, the number of nets, spaces, the number of clauses, and any spaces
abbrev pub header_of : List ℕ → Option Problem
header_of l = cond (bytes_eq (take 5 l) (bytes "p cnf") && starts_blank (drop 5 l)) (pair (filled (cut is_space (drop 5 l)))) None

-- the code of a number in a clause that has k literals so far: its form, then its size, then the clause's length are judged
abbrev pub judged : ℕ → ℕ → Option ℕ → Result ℕ Fault
judged n k None = Err (Reader MalformedNumber)
judged n k (Some c) =
    cond (nat_lt n (c / 2)) (Err (Sheet NoSuchVariable))
    (cond (nat_lt 0 c && nat_le 64 k) (Err (Sheet TooManyLiterals)) (Ok c))

-- how many literals the open clause has after one more code
abbrev pub opened : ℕ → ℕ → ℕ
opened k c = cond (c == 0) 0 (k + 1)

abbrev pub ahead : ℕ → Result (List ℕ) Located → Result (List ℕ) Located
ahead c (Ok cs) = Ok (c ∷ cs)
ahead c (Err e) = Err e

abbrev pub behind : ℕ → Result ℕ Fault → (ℕ → Result (List ℕ) Located) → Result (List ℕ) Located
behind line (Err f) rest = fault line f
behind line (Ok c) rest = ahead c (rest c)

-- the codes of the numbers, or the first fault, where the open clause has k literals
abbrev pub codes : ℕ → ℕ → List Placed → Result (List ℕ) Located
codes n k [] = Ok []
codes n k (t ∷ ts) = behind t.line (judged n k (number t.bytes)) (λ c. codes n (opened k c) ts)

abbrev pub is_end : ℕ → Bool
is_end c = c == 0

-- all pieces but the last, which has to be empty
abbrev pub closed : List (List ℕ) → Option (List (List ℕ))
closed [] = None
closed ([] ∷ []) = Some []
closed ((c ∷ p) ∷ []) = None
closed (p ∷ q ∷ ps) = option_map (λ cs. p ∷ cs) (closed (q ∷ ps))

-- what holds at the text's end, which is on the line `end`: no clause is open, as many as declared, and room for their words in the store space
abbrev pub finished : Problem → ℕ → ℕ → Option (List (List ℕ)) → Answer
finished h space end None = fault end (Reader ClauseCount)
finished h space end (Some cs) =
    cond (length cs == h.clauses)
    (cond (nat_le (length (encode cs)) (min space 30000)) (Ok (record { nets = h.nets; clauses = cs })) (fault end (Sheet StoreFull)))
    (fault end (Reader ClauseCount))

abbrev pub ended : Problem → ℕ → ℕ → Result (List ℕ) Located → Answer
ended h space end (Err e) = Err e
ended h space end (Ok cs) = finished h space end (closed (cut is_end cs))

-- the lines behind the header
abbrev pub body : Problem → ℕ → ℕ → List Placed → Answer
body h space end ls = ended h space end (codes h.nets 0 (tokens ls))

abbrev pub limited : ℕ → Option Problem → (Problem → Answer) → Answer
limited line None rest = fault line (Reader HeaderForm)
limited line (Some h) rest = cond (nat_le h.nets 2000 && nat_le h.clauses 8000) (rest h) (fault line (Reader HeaderLimit))

-- the first line is the header
abbrev pub headed : ℕ → ℕ → List Placed → Answer
headed space end [] = fault end (Reader HeaderForm)
headed space end (l ∷ ls) = limited l.line (header_of l.bytes) (λ h. body h space end ls)

-- what a text says to a sheet with this many words of store space, of which at most the first 30,000 count
abbrev pub text_says : ℕ → List ℕ → Answer
text_says space text =
    cond (nat_le (length text) 60000) (headed space (length (lines text)) (plain 1 (lines text))) (fault 1 (Reader TextTooLong))

-- what a text says is within the limits
pub record Limits (space : ℕ) (c : Contents) : Type 0 where
  pub nets : c.nets ≤ 2000
  pub count : length c.clauses ≤ 8000
  pub good : goods c.nets c.clauses ≡ true
  pub room : length (encode c.clauses) ≤ min space 30000

abbrev pub SaidWithin : Type 0
SaidWithin = (space : ℕ) (text : List ℕ) (c : Contents) → text_says space text ≡ Ok c → Limits space c
