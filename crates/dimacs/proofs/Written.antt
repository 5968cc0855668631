-- Reading what is written gives the list back. Assumes nothing.
use Rattle.std.proofs.Common.{◌≡◌, ℕ, ◌+◌, ◌*◌, ◌/◌, ◌^◌, ◌<◌, ◌≤◌, min, true, false, cond, ◌&&◌, ltb, leb, List, [], ◌∷◌, ◌++◌, map, length, Some, Ok, Err, codes as bytes, decimal, sym, refl, ap, ◌∙◌, append_assoc, arith}
use Rattle.std.specs.Option.{option_map}
use Rattle.std.specs.List.{AllByRecursion as All}
use Rattle.std.proofs.lemmas.Fmt.{decimal_nonempty}
use Rattle.std.proofs.ByRecursion.{All-append}
use Rattle.std.proofs.lemmas.Bool.{le-leb, le-ltb, lt-leb, eq-eqb, ne_eqb, and_parts, and_from, and_right, leb-true}
use Rattle.faults.specs.declared.ReaderFault.TheVariants.{TextTooLong, ClauseCount, HeaderLimit}
use Rattle.faults.specs.declared.SheetFault.TheVariants.{NoSuchVariable, TooManyLiterals, StoreFull}
use Rattle.faults.specs.declared.Fault.TheVariants.{Reader, Sheet}
use Rattle.cnf.specs.Truth.{named, inside}
use Rattle.cnf.specs.Words.{encode, good, goods}
use Rattle.dimacs.specs.Numbers.{is_feed, is_space, is_blank, is_comment, cut, filled, numeral}
use Rattle.dimacs.specs.Text.{Placed, fault, placed, lines, plain, tokens, both, pair, header_of, judged, opened, ahead, behind, codes, is_end, closed, finished, ended, body, limited, headed}
use Rattle.dimacs.specs.declared.problem.Problem.{Problem}
use Rattle.dimacs.specs.Written.{spelled, clause_text, clauses_text, written, ReadsBack}
use Rattle.dimacs.proofs.Pieces.{Free, cut_piece, cut_whole, filled-some}
use Rattle.dimacs.proofs.Spelling.{Inked, inked_no_feed, inked_no_space, inked_no_blank, numeral_decimal, number_spelled, spelled_inked, spelled-some, decimal_free, spelled_free}

-- a literal of a clause for n variables
pub record Literal (n c : ℕ) : Type 0 where
  pub low : 2 ≤ c
  pub known : c / 2 ≤ n

pub inside_parts : (n c : ℕ) (cs : List ℕ) → inside n (c ∷ cs) ≡ true → Literal n c × (inside n cs ≡ true)
inside_parts n c cs h =
    let p = and_parts (named n c) (inside n cs) h in
    let q = and_parts (leb 2 c) (leb c (2 * n + 1)) p.0 in
    let l = leb-true 2 c q.0 in
    let k = leb-true c (2 * n + 1) q.1 in
    (record { low = l; known = omega arith }, p.1)

-- a clause that may stand in a list for n variables, and the rest of the list
pub record Goods (n : ℕ) (c : List ℕ) (cs : List (List ℕ)) : Type 0 where
  pub few : length c ≤ 64
  pub known : inside n c ≡ true
  pub rest : goods n cs ≡ true

pub goods_parts : (n : ℕ) (c : List ℕ) (cs : List (List ℕ)) → goods n (c ∷ cs) ≡ true → Goods n c cs
goods_parts n c cs h =
    let p = and_parts (good n c) (goods n cs) h in
    let q = and_parts (leb (length c) 64) (inside n c) p.0 in
    record { few = leb-true _ _ q.0; known = q.1; rest = p.1 }

-- the line of a clause, without its line feed
pub clause_line : List ℕ → List ℕ
clause_line [] = 48 ∷ []
clause_line (c ∷ cs) = spelled c ++ 32 ∷ clause_line cs

-- the line of the header, without its line feed
abbrev pub header_line : ℕ → ℕ → List ℕ
header_line n m = bytes "p cnf " ++ (decimal n ++ 32 ∷ decimal m)

-- the codes of the clauses, with 0 behind each
pub flat : List (List ℕ) → List ℕ
flat [] = []
flat (c ∷ cs) = c ++ 0 ∷ flat cs

clause-line : (c rest : List ℕ) → clause_text c ++ rest ≡ clause_line c ++ 10 ∷ rest
unfolding clause_line
clause-line [] rest = refl
clause-line (c ∷ cs) rest =
    append_assoc (spelled c) (32 ∷ clause_text cs) rest ∙ ap (λ x. spelled c ++ 32 ∷ x) (clause-line cs rest)
    ∙ sym (append_assoc (spelled c) (32 ∷ clause_line cs) (10 ∷ rest))

header_line_lem : (n m : ℕ) (rest : List ℕ) → bytes "p cnf " ++ (decimal n ++ 32 ∷ (decimal m ++ 10 ∷ rest)) ≡ header_line n m ++ 10 ∷ rest
header_line_lem n m rest = ap (λ x. bytes "p cnf " ++ x) (sym (append_assoc (decimal n) (32 ∷ decimal m) (10 ∷ rest)))

-- the code of a variable up to n is accepted, where it ends the clause or the clause has fewer than 64 literals
pub judged_ok : (n k c : ℕ) → c / 2 ≤ n → (ltb 0 c && leb 64 k) ≡ false → judged n k (Some c) ≡ Ok c
judged_ok n k c h l =
    ap (λ x. cond x (Err (Sheet NoSuchVariable)) (cond (ltb 0 c && leb 64 k) (Err (Sheet TooManyLiterals)) (Ok c))) (le-ltb n (c / 2) h)
    ∙ ap (λ x. cond x (Err (Sheet TooManyLiterals)) (Ok c)) l

-- literals of at most 2000 variables
module _ (n : ℕ) (small : n ≤ 2000) where
  clause-line_free : (c : List ℕ) → inside n c ≡ true → Free is_feed (clause_line c)
  unfolding clause_line
  clause-line_free [] h = (refl, tt)
  clause-line_free (c ∷ cs) h =
      let p = inside_parts n c cs h in
      let k = p.0.known in
      All-append _ (spelled c) (32 ∷ clause_line cs) (spelled_free is_feed inked_no_feed c (omega arith)) (refl, clause-line_free cs p.1)

  -- the lines of the clauses, and the empty one behind the last line feed
  pub lines-clauses : (cs : List (List ℕ)) → goods n cs ≡ true → lines (clauses_text cs) ≡ map clause_line cs ++ [] ∷ []
  lines-clauses [] h = refl
  lines-clauses (c ∷ cs) h =
      let g = goods_parts n c cs h in
      ap lines (clause-line c (clauses_text cs)) ∙ cut_piece is_feed (clause_line c) 10 (clauses_text cs) (clause-line_free c g.known) refl
      ∙ ap (λ ls. clause_line c ∷ ls) (lines-clauses cs g.rest)

  clause-line-plain : (c : List ℕ) → inside n c ≡ true → is_comment (clause_line c) ≡ false
  unfolding clause_line
  clause-line-plain [] h = refl
  clause-line-plain (c ∷ cs) h =
      let k = (inside_parts n c cs h).0.known in
      begins (spelled c) (32 ∷ clause_line cs) (spelled-some c (omega arith)) (spelled_inked c (omega arith))
    where
      begins : (t rest : List ℕ) → 0 < length t → All Inked t → is_comment (t ++ rest) ≡ false
      begins [] rest l i = absurd (omega arith)
      begins (b ∷ t) rest l i = let d = i.0 in ne_eqb b 99 (λ e. omega arith)

  -- the numbers of a clause's line
  pub clause-words : (c : List ℕ) → inside n c ≡ true → filled (cut is_blank (clause_line c)) ≡ map spelled c ++ (48 ∷ []) ∷ []
  unfolding clause_line
  clause-words [] h = refl
  clause-words (c ∷ cs) h =
      let p = inside_parts n c cs h in
      let k = p.0.known in
      ap filled (cut_piece is_blank (spelled c) 32 (clause_line cs) (spelled_free is_blank inked_no_blank c (omega arith)) refl)
      ∙ filled-some (spelled c) (cut is_blank (clause_line cs)) (spelled-some c (omega arith)) ∙ ap (λ ps. spelled c ∷ ps) (clause-words cs p.1)

  -- the codes of a clause, then those of what follows
  pub codes-clause : (line k : ℕ) (c : List ℕ) (ts : List Placed) (vs : List ℕ) → k + length c ≤ 64 → inside n c ≡ true → codes n 0 ts ≡ Ok vs → codes n k (map (placed line) (map spelled c ++ (48 ∷ []) ∷ []) ++ ts) ≡ Ok (c ++ 0 ∷ vs)
  codes-clause line k [] ts vs l h e =
      ap (λ o. behind line o (λ d. codes n (opened k d) ts)) (judged_ok n k 0 (omega arith) refl) ∙ ap (ahead 0) e
  codes-clause line k (c ∷ cs) ts vs l h e =
      let p = inside_parts n c cs h in
      let q = p.0 in
      let later : List Placed = map (placed line) (map spelled cs ++ (48 ∷ []) ∷ []) ++ ts in
      ap (λ o. behind line (judged n k o) (λ d. codes n (opened k d) later)) (number_spelled c q.low (omega arith))
      ∙ ap (λ o. behind line o (λ d. codes n (opened k d) later)) (judged_ok n k c q.known (and_right _ _ (lt-leb 64 k (omega arith))))
      ∙ ap (λ x. ahead c (codes n (cond x 0 (k + 1)) later)) (ne_eqb c 0 (λ z. omega arith))
      ∙ ap (ahead c) (codes-clause line (k + 1) cs ts vs (omega arith) p.1 e)

  -- the codes of the clauses from line k on
  pub codes-clauses : (k : ℕ) (cs : List (List ℕ)) → goods n cs ≡ true → codes n 0 (tokens (plain k (map clause_line cs ++ [] ∷ []))) ≡ Ok (flat cs)
  unfolding flat
  codes-clauses k [] h = refl
  codes-clauses k (c ∷ cs) h =
      let g = goods_parts n c cs h in
      let later : List (List ℕ) = map clause_line cs ++ [] ∷ [] in
      ap (λ x. codes n 0 (tokens (cond x (plain (k + 1) later) (placed k (clause_line c) ∷ plain (k + 1) later)))) (clause-line-plain c g.known)
      ∙ ap (λ ps. codes n 0 (map (placed k) ps ++ tokens (plain (k + 1) later))) (clause-words c g.known)
      ∙ codes-clause k 0 c (tokens (plain (k + 1) later)) (flat cs) (omega (arith, g.few)) g.known (codes-clauses (k + 1) cs g.rest)

clause_free : (n : ℕ) (c : List ℕ) → inside n c ≡ true → Free is_end c
clause_free n [] h = tt
clause_free n (c ∷ cs) h = let p = inside_parts n c cs h in let l = p.0.low in (ne_eqb c 0 (λ e. omega arith), clause_free n cs p.1)

pub cut_flat : (n : ℕ) (cs : List (List ℕ)) → goods n cs ≡ true → cut is_end (flat cs) ≡ cs ++ [] ∷ []
unfolding flat
cut_flat n [] h = refl
cut_flat n (c ∷ cs) h =
    let g = goods_parts n c cs h in
    cut_piece is_end c 0 (flat cs) (clause_free n c g.known) refl ∙ ap (λ ps. c ∷ ps) (cut_flat n cs g.rest)

pub closed_more : (p q : List ℕ) (ps : List (List ℕ)) → closed (p ∷ q ∷ ps) ≡ option_map (λ cs. p ∷ cs) (closed (q ∷ ps))
closed_more [] q ps = refl
closed_more (c ∷ p) q ps = refl

pub closed_all : (cs : List (List ℕ)) → closed (cs ++ [] ∷ []) ≡ Some cs
closed_all [] = refl
closed_all (c ∷ []) = closed_more c [] []
closed_all (c ∷ d ∷ cs) = closed_more c d (cs ++ [] ∷ []) ∙ ap (option_map (λ ds. c ∷ ds)) (closed_all (d ∷ cs))

-- the header line says its two numbers
pub header_says : (n m : ℕ) → n < 100000 → m < 100000 → header_of (header_line n m) ≡ Some (record { nets = n; clauses = m })
header_says n m h k =
    ap (λ ps. pair (filled ps)) (cut_piece is_space (decimal n) 32 (decimal m) (decimal_free is_space inked_no_space n (omega arith)) refl)
    ∙ ap (λ ps. pair (filled (decimal n ∷ ps))) (cut_whole is_space (decimal m) (decimal_free is_space inked_no_space m (omega arith)))
    ∙ ap pair (filled-some (decimal n) (decimal m ∷ []) (decimal_nonempty n (omega arith)) ∙ ap (λ ps. decimal n ∷ ps) (filled-some (decimal m) [] (decimal_nonempty m (omega arith))))
    ∙ ap (λ o. both o (numeral (decimal m))) (numeral_decimal n h) ∙ ap (both (Some n)) (numeral_decimal m k)

header_line_free : (n m : ℕ) → n < 2 ^ 64 → m < 2 ^ 64 → Free is_feed (header_line n m)
header_line_free n m h k =
    All-append _ (bytes "p cnf ") (decimal n ++ 32 ∷ decimal m) (refl, (refl, (refl, (refl, (refl, (refl, tt))))))
    (All-append _ (decimal n) (32 ∷ decimal m) (decimal_free is_feed inked_no_feed n h) (refl, decimal_free is_feed inked_no_feed m k))

pub lines-written : (n : ℕ) (cs : List (List ℕ)) → n ≤ 2000 → length cs ≤ 8000 → goods n cs ≡ true → lines (written n cs) ≡ header_line n (length cs) ∷ (map clause_line cs ++ [] ∷ [])
lines-written n cs h k g =
    ap lines (header_line_lem n (length cs) (clauses_text cs))
    ∙ cut_piece is_feed (header_line n (length cs)) 10 (clauses_text cs) (header_line_free n (length cs) (omega arith) (omega arith)) refl
    ∙ ap (λ ls. header_line n (length cs) ∷ ls) (lines-clauses n h cs g)

-- at the end nothing is missing and there is room
pub finished_all : (n space end : ℕ) (cs : List (List ℕ)) → length (encode cs) ≤ min space 30000 → finished (record { nets = n; clauses = length cs }) space end (Some cs) ≡ Ok (record { nets = n; clauses = cs })
finished_all n space end cs h =
    ap (λ x. cond x (cond (leb (length (encode cs)) (min space 30000)) (Ok (record { nets = n; clauses = cs })) (fault end (Sheet StoreFull))) (fault end (Reader ClauseCount))) (eq-eqb (length cs) (length cs) refl)
    ∙ ap (λ x. cond x (Ok (record { nets = n; clauses = cs })) (fault end (Sheet StoreFull))) (le-leb _ _ h)

-- the lines behind the header
pub body_says : (n space end k : ℕ) (cs : List (List ℕ)) → n ≤ 2000 → goods n cs ≡ true → length (encode cs) ≤ min space 30000 → body (record { nets = n; clauses = length cs }) space end (plain k (map clause_line cs ++ [] ∷ [])) ≡ Ok (record { nets = n; clauses = cs })
body_says n space end k cs small g room =
    let h : Problem = record { nets = n; clauses = length cs } in
    ap (ended h space end) (codes-clauses n small k cs g) ∙ ap (λ ps. finished h space end (closed ps)) (cut_flat n cs g)
    ∙ ap (finished h space end) (closed_all cs) ∙ finished_all n space end cs room

pub reads_back : ReadsBack
reads_back space n cs w =
    let h : Problem = record { nets = n; clauses = length cs } in
    let end : ℕ = length (lines (written n cs)) in
    let later : List Placed = plain 2 (map clause_line cs ++ [] ∷ []) in
    ap (λ x. cond x (headed space end (plain 1 (lines (written n cs)))) (fault 1 (Reader TextTooLong))) (le-leb _ _ w.size)
    ∙ ap (λ ls. headed space end (plain 1 ls)) (lines-written n cs w.nets w.count w.good)
    ∙ ap (λ o. limited 1 o (λ x. body x space end later)) (header_says n (length cs) (omega (arith, w.nets)) (omega (arith, w.count)))
    ∙ ap (λ x. cond x (body h space end later) (fault 1 (Reader HeaderLimit))) (and_from _ _ (le-leb n 2000 w.nets) (le-leb (length cs) 8000 w.count))
    ∙ body_says n space end 2 cs w.nets w.good w.room
