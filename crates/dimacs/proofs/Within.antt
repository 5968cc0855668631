-- What a text says is within the limits. Assumes nothing.
use Rattle.std.proofs.Common.{◌≡◌, ℕ, ◌+◌, ◌*◌, ◌/◌, ◌<◌, ◌≤◌, min, Bool, true, false, cond, ◌&&◌, eqb, ltb, leb, List, [], ◌∷◌, ◌++◌, length, length-append, Some, None, Ok, Err, Option, Result, sym, refl, ap, ◌∙◌, subst, arith}
use Rattle.std.proofs.lemmas.Bool.{and_parts, and_from, leb-true, le-leb, eqb-true, eqb-false}
use Rattle.std.proofs.lemmas.Bool.Decides.{nat_tests}
use Rattle.std.specs.Option.{option_map}
use Rattle.faults.specs.declared.ReaderFault.TheVariants.{TextTooLong, HeaderLimit, ClauseCount}
use Rattle.faults.specs.declared.SheetFault.TheVariants.{NoSuchVariable, TooManyLiterals, StoreFull}
use Rattle.faults.specs.declared.Fault.{Fault}
use Rattle.faults.specs.declared.Fault.TheVariants.{Reader, Sheet}
use Rattle.faults.specs.declared.Located.{Located}
use Rattle.cnf.specs.Truth.{named, inside}
use Rattle.cnf.specs.Words.{encode, good, goods}
use Rattle.dimacs.specs.declared.problem.Problem.{Problem}
use Rattle.dimacs.specs.Numbers.{glue, cut, numeral, positive, negative, number}
use Rattle.dimacs.specs.Text.{Contents, fault, Placed, lines, plain, tokens, header_of, judged, opened, ahead, behind, codes, is_end, closed, finished, ended, body, limited, headed, Limits, SaidWithin}
use Rattle.dimacs.proofs.Cutting.{cut_at, cut_in}
use Rattle.dimacs.proofs.Written.{closed_more}

-- a code that a number says is 0 or a literal's
positive_coded : (o : Option ℕ) (c : ℕ) → positive o ≡ Some c → c < 2 → c ≡ 0
positive_coded None c e l = cc
positive_coded (Some v) c e l = let h : 2 * v ≡ c = cc in omega arith

negative_coded : (o : Option ℕ) (c : ℕ) → negative o ≡ Some c → c < 2 → c ≡ 0
negative_coded None c e l = cc
negative_coded (Some v) c e l = go (eqb v 0) refl e
  where
    go : (x : Bool) → eqb v 0 ≡ x → cond x None (Some (2 * v + 1)) ≡ Some c → c ≡ 0
    go true z e = cc
    go false z e = let h : 2 * v + 1 ≡ c = cc in omega (arith, eqb-false v 0 z)

number_coded : (t : List ℕ) (c : ℕ) → number t ≡ Some c → c < 2 → c ≡ 0
number_coded [] c e l = cc
number_coded (b ∷ t) c e l =
    elim (eqb b 45) as (λ x. cond x (negative (numeral t)) (positive (numeral (b ∷ t))) ≡ Some c → c ≡ 0)
    [ true ↦ λ q. negative_coded (numeral t) c q l | false ↦ λ q. positive_coded (numeral (b ∷ t)) c q l ] e

-- a code that is judged good in a clause of k literals
record Judged (n k c : ℕ) : Type 0 where
  pub known : c / 2 ≤ n
  pub room : 0 < c → k < 64
  pub coded : c < 2 → c ≡ 0

judged-good : (n k : ℕ) (t : List ℕ) (o : Option ℕ) (c : ℕ) → number t ≡ o → judged n k o ≡ Ok c → Judged n k c
judged-good n k t None c q e = cc
judged-good n k t (Some d) c q e = go (ltb n (d / 2)) refl (ltb 0 d && leb 64 k) refl e
  where
    go : (x : Bool) → ltb n (d / 2) ≡ x → (y : Bool) → (ltb 0 d && leb 64 k) ≡ y → cond x (Err (Sheet NoSuchVariable)) (cond y (Err (Sheet TooManyLiterals)) (Ok d)) ≡ Ok c → Judged n k c
    go true p y r e = cc
    go false p true r e = cc
    go false p false r e =
        let h : d ≡ c = cc in
        subst (Judged n k) h (record { known = grind (arith, nat_tests); room = λ l. grind (arith, nat_tests); coded = number_coded t d q })

inside_more : (n c : ℕ) (now : List ℕ) → inside n now ≡ true → named n c ≡ true → inside n (now ++ c ∷ []) ≡ true
inside_more n c [] h g = and_from _ _ g refl
inside_more n c (d ∷ now) h g = let p = and_parts (named n d) (inside n now) h in and_from _ _ p.0 (inside_more n c now p.1 g)

-- a literal that is judged good goes on with a good clause
pub judged_more : (n : ℕ) (now token : List ℕ) (c : ℕ) → good n now ≡ true → judged n (length now) (number token) ≡ Ok c → 0 < c → good n (now ++ c ∷ []) ≡ true
judged_more n now token c g e lt =
    let j = judged-good n (length now) token (number token) c refl e in
    let p = and_parts (leb (length now) 64) (inside n now) g in
    let low : 2 ≤ c = grind (arith, j.coded) in
    and_from _ _ (le-leb _ _ (omega (arith, length-append now (c ∷ []), j.room lt)))
    (inside_more n c now p.1 (and_from _ _ (le-leb 2 c low) (le-leb c (2 * n + 1) (omega (arith, j.known)))))

-- the first piece goes on with a clause of k literals, the others are whole
record Pieces (n k : ℕ) (p : List ℕ) (ps : List (List ℕ)) : Type 0 where
  pub few : k + length p ≤ 64
  pub known : inside n p ≡ true
  pub rest : goods n ps ≡ true

abbrev PiecesOf : ℕ → ℕ → List (List ℕ) → Type 0
PiecesOf n k [] = ⊥
PiecesOf n k (p ∷ ps) = Pieces n k p ps

goods_from : (n : ℕ) (ps : List (List ℕ)) → PiecesOf n 0 ps → goods n ps ≡ true
goods_from n [] h = absurd h
goods_from n (p ∷ ps) h = and_from _ _ (and_from _ _ (le-leb _ _ (omega (arith, h.few))) h.known) h.rest

pieces_end : (n k : ℕ) (ps : List (List ℕ)) → k ≤ 64 → PiecesOf n 0 ps → PiecesOf n k ([] ∷ ps)
pieces_end n k ps l h = record { few = omega arith; known = refl; rest = goods_from n ps h }

pieces_more : (n k c : ℕ) (ps : List (List ℕ)) → Judged n k c → (c ≡ 0 → ⊥) → PiecesOf n (k + 1) ps → PiecesOf n k (glue (c ∷ []) ps)
pieces_more n k c [] j ne h = absurd h
pieces_more n k c (p ∷ ps) j ne h =
    let two : 2 ≤ c = grind (arith, nat_tests, j.coded) in
    let kn = j.known in
    record { few = omega (arith, h.few); known = and_from _ _ (and_from _ _ (le-leb _ _ two) (le-leb _ _ (omega arith))) h.known; rest = h.rest }

-- one number more, and then what holds of the others
module _ (n k : ℕ) (t : Placed) (ts : List Placed) (vs : List ℕ) (l : k ≤ 64) (others : (m : ℕ) (us : List ℕ) → m ≤ 64 → codes n m ts ≡ Ok us → PiecesOf n m (cut is_end us)) where
  code_pieces : (c : ℕ) (us : List ℕ) → Judged n k c → codes n (opened k c) ts ≡ Ok us → (b : Bool) → is_end c ≡ b → PiecesOf n k (cut is_end (c ∷ us))
  code_pieces c us j q true z =
      subst (PiecesOf n k) (sym (cut_at is_end c us z)) (pieces_end n k (cut is_end us) l (others 0 us (omega arith) (ap (λ b. codes n (cond b 0 (k + 1)) ts) (sym z) ∙ q)))
  code_pieces c us j q false z =
      let ne : c ≡ 0 → ⊥ = eqb-false c 0 z in
      let lt : k < 64 = j.room (omega arith) in
      subst (PiecesOf n k) (sym (cut_in is_end c us z)) (pieces_more n k c (cut is_end us) j ne (others (k + 1) us (omega arith) (ap (λ b. codes n (cond b 0 (k + 1)) ts) (sym z) ∙ q)))

  ahead_pieces : (c : ℕ) (x : Result (List ℕ) Located) → Judged n k c → codes n (opened k c) ts ≡ x → ahead c x ≡ Ok vs → PiecesOf n k (cut is_end vs)
  ahead_pieces c (Err f) j q e = cc
  ahead_pieces c (Ok us) j q e = let h : c ∷ us ≡ vs = cc in subst (λ x. PiecesOf n k (cut is_end x)) h (code_pieces c us j q (is_end c) refl)

  behind_pieces : (r : Result ℕ Fault) → judged n k (number t.bytes) ≡ r → behind t.line r (λ c. codes n (opened k c) ts) ≡ Ok vs → PiecesOf n k (cut is_end vs)
  behind_pieces (Err f) j e = cc
  behind_pieces (Ok c) j e = ahead_pieces c (codes n (opened k c) ts) (judged-good n k t.bytes (number t.bytes) c refl j) refl e

codes_pieces : (n k : ℕ) (ts : List Placed) (vs : List ℕ) → k ≤ 64 → codes n k ts ≡ Ok vs → PiecesOf n k (cut is_end vs)
codes_pieces n k [] vs l e = let h : ◌≡◌ {A = List ℕ} [] vs = cc in subst (λ x. PiecesOf n k (cut is_end x)) h (record { few = omega arith; known = refl; rest = refl })
codes_pieces n k (t ∷ ts) vs l e = behind_pieces n k t ts vs l (λ m us. codes_pieces n m ts us) (judged n k (number t.bytes)) refl e

-- closed pieces are the pieces but the last
closed-good : (n : ℕ) (ps cs : List (List ℕ)) → goods n ps ≡ true → closed ps ≡ Some cs → goods n cs ≡ true
closed-good n [] cs g e = cc
closed-good n ([] ∷ []) cs g e = let h : ◌≡◌ {A = List (List ℕ)} [] cs = cc in subst (λ x. goods n x ≡ true) h refl
closed-good n ((c ∷ p) ∷ []) cs g e = cc
closed-good n (p ∷ q ∷ ps) cs g e = go (closed (q ∷ ps)) (closed-good n (q ∷ ps)) refl (sym (closed_more p q ps) ∙ e)
  where
    go : (o : Option (List (List ℕ))) → ((ds : List (List ℕ)) → goods n (q ∷ ps) ≡ true → closed (q ∷ ps) ≡ Some ds → goods n ds ≡ true) → closed (q ∷ ps) ≡ o → option_map (λ x. p ∷ x) o ≡ Some cs → goods n cs ≡ true
    go None others r e = cc
    go (Some ds) others r e =
        let both = and_parts (good n p) (goods n (q ∷ ps)) g in
        let h : p ∷ ds ≡ cs = cc in
        subst (λ x. goods n x ≡ true) h (and_from _ _ both.0 (others ds both.1 r))

abbrev HeaderLimits : Problem → Type 0
HeaderLimits h = (h.nets ≤ 2000) × (h.clauses ≤ 8000)

finished_within : (h : Problem) (space end : ℕ) (o : Option (List (List ℕ))) (c : Contents) → HeaderLimits h → ((cs : List (List ℕ)) → o ≡ Some cs → goods h.nets cs ≡ true)
    → finished h space end o ≡ Ok c → Limits space c
finished_within h space end None c l g e = cc
finished_within h space end (Some cs) c l g e = go (eqb (length cs) h.clauses) refl (leb (length (encode cs)) (min space 30000)) refl e
  where
    go : (x : Bool) → eqb (length cs) h.clauses ≡ x → (y : Bool) → leb (length (encode cs)) (min space 30000) ≡ y
        → cond x (cond y (Ok (record { nets = h.nets; clauses = cs })) (fault end (Sheet StoreFull))) (fault end (Reader ClauseCount)) ≡ Ok c → Limits space c
    go true p true q e =
        let r : ◌≡◌ {A = Contents} (record { nets = h.nets; clauses = cs }) c = cc in
        subst (Limits space) r (record { nets = l.0; count = omega (arith, l.1, eqb-true _ _ p); good = g cs refl; room = leb-true _ _ q })
    go true p false q e = cc
    go false p y q e = cc

body_within : (h : Problem) (space end : ℕ) (ls : List Placed) (c : Contents) → HeaderLimits h → body h space end ls ≡ Ok c → Limits space c
body_within h space end ls c l e = go (codes h.nets 0 (tokens ls)) refl e
  where
    go : (x : Result (List ℕ) Located) → codes h.nets 0 (tokens ls) ≡ x → ended h space end x ≡ Ok c → Limits space c
    go (Err f) q e = cc
    go (Ok vs) q e =
        finished_within h space end (closed (cut is_end vs)) c l
        (λ cs r. closed-good h.nets (cut is_end vs) cs (goods_from h.nets (cut is_end vs) (codes_pieces h.nets 0 (tokens ls) vs (omega arith) q)) r) e

limited_within : (space end line : ℕ) (o : Option Problem) (ls : List Placed) (c : Contents) → limited line o (λ h. body h space end ls) ≡ Ok c → Limits space c
limited_within space end line None ls c e = cc
limited_within space end line (Some h) ls c e = go (leb h.nets 2000 && leb h.clauses 8000) refl e
  where
    go : (x : Bool) → (leb h.nets 2000 && leb h.clauses 8000) ≡ x → cond x (body h space end ls) (fault line (Reader HeaderLimit)) ≡ Ok c → Limits space c
    go true q e = let b = and_parts _ _ q in body_within h space end ls c (leb-true _ _ b.0, leb-true _ _ b.1) e
    go false q e = cc

headed_within : (space end : ℕ) (ls : List Placed) (c : Contents) → headed space end ls ≡ Ok c → Limits space c
headed_within space end [] c e = cc
headed_within space end (l ∷ ls) c e = limited_within space end l.line (header_of l.bytes) ls c e

pub said_within : SaidWithin
said_within space text c e = go (leb (length text) 60000) e
  where
    go : (x : Bool) → cond x (headed space (length (lines text)) (plain 1 (lines text))) (fault 1 (Reader TextTooLong)) ≡ Ok c → Limits space c
    go true e = headed_within space (length (lines text)) (plain 1 (lines text)) c e
    go false e = cc
