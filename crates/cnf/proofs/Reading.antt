-- Words and the clauses that they are. Assumes nothing.
use Rattle.std.proofs.Common.{◌≡◌, ℕ, zero, suc, ◌+◌, ◌-◌, ◌<◌, ◌≤◌, min, true, false, ◌&&◌, leb, List, [], ◌∷◌, ◌++◌, length, get_or, take, drop, sym, refl, ap, ◌∙◌, inl, inr, arith, length-drop}
use native.Mathlib.Nat.{min-eq_left, min-eq_right}
use Rattle.std.proofs.lemmas.List.{drop_more, drop-drop, drop_all, take_all, take_at, drop_at, take_min, drop_min, take-append-drop, length-take-le, length-append}
use Rattle.std.proofs.lemmas.Bool.{and_parts, and_from, leb-true, le-leb, false≢true, cases_lt}
use Rattle.std.proofs.lemmas.Bool.Decides.{nat_tests}
use Rattle.cnf.specs.Truth.{inside}
use Rattle.cnf.specs.Words.{encode, good, goods, read_from, read, well_from, well}
use Rattle.cnf.specs.Laws.{ReadMeans, WrittenWell}

pub read_skip : (k : ℕ) (ws : List ℕ) → read_from k ws ≡ read (drop k ws)
unfolding read_from
read_skip zero ws = refl
read_skip (suc k) [] = refl
read_skip (suc k) (w ∷ ws) = read_skip k ws

pub read-nil : read [] ≡ []
unfolding read_from
read-nil = refl

pub read-cons : (n : ℕ) (ws : List ℕ) → read (n ∷ ws) ≡ take n ws ∷ read (drop n ws)
unfolding read_from
read-cons n ws = ap (λ r. take n ws ∷ r) (read_skip n ws)

-- a walk's end and its step
pub read_none : (ws : List ℕ) → length ws ≡ 0 → read ws ≡ []
read_none ws e = ap read (drop_all 0 ws (omega arith)) ∙ read-nil

pub read_first : (ws : List ℕ) (n k : ℕ) (rest front back : List ℕ) → ws ≡ n ∷ rest → k ≡ min n (length rest) → front ≡ take k rest → back ≡ drop k rest → read ws ≡ front ∷ read back
read_first ws n k rest front back e m f b =
    ap read e ∙ read-cons n rest ∙ ap (λ x. x ∷ read (drop n rest)) (sym (f ∙ ap (λ i. take i rest) m ∙ take_min n rest))
    ∙ ap (λ x. front ∷ read x) (sym (b ∙ ap (λ i. drop i rest) m ∙ drop_min n rest))

-- a loop's step
pub read_more : (ws : List ℕ) (i : ℕ) → i < length ws → read (drop i ws) ≡ take (get_or ws i 0) (drop (i + 1) ws) ∷ read (drop (i + 1 + get_or ws i 0) ws)
read_more ws i h =
    ap read (drop_more ws i 0 h) ∙ read-cons (get_or ws i 0) (drop (i + 1) ws)
    ∙ ap (λ r. take (get_or ws i 0) (drop (i + 1) ws) ∷ read r) (drop-drop (get_or ws i 0) (i + 1) ws)

pub read-encode : (cs : List (List ℕ)) → read (encode cs) ≡ cs
read-encode [] = read-nil
read-encode (c ∷ cs) =
    let i = read-encode cs in
    read-cons (length c) (c ++ encode cs) ∙ rw (take_at c (encode cs) (length c) refl, drop_at c (encode cs) (length c) refl, i)

well_skip : (m k : ℕ) (ws : List ℕ) → well_from m k ws ≡ true → (k ≤ length ws) × (well m (drop k ws) ≡ true)
unfolding well_from
well_skip m zero ws e = (omega arith, e)
well_skip m (suc k) [] e = absurd (false≢true e)
well_skip m (suc k) (w ∷ ws) e = let h = well_skip m k ws e in (omega arith, h.1)

well_skip_is : (m k : ℕ) (ws : List ℕ) → k ≤ length ws → well_from m k ws ≡ well m (drop k ws)
unfolding well_from
well_skip_is m zero ws h = refl
well_skip_is m (suc k) [] h = absurd (omega arith)
well_skip_is m (suc k) (w ∷ ws) h = well_skip_is m k ws (omega arith)

-- the first clause of a well formed list, and the rest
pub record ClauseFirst (m n : ℕ) (ws : List ℕ) : Type 0 where
  pub within : n ≤ length ws
  pub short : n ≤ 64
  pub known : inside m (take n ws) ≡ true
  pub rest : well m (drop n ws) ≡ true

pub well-cons : (m n : ℕ) (ws : List ℕ) → well m (n ∷ ws) ≡ true → ClauseFirst m n ws
unfolding well_from
well-cons m n ws e =
    let p = and_parts (leb n 64 && inside m (take n ws)) (well_from m n ws) e in
    let q = and_parts (leb n 64) (inside m (take n ws)) p.0 in
    let s = well_skip m n ws p.1 in
    record { within = s.0; short = leb-true n 64 q.0; known = q.1; rest = s.1 }

-- by as much fuel as there are words
means : (fuel : ℕ) (m : ℕ) (ws : List ℕ) → length ws ≤ fuel → well m ws ≡ true → (encode (read ws) ≡ ws) × (goods m (read ws) ≡ true)
means fuel m [] l e = rw read-nil (refl, refl)
means zero m (n ∷ ws) l e = absurd (omega arith)
means (suc fuel) m (n ∷ ws) l e =
    let h = well-cons m n ws e in
    let i = means fuel m (drop n ws) (omega (arith, length-drop n ws)) h.rest in
    let k = length-take-le n ws h.within in
    let s : leb (length (take n ws)) 64 ≡ true = le-leb _ _ (omega arith) in
    rw read-cons (
      ap (λ x. x ∷ (take n ws ++ encode (read (drop n ws)))) k ∙ ap (λ x. n ∷ (take n ws ++ x)) i.0 ∙ ap (λ x. n ∷ x) (take-append-drop n ws),
      and_from _ _ (and_from _ _ s h.known) i.1,
    )

pub read_means : ReadMeans
read_means m ws = means (length ws) m ws (omega arith)

pub well-encode : (m : ℕ) (cs : List (List ℕ)) → goods m cs ≡ true → well m (encode cs) ≡ true
unfolding well_from
well-encode m [] e = refl
well-encode m (c ∷ cs) e =
    let p = and_parts (good m c) (goods m cs) e in
    let q = and_parts (leb (length c) 64) (inside m c) p.0 in
    and_from _ _ (and_from _ _ q.0 (ap (inside m) (take_at c (encode cs) (length c) refl) ∙ q.1))
    (well_skip_is m (length c) (c ++ encode cs) (omega (arith, length-append c (encode cs)))
    ∙ ap (well m) (drop_at c (encode cs) (length c) refl) ∙ well-encode m cs p.1)

-- the first clause of a list that may stand, and the rest
pub record FirstGood (m : ℕ) (c : List ℕ) (left : List (List ℕ)) : Type 0 where
  pub short : length c ≤ 64
  pub known : inside m c ≡ true
  pub rest : goods m left ≡ true

pub first_good : (m : ℕ) (all rest : List (List ℕ)) (c : List ℕ) → all ≡ c ∷ rest → goods m all ≡ true → FirstGood m c rest
first_good m all rest c e h =
    let p = and_parts (good m c) (goods m rest) (ap (goods m) (sym e) ∙ h) in
    let q = and_parts (leb (length c) 64) (inside m c) p.0 in
    record { short = leb-true _ _ q.0; known = q.1; rest = p.1 }

pub written-well : WrittenWell
written-well m cs e = (read-encode cs, well-encode m cs e)

well-short : (m k : ℕ) (ws : List ℕ) → length ws < k → well_from m k ws ≡ false
unfolding well_from
well-short m zero ws h = absurd (omega arith)
well-short m (suc k) [] h = refl
well-short m (suc k) (w ∷ ws) h = well-short m k ws (omega arith)

pub well-nil : (m : ℕ) → well m [] ≡ true
unfolding well_from
well-nil m = refl

-- a list by its first count and the words behind it
module _ (m n : ℕ) (ws : List ℕ) where
  pub well_long : 64 < n → well m (n ∷ ws) ≡ false
  unfolding well_from
  well_long l = grind (arith, nat_tests)

  pub well_less : length ws < n → well m (n ∷ ws) ≡ false
  unfolding well_from
  well_less l = let s = well-short m n ws l in grind (arith, nat_tests)

  pub well_more : n ≤ 64 → n ≤ length ws → well m (n ∷ ws) ≡ (inside m (take n ws) && well m (drop n ws))
  unfolding well_from
  well_more l b = ap (λ x. (x && inside m (take n ws)) && well_from m n ws) (le-leb n 64 l) ∙ ap (λ x. inside m (take n ws) && x) (well_skip_is m n ws b)

-- the clause at i, which ends with the list where its count goes beyond, and the rest
pub record ClauseAt (ws : List ℕ) (i end : ℕ) : Type 0 where
  pub later : i < end
  pub within : end ≤ length ws
  pub size : length (take (end - (i + 1)) (drop (i + 1) ws)) ≡ end - (i + 1)
  pub parts : read (drop i ws) ≡ take (end - (i + 1)) (drop (i + 1) ws) ∷ read (drop end ws)

pub clause_at_lem : (ws : List ℕ) (i end : ℕ) → i < length ws → end ≡ i + 1 + min (get_or ws i 0) (length ws - i - 1) → ClauseAt ws i end
clause_at_lem ws i end h e = elim (cases_lt (length ws - i - 1) (get_or ws i 0)) [ inl l ↦ short l (e ∙ ap (λ x. i + 1 + x) (min-eq_right (omega arith))) | inr l ↦ whole l (e ∙ ap (λ x. i + 1 + x) (min-eq_left l)) ]
  where
    whole : get_or ws i 0 ≤ length ws - i - 1 → end ≡ i + 1 + get_or ws i 0 → ClauseAt ws i end
    whole l e =
        let z : get_or ws i 0 ≡ end - (i + 1) = omega arith in
        record {
          later = omega arith;
          within = omega arith;
          size = length-take-le (end - (i + 1)) (drop (i + 1) ws) (omega (arith, length-drop (i + 1) ws));
          parts = read_more ws i h ∙ ap (λ x. take x (drop (i + 1) ws) ∷ read (drop (i + 1 + get_or ws i 0) ws)) z
              ∙ ap (λ x. take (end - (i + 1)) (drop (i + 1) ws) ∷ read (drop x ws)) (sym e);
        }

    short : length ws - i - 1 < get_or ws i 0 → end ≡ i + 1 + (length ws - i - 1) → ClauseAt ws i end
    short l e =
        let d = length-drop (i + 1) ws in
        let b : List ℕ = drop (i + 1) ws in
        record {
          later = omega arith;
          within = omega arith;
          size = length-take-le (end - (i + 1)) (drop (i + 1) ws) (omega (arith, length-drop (i + 1) ws));
          parts = read_more ws i h ∙ ap (λ x. x ∷ read (drop (i + 1 + get_or ws i 0) ws)) (take_all (get_or ws i 0) b (omega arith) ∙ sym (take_all (end - (i + 1)) b (omega arith)))
              ∙ ap (λ x. take (end - (i + 1)) b ∷ read x) (drop_all (i + 1 + get_or ws i 0) ws (omega arith) ∙ sym (drop_all end ws (omega arith)));
        }
