-- A clause list that is rewritten in place, over values. Assumes nothing.
use Rattle.std.proofs.Common.{◌≡◌, ℕ, suc, ◌+◌, ◌-◌, ◌≤◌, true, List, ◌∷◌, ◌++◌, length, take, drop, set, Some, None, sym, ap, ◌∙◌, arith, length-drop, length-set}
use borrow.Rule.Slice.PartMut.{put_mid}
use lib.Seq.{paste}
use Rattle.std.proofs.lemmas.List.{append_assoc, append-nil, length-append, length-take-le, take-take, take_at, take-append-le, take-append-drop, drop_at, drop_all, drop-drop, drop-set-lt, set_split}
use Rattle.std.proofs.lemmas.Slice.{take-put_mid_below, drop-put_mid, drop-append-drop}
use Rattle.cnf.specs.Words.{encode, read, well}
use Rattle.cnf.specs.Table.{applied, applieds, before, by, Tabled}
use Rattle.cnf.proofs.Reading.{ClauseAt, read-nil, read_means, well-encode}
use Rattle.cnf.proofs.Tables.{applieds-good}
use Rattle.cnf.proofs.Entries.{entries_from_tabled}

-- a place is written, and what stands behind it is there already
take_past_set : (xs : List ℕ) (j n x : ℕ) → j + 1 + n ≤ length xs → take (j + 1 + n) (set xs j x) ≡ take j xs ++ x ∷ take n (drop (j + 1) xs)
take_past_set xs j n x h =
    let d : List ℕ = drop (j + 1) xs in
    let one : suc j ≡ j + 1 = omega arith in
    let lj = length-take-le j xs (omega arith) in
    let ln = length-take-le n d (omega (arith, length-drop (j + 1) xs)) in
    ap (take (j + 1 + n))
    (set_split xs j x (omega arith) ∙ ap (λ i. take j xs ++ x ∷ drop i xs) one ∙ ap (λ y. take j xs ++ x ∷ y) (sym (take-append-drop n d))
    ∙ sym (append_assoc (take j xs) (x ∷ take n d) (drop n d)))
    ∙ take_at (take j xs ++ x ∷ take n d) (drop n d) (j + 1 + n) (length-append (take j xs) (x ∷ take n d) ∙ omega arith)

-- the words of a list after its part from a on, of k words, became ys
module _ (a k : ℕ) (xs ys : List ℕ) (b : a + k ≤ length xs) (l : length ys ≡ k) where
  part_length : length (put_mid a k xs ys) ≡ length xs
  part_length =
      let p = length-append (take a xs) (ys ++ drop k (drop a xs)) in
      let q = length-append ys (drop k (drop a xs)) in
      let t = length-take-le a xs (omega arith) in
      omega (arith, length-drop k (drop a xs), length-drop a xs)

  part_front : (n : ℕ) → n ≤ k → take n (drop a (put_mid a k xs ys)) ≡ take n ys
  part_front n h =
      ap (take n) (drop_at (take a xs) (ys ++ drop k (drop a xs)) a (length-take-le a xs (omega arith))) ∙ take-append-le n ys (drop k (drop a xs)) (omega arith)

-- the words of a list after n of them were copied from `from` down to `to`
module _ (xs : List ℕ) (from to n : ℕ) (down : to ≤ from) (b : from + n ≤ length xs) where
  abbrev moved : List ℕ
  moved = paste xs to (drop from xs) n

  moved_parts : length (take n (drop from xs)) ≡ n
  moved_parts = length-take-le n (drop from xs) (omega (arith, length-drop from xs))

  moved_length : length moved ≡ length xs
  moved_length =
      let p = length-append (take to xs ++ take n (drop from xs)) (drop (to + n) xs) in
      let q = length-append (take to xs) (take n (drop from xs)) in
      omega (arith, moved_parts, length-take-le to xs (omega arith), length-drop (to + n) xs)

  moved-below : (k : ℕ) → k ≤ to → take k moved ≡ take k xs
  moved-below k h =
      let t = length-take-le to xs (omega arith) in
      ap (take k) (append_assoc (take to xs) (take n (drop from xs)) (drop (to + n) xs))
      ∙ take-append-le k (take to xs) (take n (drop from xs) ++ drop (to + n) xs) (omega arith) ∙ take-take k to xs h

  moved_here : take n (drop to moved) ≡ take n (drop from xs)
  moved_here =
      ap (λ ys. take n (drop to ys)) (append_assoc (take to xs) (take n (drop from xs)) (drop (to + n) xs))
      ∙ ap (take n) (drop_at (take to xs) (take n (drop from xs) ++ drop (to + n) xs) to (length-take-le to xs (omega arith)))
      ∙ take_at (take n (drop from xs)) (drop (to + n) xs) n moved_parts

  moved_above : (k : ℕ) → to + n ≤ k → drop k moved ≡ drop k xs
  moved_above k h =
      drop-append-drop (to + n) xs (take to xs ++ take n (drop from xs)) k h
      (length-append (take to xs) (take n (drop from xs)) ∙ omega (arith, moved_parts, length-take-le to xs (omega arith)))

-- `here` is the words as they stand, i of them are read, and j are written
pub record Walking (f : ℕ → ℕ) (words here : List ℕ) (i j : ℕ) : Type 0 where
  pub size : length here ≡ length words
  pub fewer : j ≤ i
  pub inner : i ≤ length words
  pub rest : drop i here ≡ drop i words
  pub done : take j here ++ encode (applieds f (read (drop i words))) ≡ encode (applieds f (read words))

module _ (f : ℕ → ℕ) (words here : List ℕ) (i j : ℕ) (w : Walking f words here i j) where
  pub walked : length words ≤ i → take j here ≡ encode (applieds f (read words))
  walked h =
      sym (append-nil (take j here)) ∙ ap (λ x. take j here ++ encode (applieds f x)) (sym (ap read (drop_all i words h) ∙ read-nil)) ∙ w.done

  module _ (end : ℕ) (ys : List ℕ) (c : ClauseAt here i end) (l : length ys ≡ end - (i + 1)) where
    abbrev part : List ℕ
    part = take (end - (i + 1)) (drop (i + 1) here)

    abbrev mid : List ℕ
    mid = put_mid (i + 1) (end - (i + 1)) here ys

    rest-on : drop end here ≡ drop end words
    rest-on =
        let z : i + (end - i) ≡ end = omega (arith, c.later) in
        let p : (xs : List ℕ) → drop (end - i) (drop i xs) ≡ drop end xs = λ xs. drop-drop (end - i) i xs ∙ ap (λ x. drop x xs) z in
        sym (p here) ∙ ap (drop (end - i)) w.rest ∙ p words

    clauses_here : read (drop i words) ≡ part ∷ read (drop end words)
    clauses_here = ap read (sym w.rest) ∙ c.parts ∙ ap (λ x. part ∷ read x) rest-on

    mid_above : drop end mid ≡ drop end words
    mid_above = drop-put_mid (i + 1) (end - (i + 1)) here ys end (omega (arith, c.later)) (omega (arith, c.later, c.within)) l ∙ rest-on

    mid-below : take j mid ≡ take j here
    mid-below = take-put_mid_below (i + 1) (end - (i + 1)) here ys j (omega (arith, w.fewer)) (omega (arith, c.later, c.within))

    mid-length : length mid ≡ length words
    mid-length = part_length (i + 1) (end - (i + 1)) here ys (omega (arith, c.later, c.within)) l ∙ w.size

    pub walking_gone : None ≡ applied f part → Walking f words mid end j
    walking_gone e = record {
      size = mid-length;
      fewer = omega (arith, w.fewer, c.later);
      inner = omega (arith, c.within, w.size);
      rest = mid_above;
      done = ap (λ x. x ++ encode (applieds f (read (drop end words)))) mid-below
          ∙ ap (λ o. take j here ++ encode (before o (applieds f (read (drop end words))))) e
          ∙ ap (λ x. take j here ++ encode (applieds f x)) (sym clauses_here) ∙ w.done;
    }

    -- the n literals that are left were moved down, and their number was written before them
    pub walking_more : (n : ℕ) (after : List ℕ) → n ≤ end - (i + 1) → Some (take n ys) ≡ applied f part → after ≡ paste mid (j + 1) (drop (i + 1) mid) (i + 1 + n - (i + 1))
        → (count last : ℕ) → count ≡ n → last ≡ j + 1 + n → Walking f words (set after j count) end last
    walking_more n after h e q count last ec el =
        let z : i + 1 + n - (i + 1) ≡ n = omega arith in
        let is : after ≡ paste mid (j + 1) (drop (i + 1) mid) n = q ∙ ap (paste mid (j + 1) (drop (i + 1) mid)) z in
        let down : j + 1 ≤ i + 1 = omega (arith, w.fewer) in
        let lm = mid-length in
        let room : i + 1 + n ≤ length mid = omega (arith, c.later, c.within, w.size) in
        let la : length after ≡ length words = ap length is ∙ moved_length mid (i + 1) (j + 1) n down room ∙ mid-length in
        let rest : List (List ℕ) = applieds f (read (drop end words)) in
        let front : take j after ≡ take j here = ap (take j) is ∙ moved-below mid (i + 1) (j + 1) n down room j (omega arith) ∙ mid-below in
        let kept : take n (drop (j + 1) after) ≡ take n ys
        = ap (λ xs. take n (drop (j + 1) xs)) is ∙ moved_here mid (i + 1) (j + 1) n down room ∙ part_front (i + 1) (end - (i + 1)) here ys (omega (arith, c.later, c.within)) l n h in
        let all : Walking f words (set after j n) end (j + 1 + n) = record {
          size = length-set after j n ∙ la;
          fewer = omega (arith, w.fewer, c.later);
          inner = omega (arith, c.within, w.size);
          rest = drop-set-lt end after j n (omega (arith, w.fewer, c.later)) ∙ ap (drop end) is
              ∙ moved_above mid (i + 1) (j + 1) n down room end (omega (arith, w.fewer, c.later)) ∙ mid_above;
          done = ap (λ x. x ++ encode rest) (take_past_set after j n n (omega arith) ∙ ap (λ x. x ++ n ∷ take n (drop (j + 1) after)) front ∙ ap (λ x. take j here ++ n ∷ x) kept)
              ∙ append_assoc (take j here) (n ∷ take n ys) (encode rest)
              ∙ ap (λ x. take j here ++ x ∷ (take n ys ++ encode rest)) (sym (length-take-le n ys (omega arith)))
              ∙ ap (λ o. take j here ++ encode (before o rest)) e
              ∙ ap (λ x. take j here ++ encode (applieds f x)) (sym clauses_here) ∙ w.done;
        } in
        rw (ec, el) all

-- a table's list stays well formed
pub applied-well : (t words : List ℕ) (m : ℕ) → well m words ≡ true → length t ≡ m + 1 → Tabled t → well m (encode (applieds (by t) (read words))) ≡ true
applied-well t words m h l w =
    let e = entries_from_tabled t w in
    well-encode m (applieds (by t) (read words)) (applieds-good m (by t) (read words) (record { each = λ v b. omega (arith, e.low v (omega arith)) }) (read_means m words h).1)
