-- How the lines of a table fill a space, one after the other. Assumes nothing.
use Rattle.std.proofs.Common.{◌≡◌, ℕ, ◌+◌, ◌-◌, ◌*◌, ◌<◌, ◌≤◌, List, [], ◌∷◌, ◌++◌, length, get_or, take, drop, sym, refl, ap, ◌∙◌, arith}
use borrow.Rule.Slice.PartMut.{put_mid}
use Rattle.std.proofs.lemmas.List.{append_assoc, length-append, length-drop, drop_more, drop-drop}
use Rattle.std.proofs.lemmas.Slice.{take-put_mid, drop-put_mid}
use Rattle.cnf.specs.Table.{kind_of}
use Rattle.report.specs.Lines.{kind_line, lines_from, net_report}

-- each line has 19 bytes
pub length-lines : (v : ℕ) (rs : List ℕ) → length (lines_from v rs) ≡ 19 * length rs
length-lines v [] = refl
length-lines v (r ∷ rs) =
    let h = length-lines (v + 1) rs in
    length-append (kind_line v (kind_of v r)) (lines_from (v + 1) rs) ∙ omega arith

pub length_report : (t : List ℕ) → length (net_report t) ≡ 19 * (length t - 1)
length_report t = length-lines 1 (drop 1 t) ∙ ap (λ n. 19 * n) (length-drop 1 t)

-- the space with the lines of i nets
pub record Filling (t old new : List ℕ) (i : ℕ) : Type 0 where
  pub lines : take (19 * i) new ++ lines_from (i + 1) (drop (i + 1) t) ≡ net_report t
  pub behind : drop (19 * i) new ≡ drop (19 * i) old

-- one line more
pub filling_more :
    (t old new : List ℕ) (i : ℕ) → Filling t old new i → i + 1 < length t → 19 * i + 19 ≤ length new → (k : ℕ) (bytes : List ℕ) →
    k ≡ 19 → bytes ≡ kind_line (i + 1) (kind_of (i + 1) (get_or t (i + 1) 0)) → Filling t old (put_mid (19 * i) k new bytes) (i + 1)
filling_more t old new i f h l k bytes e b =
    let rest = lines_from (i + 1 + 1) (drop (i + 1 + 1) t) in
    let size : length bytes ≡ 19 = ap length b in
    let further : (xs : List ℕ) → drop (19 * (i + 1)) xs ≡ drop 19 (drop (19 * i) xs) =
    λ xs. ap (λ n. drop n xs) (omega arith) ∙ sym (drop-drop 19 (19 * i) xs) in
    record {
      lines =
          ap (λ p. p ++ rest) (take-put_mid (19 * i) k new bytes (19 * (i + 1)) (omega arith) (omega arith))
          ∙ append_assoc (take (19 * i) new) bytes rest
          ∙ ap (λ p. take (19 * i) new ++ (p ++ rest)) b
          ∙ ap (λ r. take (19 * i) new ++ lines_from (i + 1) r) (sym (drop_more t (i + 1) 0 h))
          ∙ f.lines;
      behind =
          drop-put_mid (19 * i) k new bytes (19 * (i + 1)) (omega arith) (omega arith) (size ∙ sym e)
          ∙ further new
          ∙ ap (drop 19) f.behind
          ∙ sym (further old);
    }
