-- What `split` gives, piece by piece. Assumes nothing.
use Rattle.std.proofs.Common.{◌≡◌, ℕ, suc, ◌+◌, ◌≤◌, Bool, false, cond, not, eqb, List, [], ◌∷◌, ◌++◌, map, length, Some, None, Option, sym, refl, ap, ◌∙◌, append_assoc, arith, ne_eqb, Bor}
use Rattle.std.specs.List.{slice_split, onto_first, filter}
use Rattle.std.specs.Slice.Iter as slice
use Rattle.std.specs.Fn.{CalledAt}
use Rattle.std.specs.Iterator.{Yields, AlwaysYields}
use Rattle.std.specs.Iterator.Adapters.{filter_source, filter_callee, filter_steps}
use denote.Param.Members.{Mut}
use Rattle.std.proofs.iter.Yields.{gives_left}
use Rattle.std.proofs.lemmas.Iterator.{YieldsList}
use Rattle.std.proofs.lemmas.Iterator.Consumers.{YieldsList-from_filter, YieldsList-at}
use Rattle.std.proofs.lemmas.Iterator.Splits.{YieldsList-from_slice_split}
use Rattle.std.proofs.lemmas.List.{map-append}
use Rattle.std.proofs.lemmas.List.Splits.{length-slice_split}
use Rattle.std.proofs.lemmas.List.Sums.{count_by-le-length}
use Rattle.dimacs.specs.Numbers.{glue, cut, filled}
use Rattle.dimacs.specs.Text.{placed}

onto_glue : (b : ℕ) (ps : List (List ℕ)) → onto_first b ps ≡ glue (b ∷ []) ps
onto_glue b [] = refl
onto_glue b (p ∷ ps) = refl

-- `split` cuts
pub split_cut : (q : ℕ → Bool) (bs : List ℕ) → slice_split q bs ≡ cut q bs
split_cut q [] = refl
split_cut q (b ∷ bs) =
    ap (λ ps. cond (q b) ([] ∷ ps) (onto_first b ps)) (split_cut q bs) ∙ ap (cond (q b) ([] ∷ cut q bs)) (onto_glue b (cut q bs))

abbrev pub is_filled : List ℕ → Bool
is_filled p = not (eqb (length p) 0)

filter_filled : (ps : List (List ℕ)) → filter is_filled ps ≡ filled ps
filter_filled [] = refl
filter_filled ([] ∷ ps) = filter_filled ps
filter_filled ((b ∷ p) ∷ ps) =
    ap (λ e. cond (not e) ((b ∷ p) ∷ filter is_filled ps) (filter is_filled ps)) (ne_eqb (suc (length p)) 0 (λ z. omega arith)) ∙ ap (λ x. (b ∷ p) ∷ x) (filter_filled ps)

pub words_cut : (q : ℕ → Bool) (bs : List ℕ) → filter is_filled (slice_split q bs) ≡ filled (cut q bs)
words_cut q bs = filter_filled (slice_split q bs) ∙ ap filled (split_cut q bs)

pub length-split : (q : ℕ → Bool) (bs : List ℕ) → length (slice_split q bs) ≤ length bs + 1
length-split q bs = omega (arith, length-slice_split q bs, count_by-le-length q bs)

-- what one call of `next` says of the list that is left
module _ {S A B : Type 0} (steps : S → Option A → S → Type 0) (v : A → B) where
  pub ended : (more : List B) (t u : S) → AlwaysYields steps v t more → steps t None u → more ≡ []
  ended [] t u e p = refl
  ended (y ∷ ys) t u e p = absurd (e.0 u p)

  pub went : (more : List B) (t u : S) (x : A) → AlwaysYields steps v t more → steps t (Some x) u → (ys : List B) × (more ≡ v x ∷ ys) × AlwaysYields steps v u ys
  went [] t u x e p = absurd (e x u p)
  went (y ∷ ys) t u x e p = (ys, ap (λ w. w ∷ ys) (sym (e.1 x u p).0), (e.1 x u p).1)

-- the item that comes, behind those that came
pub item_at : {S A B : Type 0} {steps : S → Option A → S → Type 0} {v : A → B} {s : S} {parts : List B} → YieldsList steps v s parts → (all : List B) → parts ≡ all
    → (xs : List A) (t u : S) (x : A) → Yields steps s xs t → steps t (Some x) u → (later : List B) × (all ≡ map v xs ++ v x ∷ later)
item_at {S} {A} {B} {steps} {v} {s} {parts} e all q xs t u x y p =
    let k = gives_left steps v xs parts s t e.runs y in
    let w = went steps v k.0 t u x k.2 p in
    (w.0, sym q ∙ k.1 ∙ ap (λ l. map v xs ++ l) w.1)

pub placed_more : (line : ℕ) (xs : List (Bor (List ℕ))) (x : Bor (List ℕ))
    → map (placed line) (map (λ y. y.now) (xs ++ x ∷ [])) ≡ map (placed line) (map (λ y. y.now) xs) ++ placed line x.now ∷ []
placed_more line xs x = ap (map (placed line)) (map-append (λ y. y.now) xs (x ∷ [])) ∙ map-append (placed line) (map (λ y. y.now) xs) (x.now ∷ [])

pub now_more : (xs : List (Bor (List ℕ))) (x : Bor (List ℕ)) (ls : List (List ℕ)) → map (λ y. y.now) (xs ++ x ∷ []) ++ ls ≡ map (λ y. y.now) xs ++ x.now ∷ ls
now_more xs x ls = ap (λ ps. ps ++ ls) (map-append (λ y. y.now) xs (x ∷ [])) ∙ append_assoc (map (λ y. y.now) xs) (x.now ∷ []) ls

-- the pieces that are not empty, as an iterator gives them from s on
pub record Words {S : Type 0} (steps : S → Option (Bor (List ℕ)) → S → Type 0) (s : S) (q : ℕ → Bool) (text : List ℕ) : Type 0 where
  pub road : YieldsList steps (λ y. y.now) s (filter is_filled (slice_split q text))

-- what the clauses of `split` and `filter` say, with the tests that their closures compute
pub split_words : {F H : Type 0} (g : Mut F (Bor ℕ × Unit {0}) Bool) (h : Mut H (Bor (Bor (List ℕ)) × Unit {0}) Bool) (q : ℕ → Bool) (text : List ℕ) {f : F} {k : H} {s : _} {t : _}
    → slice.split_rest s ≡ text → slice.split_done s ≡ false → slice.split_callee s ≡ f → ((x : ℕ) (b : Bool) (p : F) → CalledAt g f x b p → (p ≡ f) × (b ≡ q x))
    → filter_source t ≡ s → filter_callee t ≡ k → ((x : Bor (List ℕ)) (b : Bool) (p : H) → CalledAt h k x b p → (p ≡ k) × (b ≡ is_filled x.now)) → Words (filter_steps (slice.split_steps g) h) t q text
split_words g h q text rest done closure tests source predicate filled =
    record { road = YieldsList-from_filter h is_filled (YieldsList-at source (YieldsList-from_slice_split g q text rest done closure tests)) predicate filled }
