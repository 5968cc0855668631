-- Propagation turn by turn, over values. Assumes nothing.
use Rattle.std.proofs.Common.{◌≡◌, ℕ, suc, ◌+◌, ◌-◌, ◌<◌, ◌≤◌, List, ◌++◌, length, take, drop, Some, None, Option, sym, refl, ap, ◌∙◌, subst, arith, length-drop}
use Rattle.std.proofs.lemmas.List.{length-append, length-take, length-take-le, take_all, take-append-le}
use Rattle.cnf.specs.Words.{encode, read}
use Rattle.cnf.specs.Table.{by, applieds}
use Rattle.cnf.proofs.Reading.{read-encode}
use Rattle.propagation.specs.declared.unit.Pending.TheVariants.{Nothing, Conflict, Forces}
use Rattle.propagation.specs.Follow.{followed, forced}
use Rattle.propagation.specs.Propagate.{Rewritten, Leaves, pending, propagated, propagated_for, resumed, rewritten}

-- the turns of propagation
module _ (t : List ℕ) (cs : List (List ℕ)) where
  pub propagated_end : propagated_for 0 t cs ≡ Some (record { table = t; clauses = cs })
  unfolding propagated_for
  propagated_end = refl

  module _ (k : ℕ) where
    abbrev next : ℕ → Option Rewritten
    next c = propagated_for k (followed (forced c) t) (applieds (by (followed (forced c) t)) cs)

    pub propagated_nothing : pending cs ≡ Nothing → propagated_for (suc k) t cs ≡ Some (record { table = t; clauses = cs })
    unfolding propagated_for
    propagated_nothing e = ap (λ p. resumed t cs p next) e

    pub propagated_conflict : pending cs ≡ Conflict → propagated_for (suc k) t cs ≡ None
    unfolding propagated_for
    propagated_conflict e = ap (λ p. resumed t cs p next) e

    pub propagated_forces : (c : ℕ) → pending cs ≡ Forces c → propagated_for (suc k) t cs ≡ next c
    unfolding propagated_for
    propagated_forces c e = ap (λ p. resumed t cs p next) e

-- the table t and the first `used` words of ws, from which the turns that are left give what propagation gives
pub record Going (whole left : List ℕ → List (List ℕ) → Option Rewritten) (t₀ ws₀ t ws : List ℕ) (used : ℕ) : Type 0 where
  pub formed : encode (read (take used ws)) ≡ take used ws
  pub gives : left t (read (take used ws)) ≡ whole t₀ (read ws₀)

-- a loop's state after `turns` turns
pub record Propagating (t₀ ws₀ t ws : List ℕ) (used turns : ℕ) : Type 0 where
  pub size : length ws ≡ length ws₀
  pub within : used ≤ length ws₀
  pub goes : encode (read ws₀) ≡ ws₀ → Going propagated (propagated_for (length ws₀ - turns)) t₀ ws₀ t ws used

pub propagating_none : (t ws : List ℕ) → Propagating t ws t ws (length ws) 0
propagating_none t ws = record {
  size = refl;
  within = omega arith;
  goes = λ w.
      let e = take_all (length ws) ws (omega arith) in
      let z : length ws - 0 ≡ length (encode (read ws)) = omega (arith, ap length w) in
      record {
        formed = ap (λ xs. encode (read xs)) e ∙ w ∙ sym e;
        gives = ap (λ xs. propagated_for (length ws - 0) t (read xs)) e ∙ ap (λ k. propagated_for k t (read ws)) z;
      };
}

-- what stands there where a result is reached
leaves_some : (o : Option Rewritten) (t ws : List ℕ) (used : ℕ) → used ≤ length ws → encode (read (take used ws)) ≡ take used ws
    → Some (record { table = t; clauses = read (take used ws) }) ≡ o → Leaves o t ws (Some used)
leaves_some o t ws used h w e =
    let l : length (encode (read (take used ws))) ≡ used = ap length w ∙ length-take-le used ws h in
    subst (λ o. Leaves o t ws (Some used)) e (ap (λ n. Some n) (sym l), refl, ap (λ n. take n ws) l ∙ sym w)

module _ (t₀ ws₀ t ws : List ℕ) (used turns : ℕ) (w : Propagating t₀ ws₀ t ws used turns) where
  pub propagating_all : length ws₀ ≤ turns → encode (read ws₀) ≡ ws₀ → Leaves (propagated t₀ (read ws₀)) t ws (Some used)
  propagating_all h e =
      let g = w.goes e in
      let z : 0 ≡ length ws₀ - turns = omega arith in
      leaves_some _ t ws used (omega (arith, w.size, w.within)) g.formed
      (sym (propagated_end t (read (take used ws))) ∙ ap (λ k. propagated_for k t (read (take used ws))) z ∙ g.gives)

  -- a turn, whose part of the words is the first `part`
  module _ (h : turns < length ws₀) (part : ℕ) (is : part ≡ used) where
    abbrev held : List (List ℕ)
    held = read (take used ws)

    turn-left : propagated_for (suc (length ws₀ - (turns + 1))) t held ≡ propagated_for (length ws₀ - turns) t held
    turn-left = let z : suc (length ws₀ - (turns + 1)) ≡ length ws₀ - turns = omega arith in ap (λ k. propagated_for k t held) z

    pub propagating_nothing : Nothing ≡ pending (read (take part ws)) → encode (read ws₀) ≡ ws₀ → Leaves (propagated t₀ (read ws₀)) t ws (Some used)
    propagating_nothing p e =
        let g = w.goes e in
        leaves_some _ t ws used (omega (arith, w.size, w.within)) g.formed
        (sym (propagated_nothing t held _ (ap (λ n. pending (read (take n ws))) (sym is) ∙ sym p)) ∙ turn-left ∙ g.gives)

    pub propagating_conflict : Conflict ≡ pending (read (take part ws)) → encode (read ws₀) ≡ ws₀ → propagated t₀ (read ws₀) ≡ None
    propagating_conflict p e = sym (w.goes e).gives ∙ sym turn-left ∙ propagated_conflict t held _ (ap (λ n. pending (read (take n ws))) (sym is) ∙ sym p)

    pub propagating_more : (c : ℕ) (u ys : List ℕ) (n : ℕ) → Forces c ≡ pending (read (take part ws)) → u ≡ followed (forced c) t
        → take n ys ≡ encode (applieds (by u) (read (take part ws))) → n ≤ length (take part ws) → length ys ≡ length (take part ws)
        → Propagating t₀ ws₀ u (ys ++ drop part ws) n (turns + 1)
    propagating_more c u ys n p f x b l =
        let lt = length-take-le part ws (omega (arith, w.size, w.within)) in
        let front : take n (ys ++ drop part ws) ≡ encode (applieds (by u) held)
        = take-append-le n ys (drop part ws) (omega arith) ∙ x ∙ ap (λ k. encode (applieds (by u) (read (take k ws)))) is in
        let now : read (take n (ys ++ drop part ws)) ≡ applieds (by u) held = ap read front ∙ read-encode (applieds (by u) held) in
        record {
          size = length-append ys (drop part ws) ∙ omega (arith, length-drop part ws, w.size, w.within);
          within = omega (arith, w.within);
          goes = λ e. record {
            formed = ap encode now ∙ sym front;
            gives = ap (propagated_for (length ws₀ - (turns + 1)) u) now ∙ ap (λ u. propagated_for (length ws₀ - (turns + 1)) u (applieds (by u) held)) f
                ∙ sym (propagated_forces t held _ c (ap (λ k. pending (read (take k ws))) (sym is) ∙ sym p)) ∙ turn-left ∙ (w.goes e).gives;
          };
        }

-- the words behind those that are left make no difference
leaves_more : (o : Option Rewritten) (u ys zs : List ℕ) (r : Option ℕ) → Leaves o u ys r → Leaves o u (ys ++ zs) r
leaves_more None u ys zs r h = h
leaves_more (Some p) u ys zs r h =
    let n : ℕ = length (encode p.clauses) in
    let b : n ≤ length ys = omega (arith, ap length h.2, length-take n ys) in
    (h.0, h.1, take-append-le n ys zs b ∙ h.2)

-- a table that is replaced and applied, and then propagated over the first `part` words
pub rewriting_all : (f : ℕ → ℕ) (t ws u v ys zs : List ℕ) (n part : ℕ) (r : Option ℕ) → part ≡ n → u ≡ followed f t → take n ys ≡ encode (applieds (by u) (read ws))
    → (encode (read (take part ys)) ≡ take part ys → Leaves (propagated u (read (take part ys))) v zs r) → Leaves (rewritten f t (read ws)) v (zs ++ drop part ys) r
rewriting_all f t ws u v ys zs n part r is e x h =
    let ds : List (List ℕ) = applieds (by u) (read ws) in
    let front : take part ys ≡ encode ds = ap (λ k. take k ys) is ∙ x in
    let now : read (take part ys) ≡ ds = ap read front ∙ read-encode ds in
    let o : propagated u (read (take part ys)) ≡ rewritten f t (read ws) = ap (propagated u) now ∙ ap (λ u. propagated u (applieds (by u) (read ws))) e in
    subst (λ o. Leaves o v (zs ++ drop part ys) r) o (leaves_more _ v zs (drop part ys) r (h (ap encode now ∙ sym front)))
