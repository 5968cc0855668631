-- What holds of a sheet holds after each call. Assumes nothing.
use Rattle.std.proofs.Common.{◌≡◌, ℕ, ◌+◌, ◌-◌, ◌≤◌, true, false, leb, List, [], ◌∷◌, ◌++◌, length, Some, sym, refl, ap, ◌∙◌, ⊎_elim, arith}
use Rattle.std.proofs.lemmas.List.{append-nil, append_assoc, length-append}
use Rattle.std.proofs.lemmas.Bool.{both_ways, and_parts, and_from, or_cases, le-leb}
use Rattle.cnf.specs.Truth.{inside}
use Rattle.cnf.specs.Words.{encode, good, goods}
use Rattle.cnf.specs.Table.{Own}
use Rattle.classes.specs.Renumber.{mentions, occurs}
use Rattle.propagation.specs.Follow.{OwnEach}
use Rattle.classes.proofs.Making.{mentions_within, occurs_within}
use Rattle.sheet.specs.State.{State, broken, Sound}
use Rattle.sheet.specs.Calls.{contradicted, joined, used, woken, Storable}

pub sound_contradicted : (s : State) → Sound s → 1 ≤ s.space → Sound (contradicted s)
sound_contradicted s w h = record {
  few = w.few;
  size = w.size;
  reduced = record { some = w.reduced.some; tabled = w.reduced.tabled; good = refl; own = (tt, tt) };
  room = h;
  alone = λ _. refl;
  quiet = λ _ _. refl;
  nets_wait = λ v e. absurd (both_ways false refl e);
}

-- a sheet without its clauses
abbrev pub emptied : State → State
emptied s = record { nets = s.nets; space = s.space; table = s.table; store = []; waiting = s.waiting }

pub sound_emptied : (s : State) → Sound s → Sound (emptied s)
sound_emptied s w = record {
  few = w.few;
  size = w.size;
  reduced = record { some = w.reduced.some; tabled = w.reduced.tabled; good = refl; own = tt };
  room = omega arith;
  alone = λ b. absurd (both_ways false refl b);
  quiet = λ b. absurd (both_ways false refl b);
  nets_wait = w.nets_wait;
}

-- one clause more at the end
pub encode_push : (cs : List (List ℕ)) (c : List ℕ) → encode (cs ++ c ∷ []) ≡ encode cs ++ length c ∷ c
encode_push [] c = ap (λ xs. length c ∷ xs) (append-nil c)
encode_push (d ∷ cs) c = ap (λ xs. length d ∷ (d ++ xs)) (encode_push cs c) ∙ ap (λ xs. length d ∷ xs) (sym (append_assoc d (encode cs) (length c ∷ c)))

pub used_push : (cs : List (List ℕ)) (c : List ℕ) → length (encode (cs ++ c ∷ [])) ≡ length (encode cs) + 1 + length c
used_push cs c = ap length (encode_push cs c) ∙ omega (arith, length-append (encode cs) (length c ∷ c))

goods_push : (n : ℕ) (cs : List (List ℕ)) (c : List ℕ) → goods n cs ≡ true → good n c ≡ true → goods n (cs ++ c ∷ []) ≡ true
goods_push n [] c h k = and_from (good n c) true k refl
goods_push n (d ∷ cs) c h k = let p = and_parts (good n d) (goods n cs) h in and_from (good n d) (goods n (cs ++ c ∷ [])) p.0 (goods_push n cs c p.1 k)

own_push : (t : List ℕ) (cs : List (List ℕ)) (c : List ℕ) → OwnEach t cs → Own t c → OwnEach t (cs ++ c ∷ [])
own_push t [] c h k = (k, tt)
own_push t (d ∷ cs) c h k = (h.0, own_push t cs c h.1 k)

broken_push : (cs : List (List ℕ)) (c : ℕ) (d : List ℕ) → broken (cs ++ (c ∷ d) ∷ []) ≡ broken cs
broken_push [] c d = refl
broken_push ([] ∷ cs) c d = refl
broken_push ((e ∷ es) ∷ cs) c d = broken_push cs c d

pub sound_joined : (s : State) (c : ℕ) (d : List ℕ) → Sound s → Storable s (c ∷ d) → used (joined s (Some (c ∷ d))) ≤ s.space → Sound (joined s (Some (c ∷ d)))
sound_joined s c d w h l = record {
  few = w.few;
  size = w.size;
  reduced = record {
    some = w.reduced.some;
    tabled = w.reduced.tabled;
    good = goods_push (length s.table - 1) s.store (c ∷ d) w.reduced.good (and_from (leb (length (c ∷ d)) 64) (inside (length s.table - 1) (c ∷ d)) (le-leb _ _ h.few) (ap (λ n. inside n (c ∷ d)) nets ∙ h.known));
    own = own_push s.table s.store (c ∷ d) w.reduced.own h.own;
  };
  room = l;
  alone = λ b. absurd (both_ways _ (broken_push s.store c d ∙ h.alive) b);
  quiet = λ b. absurd (both_ways _ (broken_push s.store c d ∙ h.alive) b);
  nets_wait = λ v e. ⊎_elim (λ q. w.nets_wait v q) (λ q. mentions_within s.nets (c ∷ d) v h.known q) (or_cases (s.waiting v) (mentions (c ∷ d) v) e);
}
  where
    nets : length s.table - 1 ≡ s.nets
    nets = omega (arith, w.size)

pub sound_woken : (s : State) → Sound s → broken s.store ≡ false → Sound (woken s)
sound_woken s w h = record {
  few = w.few;
  size = w.size;
  reduced = w.reduced;
  room = w.room;
  alone = w.alone;
  quiet = λ b. absurd (both_ways _ h b);
  nets_wait = λ v e.
      ⊎_elim (λ q. w.nets_wait v q)
      (λ q. let n : length s.table - 1 ≡ s.nets = omega (arith, w.size) in occurs_within s.nets s.store v (ap (λ k. goods k s.store) (sym n) ∙ w.reduced.good) q)
      (or_cases (s.waiting v) (occurs s.store v) e);
}
