-- What an addition makes of a clause. Assumes nothing.
use Rattle.std.proofs.Common.{◌≡◌, ℕ, ◌≤◌, true, false, cond, leb, List, [], ◌∷◌, length, Some, None, Ok, Result, sym, refl, ap, ◌∙◌, subst, arith}
use Rattle.std.proofs.lemmas.Bool.{and_parts, and_from, le-leb}
use Rattle.faults.specs.declared.SheetFault.{SheetFault}
use Rattle.faults.specs.declared.SheetFault.TheVariants.{StoreFull}
use Rattle.cnf.specs.Truth.{inside}
use Rattle.cnf.specs.Words.{good, goods}
use Rattle.cnf.specs.Table.{by, before, applied}
use Rattle.cnf.proofs.Tables.{Within, applieds-good}
use Rattle.cnf.proofs.Applying.{applies}
use Rattle.cnf.proofs.Entries.{entries_from_tabled}
use Rattle.sheet.specs.State.{State, broken, Sound}
use Rattle.sheet.specs.Calls.{Does, used, joined, added, Storable, storing_refusal, addition_refusal}

-- a table's entries are literals of its variables
pub table_within : (s : State) → Sound s → Within s.nets (by s.table)
table_within s w = record { each = λ v h. let l = (entries_from_tabled s.table w.reduced.tabled).low v (omega (arith, w.size)) in omega arith }

-- a clause that is not refused for its form
module _ (s : State) (c : List ℕ) (w : Sound s) (alive : false ≡ broken s.store) (few : length c ≤ 64) (known : inside s.nets c ≡ true) where
  pub storable : (body : List ℕ) → Some body ≡ applied (by s.table) c → Storable s body
  storable body e =
      let a = applies s.table c (Some body) e in
      let g : goods s.nets (before (Some body) []) ≡ true
      = ap (λ o. goods s.nets (before o [])) e
      ∙ applieds-good s.nets (by s.table) (c ∷ []) (table_within s w) (and_from (good s.nets c) true (and_from (leb (length c) 64) (inside s.nets c) (le-leb _ _ few) known) refl) in
      record {
        alive = sym alive;
        few = omega (arith, a.fewer);
        known = (and_parts (leb (length body) 64) (inside s.nets body) (and_parts (good s.nets body) true g).0).1;
        own = a.own w.reduced.tabled;
      }

  -- only the store space is left to look at
  refusal-left : addition_refusal s c ≡ cond (leb (used (added s c)) s.space) None (Some StoreFull)
  refusal-left = let e = le-leb (length c) 64 few in cc

  pub vanished : None ≡ applied (by s.table) c → Does (addition_refusal s c) s (added s c) (tt {0}) s (Ok (tt {0}))
  vanished e =
      let a : s ≡ added s c = ap (joined s) e in
      let r = refusal-left in
      let room = le-leb (used s) s.space w.room in
      ((cc), a, refl)

  pub stored : (body : List ℕ) → Some body ≡ applied (by s.table) c → (u : State) (r : Result Unit SheetFault)
      → Does (storing_refusal s body) s (joined s (Some body)) tt u r → Does (addition_refusal s c) s (added s c) tt u r
  stored body e u r d =
      let a : joined s (Some body) ≡ added s c = ap (joined s) e in
      let f : storing_refusal s body ≡ addition_refusal s c = (let r = refusal-left in cc) in
      subst (λ x. Does x s (added s c) tt u r) f (subst (λ x. Does (storing_refusal s body) s x tt u r) a d)
