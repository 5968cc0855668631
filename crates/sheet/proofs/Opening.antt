-- A sheet that was just opened. Assumes nothing.
use Rattle.std.proofs.Common.{◌≡◌, ℕ, ◌+◌, ◌*◌, ◌≤◌, Bool, false, List, [], length, get_or, sym, refl, ap, ◌∙◌, arith}
use Rattle.std.proofs.lemmas.Bool.{both_ways}
use Rattle.cnf.specs.Truth.{lit}
use Rattle.cnf.specs.Table.{fresh}
use Rattle.cnf.proofs.Entries.{fresh_tabled, fresh-length, fresh_entry}
use Rattle.classes.proofs.Renumbering.{lit_even}
use Rattle.sheet.specs.Calls.{opened}
use Rattle.sheet.specs.Laws.{Fits}
use Rattle.sheet.proofs.Keeping.{Lands, lands}

pub lands_opened : (table words : List ℕ) (space : ℕ) (marks : List Bool) (n : ℕ) → n ≤ 2000 → table ≡ fresh n → words ≡ [] → length marks ≡ length table → ((v : ℕ) → get_or marks v false ≡ false)
    → Lands table words space marks (opened n space)
lands_opened table words space marks n h e k l z =
    let size : length table ≡ n + 1 = ap length e ∙ fresh-length 0 (n + 1) in
    lands table words space marks (opened n space)
    (record {
      few = h;
      size = fresh-length 0 (n + 1);
      reduced = record { some = omega (arith, fresh-length 0 (n + 1)); tabled = fresh_tabled n; good = refl; own = tt };
      room = omega arith;
      alone = λ b. absurd (both_ways false refl b);
      quiet = λ b _. refl;
      nets_wait = λ v b. absurd (both_ways false refl b);
    })
    (omega arith) refl e k z l

-- every assignment fits
pub fits-opened : (n space : ℕ) → Fits [] (opened n space)
fits-opened n space a = (
  (λ m. record {
    model = m;
    follows = λ v l.
        let e : get_or (fresh n) v 0 ≡ 2 * v = omega (arith, fresh_entry 0 (n + 1) v (omega (arith, fresh-length 0 (n + 1)))) in
        sym (ap (lit a) e ∙ lit_even a v);
  }),
  (λ s. s.model),
)
