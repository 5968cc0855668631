-- What is kept, with one bit more, or with one written and written back. Assumes nothing.
use Rattle.std.proofs.Common.{◌≡◌, ℕ, ◌-◌, Bool, true, false, cond, not, List, set, Some, Ok, Err, Result, refl, ap, ◌∙◌}
use Rattle.std.proofs.lemmas.List.{set-set, set-get_or}
use Rattle.std.proofs.lemmas.Bool.{and_parts, leb-true}
use Rattle.faults.specs.declared.SolverFault.{SolverFault}
use Rattle.faults.specs.declared.SolverFault.TheVariants.{NoVariable}
use Rattle.cnf.specs.Truth.{told}
use Rattle.cnf.proofs.Entries.{told_past}
use Rattle.solver.specs.Search.{placed, valued, left, kept_by}

no_err : (e : SolverFault) (x : Bool) → ◌≡◌ {A = Result Bool SolverFault} (Ok x) (Err e) → ⊥
no_err e x q = cc

written_back : (bits : List Bool) (v : ℕ) (old p : Bool) → placed bits v ≡ p → Ok old ≡ cond p (Ok (told bits v)) (Err NoVariable) → set (set bits (v - 1) (not old)) (v - 1) old ≡ bits
written_back bits v old false q e = absurd (no_err _ old e)
written_back bits v old true q e =
    let o : old ≡ told bits v = cc in
    let at = told_past bits v (leb-true _ _ (and_parts _ _ q).0) in
    set-set bits (v - 1) (not old) old ∙ ap (set bits (v - 1)) (o ∙ at) ∙ set-get_or bits (v - 1) false

-- a flip that the list refuses leaves what was kept
pub unflipped : (present : Bool) (bits : List Bool) (v : ℕ) (old : Bool) → Ok old ≡ valued (kept_by present bits) v
    → kept_by present (set (set bits (v - 1) (not old)) (v - 1) old) ≡ left (kept_by present bits) v (Ok false)
unflipped false bits v old e = absurd (no_err _ old e)
unflipped true bits v old e = ap Some (written_back bits v old (placed bits v) refl e)
