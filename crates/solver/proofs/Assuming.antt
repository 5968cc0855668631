-- Rows of assumed literals. Assumes nothing.
use Rattle.std.proofs.Common.{◌≡◌, ℕ, ◌/◌, ◌≤◌, Bool, true, ◌&&◌, List, [], ◌∷◌, refl, ap, ◌∙◌, arith}
use Rattle.std.proofs.lemmas.Bool.Decides.{nat_tests}
use Rattle.cnf.specs.Truth.{lit, inside}
use Rattle.cnf.proofs.Counting.{lit_same}
use Rattle.solver.specs.Search.{every}

-- assignments with the same bits up to m give the same
pub every_same : (m : ℕ) (a b : ℕ → Bool) → ((v : ℕ) → v ≤ m → a v ≡ b v) → (cs : List ℕ) → inside m cs ≡ true → every a cs ≡ every b cs
every_same m a b e [] h = refl
every_same m a b e (c ∷ cs) h =
    let l : c / 2 ≤ m = grind (arith, nat_tests) in
    let i : inside m cs ≡ true = grind arith in
    ap (λ x. x && every a cs) (lit_same m a b e c l) ∙ ap (λ x. lit b c && x) (every_same m a b e cs i)
