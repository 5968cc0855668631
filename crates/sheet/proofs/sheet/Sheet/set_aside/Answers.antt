use Rattle.std.proofs.Common.{◌≡◌, ℕ, ◌+◌, ◌≤◌, Bool, false, List, [], length, replicate, Vec, sym, ap, ◌∙◌, arith}
use Rattle.std.specs.declared.alloc.Global.{Global}
use Rattle.cnf.specs.Table.{fresh}
use Rattle.cnf.proofs.Entries.{fresh-length}
use Rattle.sheet.specs.Calls.{opened}
use Rattle.sheet.proofs.Keeping.{Lands, ghosts, cleared}
use Rattle.sheet.proofs.Opening.{lands_opened}
use Rattle.sheet.proofs.sheet.Sheet.set_aside.Goals as goal

landed : (t : Vec ℕ Global) (words : List ℕ) (marks : List Bool) (n : ℕ) → n ≤ 2000 → t.items ≡ fresh n → words ≡ [] → marks ≡ replicate t.len false
    → Lands t.items words 0 marks (opened n 0)
landed t words marks n h e w z = let k = cleared marks t.len z in lands_opened t.items words 0 marks n h e w (k.0 ∙ t.ok.0) k.1

pub invariant_of-result : goal.invariant_of-result
invariant_of-result c =
    let t = c.in_ok-table.table in
    let made = c.in_ok-table.ensures in
    let m = c.in_ok-vec.ensures in
    let e = c.len-size.ensures in
    ghosts t c.new.result 0 c.in_ok-vec.field-0 _ _ _ _
    (landed t _ _ c.args.nets made.0 made.1 c.new.ensures.items (m.items_if_clones_equal (λ _ e. e) ∙ ap (λ k. replicate k false) e)).holds
    (omega arith) (omega arith) (c.in_ok-vec-2.ensures.len ∙ e) (c.in_ok-vec-3.ensures.len ∙ e) (c.in_ok-vec-4.ensures.len ∙ e)
    (c.in_ok-new.ensures.1 ∙ sym (t.ok.0 ∙ ap length made.1 ∙ fresh-length 0 (c.args.nets + 1)))

pub returns-clause-opens : goal.returns-clause-opens
returns-clause-opens c =
    let made = c.in_ok-table.ensures in
    (landed c.in_ok-table.table _ _ c.args.nets made.0 made.1 c.new.ensures.items (c.in_ok-vec.ensures.items_if_clones_equal (λ _ e. e) ∙ ap (λ k. replicate k false) c.len-size.ensures)).is
