use Rattle.std.proofs.Common.{◌≡◌, ℕ, ◌<◌, true, false, List, ◌++◌, length, drop, ◌∙◌, arith}
use Rattle.cnf.proofs.Entries.{entries_from_tabled}
use Rattle.std.proofs.lemmas.List.{set-get_or, get_or_append_left, length-append, length-take-le}
use Rattle.classes.specs.Classes.{agrees}
use Rattle.classes.proofs.Making.{cleared}
use Rattle.classes.proofs.Refining.{refining_keep, name_within, agrees_not, agrees_still, move_by, mint_by, refining_all, refining_none}
use Rattle.classes.proofs.refine.refine.Goals as goal
use Rattle.classes.proofs.refine.refine.Goals.{then-is_true, then-split-r-eq0, else-split-r-eq0, else-is_true}

pub bounds-split-r : goal.bounds-split-r
bounds-split-r c = name_within _ _ _ _ _ c.loop-w.invariant (entries_from_tabled _ c.requires.tabled) _ c.variable-r.ensures (omega arith)

pub bounds-split-r-then-split-r-eq0 : goal.bounds-split-r-then-split-r-eq0
bounds-split-r-then-split-r-eq0 c = name_within _ _ _ _ _ c.loop-w.invariant (entries_from_tabled _ c.requires.tabled) _ c.variable-r.ensures (omega arith)

pub loop-w-init : goal.loop-w-init
loop-w-init c =
    let n : ℕ = length c.args.table.now in
    let front : List ℕ = c.fill.new.self in
    let behind : List ℕ = drop n c.args.split.now in
    let size : length front ≡ n = c.fill.auto.self ∙ length-take-le n c.args.split.now c.requires.parts in
    refining_none _ c.args.table.now (front ++ behind) (omega (arith, size, length-append front behind))
    (λ k h. get_or_append_left front behind 0 k (omega (arith, size)) ∙ cleared front _ (c.fill.ensures.after (λ _ e. e)) k)

pub loop-w-preserved : goal.loop-w-preserved
loop-w-preserved c =
    let l : c.loop-w.w < length c.args.table.now = omega arith in
    let e = entries_from_tabled _ c.requires.tabled in
    elim c.if-is_true.branch [
      | then-is_true w ↦
          (let a : agrees c.args.bits.now c.args.table.now c.loop-w.w ≡ false = agrees_not _ _ _ _ _ c.loop-w.invariant e _ _ c.is_true.ensures c.is_true-in-loop-w.ensures w.if-is_true.true in
          rw w.split-is
          (elim w.if-split-r-eq0.branch [
            | then-split-r-eq0 w' ↦ mint_by _ _ _ _ _ c.loop-w.invariant e _ _ _ _ w.table-is w.variable-r.ensures w'.split-is w.representative.ensures l a w'.if-split-r-eq0.true
            | else-split-r-eq0 w' ↦ move_by _ _ _ _ _ c.loop-w.invariant e _ _ _ _ w.table-is w.variable-r.ensures w'.split-is w.representative.ensures l a w'.if-split-r-eq0.false
          ]))
      | else-is_true w ↦
          (let a : agrees c.args.bits.now c.args.table.now c.loop-w.w ≡ true = agrees_still _ _ _ _ _ c.loop-w.invariant e _ _ c.is_true.ensures c.is_true-in-loop-w.ensures w.if-is_true.false in
          rw (w.table-is, set-get_or c.loop-w.table c.loop-w.w 0, w.split-is) (refining_keep _ _ _ _ _ c.loop-w.invariant e l a))
    ]

pub returns : goal.returns
returns c = refining_all _ _ _ _ _ c.loop-w.invariant (entries_from_tabled _ c.requires.tabled) (omega arith)
