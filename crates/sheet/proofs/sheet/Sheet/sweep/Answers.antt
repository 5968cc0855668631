use Rattle.std.proofs.Common.{◌≡◌, cond, length, None, Err, sym, ap, ◌∙◌, subst}
use Rattle.std.specs.Vec.{with_items}
use Rattle.std.proofs.lemmas.List.{with_items_is}
use Rattle.std.proofs.lemmas.Result.{err_from_is_err_and}
use Rattle.cnf.specs.Table.{by}
use Rattle.propagation.specs.Propagate.{rewritten}
use Rattle.sheet.specs.Of.{state_of}
use Rattle.sheet.specs.Calls.{landed, rested, swept, outcome}
use Rattle.sheet.specs.Sweep.{Ready}
use Rattle.sheet.proofs.Keeping.{sheet_kept, ghosts}
use Rattle.sheet.proofs.Grouping.{group_refused, group_found, lands_rested, refused, answered}
use Rattle.sheet.proofs.sheet.Sheet.sweep.Goals as goal

pub returns-in_err-found : goal.returns-in_err-found
returns-in_err-found g c =
    let s = c.args.self.now in
    let p = err_from_is_err_and c.from_residual.result c.from_residual.ensures.1 in
    let w = group_refused g.S.Solver.tally g.S.Solver.CAPACITY (length c.args.work.now) s _ _ _ _ _ _ c.if-is_contradictory.ensures c.deref.ensures.value
    (c.reset.auto.entries ∙ c.deref_mut.ensures.len) c.reset.ensures c.deref_mut-2.ensures.value c.in_err-found.field-0.0 c.in_err-found.ensures.answer in
    let a = refused g.S.Solver.tally c.args.solver.now c.sweep_group.new.solver (state_of s) _ c.from_residual.result c.in_err-found.field-0.0 (p.1 ∙ ap Err p.2) w.0 w.1 in
    record { does = a.does; law = a.law; served = a.served }

pub take_over-outcome-requires : goal.take_over-outcome-requires
take_over-outcome-requires g c =
    let s = c.args.self.now in
    let w = group_found g.S.Solver.tally g.S.Solver.CAPACITY (length c.args.work.now) s _ _ _ _ _ _ c.if-is_contradictory.ensures c.deref.ensures.value
    (c.reset.auto.entries ∙ c.deref_mut.ensures.len) c.reset.ensures c.deref_mut-2.ensures.value c.in_ok-found.found c.in_ok-found.ensures.answer in
    subst (λ xs. Ready (state_of s) xs c.in_ok-found.found) (sym (with_items_is (with_items s.news c.reset.new.entries) c.sweep_group.new.table (c.sweep_group.auto.table ∙ c.deref_mut-2.ensures.len))) w.ready

pub invariant_of-self-2 : goal.invariant_of-self-2
invariant_of-self-2 g c =
    let u = c.take_over-outcome.new.self in
    ghosts u.table u.words u.space c.fill.new.self _ _ _ _ (lands_rested u c.fill.new.self.items (c.fill.ensures.items (λ _ e. e))).holds
    u.limit u.reserved u.next_size u.news_size u.bits_size u.scratch_size

pub returns : goal.returns
returns g c =
    let s = c.args.self.now in
    let u = c.take_over-outcome.new.self in
    let w = group_found g.S.Solver.tally g.S.Solver.CAPACITY (length c.args.work.now) s _ _ _ _ _ _ c.if-is_contradictory.ensures c.deref.ensures.value
    (c.reset.auto.entries ∙ c.deref_mut.ensures.len) c.reset.ensures c.deref_mut-2.ensures.value c.in_ok-found.found c.in_ok-found.ensures.answer in
    let state : state_of u ≡ swept (state_of s).store (state_of s) =
    c.take_over-outcome.ensures.state
    ∙ ap (λ xs. landed (state_of s) (cond c.in_ok-found.found (rewritten (by xs) (state_of s).table (state_of s).store) None))
    (with_items_is (with_items s.news c.reset.new.entries) c.sweep_group.new.table (c.sweep_group.auto.table ∙ c.deref_mut-2.ensures.len))
    ∙ w.lands in
    let a = answered g.S.Solver.tally c.args.solver.now c.sweep_group.new.solver (state_of s) _ (sheet_kept s).sound _ c.take_over-outcome.result w.allowed
    ((lands_rested u c.fill.new.self.items (c.fill.ensures.items (λ _ e. e))).is ∙ ap rested state) (c.take_over-outcome.ensures.answer ∙ ap (outcome (state_of s)) state) w.searches in
    record { does = a.does; law = a.law; served = a.served }
