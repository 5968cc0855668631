use Rattle.std.proofs.Common.{◌≤◌, length, ◌∙◌, arith}
use Rattle.search.specs.States.{cells_of, trail_of}
use Rattle.search.proofs.StateFacts.{undo_cells, undo_trail}
use Rattle.search.proofs.state.State.undo.Goals as goal

pub loop-self-preserved-in-Some : goal.loop-self-preserved-in-Some
loop-self-preserved-in-Some c =
    let s = c.loop-self.self in
    let i = c.in-Some.place in
    let p = c.in-Some.ensures in
    let inv = c.loop-self.invariant in
    let long : c.args.mark ≤ length c.pop.new.self.items = omega (arith, p.len, c.len.ensures, c.loop-self-test.true, c.pop.new.self.ok.0) in (
      omega (arith, p.len, c.len.ensures, c.loop-self-test.true),
      undo_cells (cells_of s) c.pop.new.self.items (trail_of s) i p.items c.args.mark long ∙ inv.1,
      undo_trail (cells_of s) c.pop.new.self.items (trail_of s) i p.items c.args.mark long ∙ inv.2,
    )
