use Rattle.std.proofs.Common.{[], ◌∷◌, ◌≤◌, length, set, arith}
use Rattle.std.proofs.lemmas.List.{length-set}
use Rattle.search.specs.Cells.{assigned, made, place_of}
use Rattle.search.specs.States.{cells_of}
use Rattle.search.proofs.CellFacts.{count_assigned, finer_assigned, length-assigned, place_within, restored-assigned}
use Rattle.search.proofs.StateFacts.{places_push}
use Rattle.search.proofs.state.State.assign.Goals as goal

pub push_reserved-requires : goal.push_reserved-requires
push_reserved-requires c = omega (arith, count_assigned (cells_of c.args.self.now) c.args.code c.requires.known c.requires.free)

pub invariant_of-self-clause-small : goal.invariant_of-self-clause-small
invariant_of-self-clause-small c =
    let cells = cells_of c.args.self.now in
    let w = c.args.code in
    let size : length (set cells (place_of w) (made w)) ≤ 2000 = omega (arith, length-set cells (place_of w) (made w), c.args.self.now.small) in
    size

pub invariant_of-self-clause-spare : goal.invariant_of-self-clause-spare
unfolding assigned
invariant_of-self-clause-spare c = omega (arith, count_assigned (cells_of c.args.self.now) c.args.code c.requires.known c.requires.free)

pub invariant_of-self-clause-places : goal.invariant_of-self-clause-places
invariant_of-self-clause-places c =
    let s = c.args.self.now in
    let w = c.args.code in
    places_push (cells_of s) _ s.trail.items _ (place_of w) (length-set (cells_of s) (place_of w) (made w)) c.push_reserved.ensures.items
    (place_within (length (cells_of s)) w c.requires.known) s.places

pub returns-clause-count : goal.returns-clause-count
unfolding assigned
returns-clause-count c = count_assigned (cells_of c.args.self.now) c.args.code c.requires.known c.requires.free

pub returns-clause-grew : goal.returns-clause-grew
unfolding assigned
returns-clause-grew c =
    let cells = cells_of c.args.self.now in
    let w = c.args.code in
    let count = count_assigned cells w c.requires.known c.requires.free in
    record {
      more = place_of w ∷ [];
      trail = c.push_reserved.ensures.items;
      back = restored-assigned cells w c.requires.free;
      finer = λ a e. finer_assigned cells w a c.requires.free e;
      size = length-assigned cells w;
      fewer = omega (arith, count);
    }
