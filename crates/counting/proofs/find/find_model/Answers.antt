use Rattle.std.proofs.Common.{◌≡◌, false, length, take, replicate, rules}
use Rattle.counting.proofs.Tries.{answered_no}
use Rattle.counting.proofs.find.find_model.Goals as goal

pub returns-then-not-find_from-clause-answered : goal.returns-then-not-find_from-clause-answered
returns-then-not-find_from-clause-answered c =
    let s = c.args.search.now in
    let row = take s.m (replicate 20 false) in
    let size : length row ≡ s.m = search rules in
    answered_no s.m s.list.now s.assumed.now row c.find_from.new.bits _ s.formed s.known size c.if-not-find_from.ensures.tried c.clear.ensures.bits
