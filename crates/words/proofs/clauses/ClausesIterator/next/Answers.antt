use Rattle.std.proofs.Common.{◌≡◌, min, rules, length, take, drop, ap, arith}
use Rattle.cnf.proofs.Reading.{read_none, read_first}
use Rattle.words.proofs.clauses.ClausesIterator.next.Goals as goal

pub returns-in_err-count-clause-steps : goal.returns-in_err-count-clause-steps
returns-in_err-count-clause-steps c =
    let e = read_none _ c.in_err-count.ensures.cases in
    search rules

pub returns-clause-steps : goal.returns-clause-steps
returns-clause-steps c =
    let k = c.min-len.result in
    let rest = c.in_ok-count.rest.now in
    let len : k ≡ min c.in_ok-count.count.now (length rest) = omega (arith, c.min-len.ensures) in
    let front : c.split_at.result.0.now ≡ take k rest = search rules in
    let back : c.split_at.result.1.now ≡ drop k rest = search rules in
    read_first _ _ _ _ _ _ c.in_ok-count.ensures.cases.0 len front back

pub returns-clause-goes : goal.returns-clause-goes
returns-clause-goes c =
    let e = ap length (returns-clause-steps c) in
    record { on = λ _. (tt, tt, omega (arith, e)); keeps = tt; rests = λ _. tt }
