use Rattle.std.proofs.Common.{◌≤◌, ◌∷◌, length, sym, ap, ◌∙◌, arith, rules, tests}
use Rattle.std.proofs.lemmas.Result.{err_from_is_err_and}
use Rattle.std.proofs.lemmas.Iterator.Consumers.{YieldsList-at, YieldsList-turn, YieldsList-end}
use Rattle.std.proofs.lemmas.Iterator.Splits.{YieldsList-from_slice_split}
use Rattle.std.proofs.lemmas.List.{length_push, length-map}
use Rattle.dimacs.specs.Numbers.{is_feed}
use Rattle.dimacs.specs.Text.{lines, plain, headed}
use Rattle.dimacs.specs.Results.{ReadAs}
use Rattle.dimacs.proofs.Splitting.{split_cut, length-split, item_at, now_more}
use Rattle.dimacs.proofs.Readings.{gives_back, read-fault, halted, ended_is, read_whole}
use Rattle.dimacs.proofs.read.Goals as goal

pub take_line-requires : goal.take_line-requires
take_line-requires c =
    let t = YieldsList-turn (YieldsList-at c.into_iter-line-iterator.ensures.into_iter_gives (YieldsList-from_slice_split _ is_feed c.args.text.now c.split-line-items.ensures.rest c.split-line-items.ensures.done c.split-line-items.ensures.closure (λ x r q k. search (rules, tests))))
    c.loop-line.yielded _ c.loop-line.yielded_by _ _ c.in-Some.line c.in-Some.is c.next.ensures.steps in
    omega (arith, t.0, length-split is_feed c.args.text.now, c.loop-line.invariant.counted)

pub loop-line-preserved : goal.loop-line-preserved
loop-line-preserved c =
    record {
      counted = omega (arith, length_push c.loop-line.yielded c.in-Some.line, c.in_ok-take_line.ensures.line, c.loop-line.invariant.counted);
      says = λ space end ls. ap (λ t. headed space end (plain 1 t)) (now_more c.loop-line.yielded c.in-Some.line ls)
          ∙ c.loop-line.invariant.says space end (c.in-Some.line.now ∷ ls) ∙ c.in_ok-take_line.ensures.ok.says space end ls;
    }

pub returns-in_err-take_line : goal.returns-in_err-take_line
returns-in_err-take_line c =
    let short : length c.args.text.now ≤ 60000 = omega arith in
    let p = err_from_is_err_and c.from_residual.result c.from_residual.ensures.1 in
    let i = item_at (YieldsList-at c.into_iter-line-iterator.ensures.into_iter_gives (YieldsList-from_slice_split _ is_feed c.args.text.now c.split-line-items.ensures.rest c.split-line-items.ensures.done c.split-line-items.ensures.closure (λ x r q k. search (rules, tests))))
    (lines c.args.text.now) (split_cut is_feed c.args.text.now) c.loop-line.yielded c.loop-line.line-iterator c.next.new.self c.in-Some.line c.loop-line.yielded_by c.in-Some.ensures.steps in
    let e : ReadAs c.args.space c.args.text.now c.from_residual.result = rw (p.1, p.2) (read-fault c.args.space c.args.text.now short _
    (halted c.args.space c.args.text.now short c.loop-line.reader _ c.loop-line.invariant.says c.in-Some.line.now i.0 _ i.1 c.in_err-take_line.ensures.err)) in
    record { exact = e; back = gives_back c.args.space c.args.text.now c.from_residual.result e }

pub returns : goal.returns
returns c =
    let short : length c.args.text.now ≤ 60000 = omega arith in
    let all = YieldsList-end (YieldsList-at c.into_iter-line-iterator.ensures.into_iter_gives (YieldsList-from_slice_split _ is_feed c.args.text.now c.split-line-items.ensures.rest c.split-line-items.ensures.done c.split-line-items.ensures.closure (λ x r q k. search (rules, tests))))
    c.loop-line.yielded _ c.loop-line.yielded_by _ _ c.in-None.is c.next.ensures.steps in
    let is = ended_is c.args.space c.args.text.now short c.loop-line.reader _ c.loop-line.invariant.says (all.0 ∙ split_cut is_feed c.args.text.now)
    (c.loop-line.invariant.counted ∙ sym (length-map c.loop-line.yielded (λ x. x.now))) in
    let e = read_whole c.args.space c.args.text.now short c.finish.result _ is c.finish.ensures.ok c.finish.ensures.err in
    record { exact = e; back = gives_back c.args.space c.args.text.now c.finish.result e }
