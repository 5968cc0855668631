use Rattle.std.proofs.Common.{map, sym, ◌∙◌, subst, rules, tests}
use Rattle.std.proofs.lemmas.Result.{err_from_is_err_and}
use Rattle.std.proofs.lemmas.Iterator.Consumers.{YieldsList-at, YieldsList-end}
use Rattle.dimacs.specs.Numbers.{is_blank, cut, filled}
use Rattle.dimacs.specs.Text.{placed}
use Rattle.dimacs.specs.Progress.{Reads}
use Rattle.dimacs.proofs.Splitting.{split_words, words_cut, item_at, placed_more}
use Rattle.dimacs.proofs.Taking.{reads_more, stops_at}
use Rattle.dimacs.proofs.clauses.Clauses.take_line.Goals as goal

pub loop-token-preserved : goal.loop-token-preserved
loop-token-preserved c =
    subst (λ ts. Reads c.args.self.now ts c.take_number.new.self) (sym (placed_more c.args.line c.loop-token.yielded c.in-Some.token))
    (reads_more c.args.self.now c.loop-token.self c.take_number.new.self _ _ c.loop-token.invariant c.in_ok-take_number.ensures.ok)

pub returns-clause-ok : goal.returns-clause-ok
returns-clause-ok c =
    let e = YieldsList-end (YieldsList-at c.into_iter-token-iterator.ensures.into_iter_gives (split_words _ _ is_blank c.args.text.now
    c.split.ensures.rest c.split.ensures.done c.split.ensures.closure (λ x r q k. search (rules, tests)) c.filter-tokens.ensures.source c.filter-tokens.ensures.closure (λ x r q k. search (rules, tests))).road)
    c.loop-token.yielded _ c.loop-token.yielded_by _ _ c.in-None.is c.next.ensures.steps in
    subst (λ ts. Reads c.args.self.now (map (placed c.args.line) ts) c.loop-token.self) (e.0 ∙ words_cut is_blank c.args.text.now) c.loop-token.invariant

pub returns-in_err-take_number-clause-err : goal.returns-in_err-take_number-clause-err
returns-in_err-take_number-clause-err c =
    let p = err_from_is_err_and c.from_residual.result c.from_residual.ensures.1 in
    let i = item_at (YieldsList-at c.into_iter-token-iterator.ensures.into_iter_gives (split_words _ _ is_blank c.args.text.now
    c.split.ensures.rest c.split.ensures.done c.split.ensures.closure (λ x r q k. search (rules, tests)) c.filter-tokens.ensures.source c.filter-tokens.ensures.closure (λ x r q k. search (rules, tests))).road)
    (filled (cut is_blank c.args.text.now)) (words_cut is_blank c.args.text.now) c.loop-token.yielded c.loop-token.token-iterator c.next.new.self c.in-Some.token c.loop-token.yielded_by c.in-Some.ensures.steps in
    rw (p.1, p.2) (stops_at c.args.self.now c.loop-token.self c.args.line _ _ i.0 c.in-Some.token.now _ i.1 c.loop-token.invariant c.in_err-take_number.ensures.err)
