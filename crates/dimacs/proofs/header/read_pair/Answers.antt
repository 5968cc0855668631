use Rattle.std.proofs.Common.{sym, ◌∙◌, rules, tests}
use Rattle.dimacs.specs.Numbers.{is_space}
use Rattle.dimacs.proofs.Splitting.{split_words}
use Rattle.dimacs.proofs.Pairs.{no_word, bad_first, one_word, bad_second, three_words, two_words}
use Rattle.dimacs.proofs.header.read_pair.Goals as goal

pub returns-in_err-next : goal.returns-in_err-next
returns-in_err-next c =
    c.from_residual.ensures ∙ sym (no_word is_space c.args.text.now c.next.new.self c.in_err-next.ensures.steps
    (split_words _ _ is_space c.args.text.now c.split.ensures.rest c.split.ensures.done c.split.ensures.closure (λ x r q k. search (rules, tests)) c.filter-words.ensures.source c.filter-words.ensures.closure (λ x r q k. search (rules, tests))))

pub returns-in_err-nets : goal.returns-in_err-nets
returns-in_err-nets c =
    c.from_residual-in_err-nets.ensures ∙ sym (bad_first is_space c.args.text.now c.next.new.self c.in_ok-next.field-0 c.in_ok-next.ensures.steps (sym c.in_err-nets.ensures.value)
    (split_words _ _ is_space c.args.text.now c.split.ensures.rest c.split.ensures.done c.split.ensures.closure (λ x r q k. search (rules, tests)) c.filter-words.ensures.source c.filter-words.ensures.closure (λ x r q k. search (rules, tests))))

pub returns-in_err-next-2 : goal.returns-in_err-next-2
returns-in_err-next-2 c =
    c.from_residual-in_err-next-2.ensures ∙ sym (one_word is_space c.args.text.now c.next.new.self c.in_ok-next.field-0 c.in_ok-next.ensures.steps c.next-2.new.self c.in_err-next-2.ensures.steps
    (split_words _ _ is_space c.args.text.now c.split.ensures.rest c.split.ensures.done c.split.ensures.closure (λ x r q k. search (rules, tests)) c.filter-words.ensures.source c.filter-words.ensures.closure (λ x r q k. search (rules, tests))))

pub returns-in_err-clauses : goal.returns-in_err-clauses
returns-in_err-clauses c =
    c.from_residual-in_err-clauses.ensures ∙ sym (bad_second is_space c.args.text.now c.next.new.self c.in_ok-next.field-0 c.in_ok-next.ensures.steps c.next-2.new.self c.in_ok-next-2.field-0 c.in_ok-next-2.ensures.steps (sym c.in_err-clauses.ensures.value)
    (split_words _ _ is_space c.args.text.now c.split.ensures.rest c.split.ensures.done c.split.ensures.closure (λ x r q k. search (rules, tests)) c.filter-words.ensures.source c.filter-words.ensures.closure (λ x r q k. search (rules, tests))))

pub returns-then-is_some : goal.returns-then-is_some
returns-then-is_some c =
    sym (three_words is_space c.args.text.now c.next.new.self c.in_ok-next.field-0 c.in_ok-next.ensures.steps c.next-2.new.self c.in_ok-next-2.field-0 c.in_ok-next-2.ensures.steps c.next-3.new.self c.next-3.result c.next-3.ensures.steps (sym c.if-is_some.ensures)
    (split_words _ _ is_space c.args.text.now c.split.ensures.rest c.split.ensures.done c.split.ensures.closure (λ x r q k. search (rules, tests)) c.filter-words.ensures.source c.filter-words.ensures.closure (λ x r q k. search (rules, tests))))

pub returns : goal.returns
returns c =
    sym (two_words is_space c.args.text.now c.next.new.self c.in_ok-next.field-0 c.in_ok-next.ensures.steps c.next-2.new.self c.in_ok-next-2.field-0 c.in_ok-next-2.ensures.steps c.next-3.new.self c.next-3.result c.next-3.ensures.steps (sym c.if-is_some.ensures) c.in_ok-nets.nets c.in_ok-clauses.clauses (sym c.in_ok-nets.ensures.value) (sym c.in_ok-clauses.ensures.value)
    (split_words _ _ is_space c.args.text.now c.split.ensures.rest c.split.ensures.done c.split.ensures.closure (λ x r q k. search (rules, tests)) c.filter-words.ensures.source c.filter-words.ensures.closure (λ x r q k. search (rules, tests))))
