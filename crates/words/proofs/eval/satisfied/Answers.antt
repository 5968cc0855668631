use Rattle.std.proofs.Common.{rules, tests, refl}
use Rattle.std.proofs.lemmas.Iterator.Consumers.{YieldsList-from_first}
use Rattle.std.proofs.lemmas.Iterator.Search.{all_from_yields_List}
use Rattle.cnf.specs.Truth.{told, clause}
use Rattle.cnf.specs.Words.{read}
use Rattle.words.proofs.eval.satisfied.Goals as goal

pub returns : goal.returns
returns c = all_from_yields_List (clause (told c.args.bits.now)) c.all.new.self _ _ c.all.ensures.ran (YieldsList-from_first (λ x. x.now) (λ s. read s.0.now) _ refl) (λ x b q k. search (rules, tests))
