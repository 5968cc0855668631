use Rattle.std.proofs.Common.{◌≡◌, false, refl, rules}
use Rattle.std.proofs.lemmas.Result.{err_from_is_err_and}
use Rattle.dimacs.specs.Numbers.{is_comment}
use Rattle.dimacs.proofs.Beginning.{headed_goes, headed_halts}
use Rattle.dimacs.proofs.reader.Reader.take_line.Goals as goal

pub returns-in_err-problem-in-None-clause-err : goal.returns-in_err-problem-in-None-clause-err
returns-in_err-problem-in-None-clause-err c =
    let p = err_from_is_err_and c.from_residual.result c.from_residual.ensures.1 in
    let first : is_comment c.args.text.now ≡ false = search rules in
    rw (p.1, p.2) (headed_halts c.args.self.now c.args.text.now c.in-None.is first _ c.in_err-problem-in-None.ensures.headed)

pub returns-in_ok-problem-in-None-clause-ok : goal.returns-in_ok-problem-in-None-clause-ok
returns-in_ok-problem-in-None-clause-ok c =
    let first : is_comment c.args.text.now ≡ false = search rules in
    headed_goes c.args.self.now c.args.text.now c.in-None.is first _ c.in_ok-problem-in-None.problem c.new.result refl refl c.new.ensures.problem c.new.ensures.words c.new.ensures.current c.in_ok-problem-in-None.ensures.headed
