use Rattle.std.proofs.Common.{◌≡◌, ◌+◌, ◌-◌, length, ap, ◌∙◌, subst, arith}
use Rattle.cnf.specs.Words.{read, well}
use Rattle.classes.specs.Renumber.{occurs}
use Rattle.classes.specs.Marks.{Numbered}
use Rattle.cnf.proofs.Reading.{read_means}
use Rattle.classes.proofs.Making.{renumbers, zero_unmarked, all_small}
use Rattle.classes.proofs.renumber.renumber.Goals as goal

pub number-m-requires-clause-constant : goal.number-m-requires-clause-constant
number-m-requires-clause-constant c =
    zero_unmarked (length c.args.rank.now - 1) (read c.args.list.now) _ (read_means _ c.args.list.now c.requires.good).1 (omega arith) c.mark_all.ensures

pub write-requires-clause-good : goal.write-requires-clause-good
write-requires-clause-good c =
    let n : length c.number-m.new.rank ≡ length c.args.rank.now = omega arith in
    ap (λ x. well (x - 1) c.args.list.now) n ∙ c.requires.good

pub write-requires-clause-small : goal.write-requires-clause-small
write-requires-clause-small c =
    let k : length c.mark_all.new.marks ≡ length c.number-m.new.rank = omega arith in
    let s = c.number-m.ensures (occurs (read c.args.list.now)) c.mark_all.ensures in
    all_small (occurs (read c.args.list.now)) c.number-m.new.rank c.number-m.new.old c.number-m.result (omega arith)
    (subst (λ x. Numbered (occurs (read c.args.list.now)) c.number-m.new.rank c.number-m.new.old x c.number-m.result) k s)

pub returns : goal.returns
returns c =
    let k : length c.mark_all.new.marks ≡ length c.args.rank.now - 1 + 1 = omega arith in
    let s = c.number-m.ensures (occurs (read c.args.list.now)) c.mark_all.ensures in
    let t = subst (λ x. Numbered (occurs (read c.args.list.now)) c.number-m.new.rank c.number-m.new.old x c.number-m.result) k s in
    record {
      tables = renumbers (read c.args.list.now) (length c.args.rank.now - 1) c.number-m.result c.number-m.new.rank c.number-m.new.old
          (read_means _ c.args.list.now c.requires.good).1 t;
      count = t.count;
      words = c.write.ensures;
    }
