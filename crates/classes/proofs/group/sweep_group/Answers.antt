use Rattle.std.proofs.Common.{◌≡◌, ℕ, ◌-◌, true, false, length, take, sym, refl, ap, ◌∙◌, subst, arith}
use Rattle.std.proofs.lemmas.List.{take_at}
use Rattle.cnf.specs.Words.{read, well}
use Rattle.cnf.specs.Table.{Tabled}
use Rattle.cnf.proofs.Entries.{entries_from_tabled}
use Rattle.classes.specs.Marks.{Renumbered}
use Rattle.classes.specs.Group.{Carried, CarriedBack}
use Rattle.classes.proofs.Carrying.{small_well, group_back, not_refused}
use Rattle.classes.proofs.group.sweep_group.Goals as goal

pub sweep-found-requires-clause-good : goal.sweep-found-requires-clause-good
sweep-found-requires-clause-good g c =
    let list = c.args.list.now in
    let n : ℕ = c.args.scratch.now.rank.len - 1 in
    let m = c.renumber-m.result in
    let work = c.renumber-m.new.work in
    let rank = c.renumber-m.new.rank in
    let old = c.renumber-m.new.old in
    let e : length c.deref_mut.result.now - 1 ≡ n = omega (arith, c.deref_mut.ensures.len) in
    let s : Renumbered list work rank old n m = subst (λ x. Renumbered list work rank old x m) e c.renumber-m.ensures in
    let h : well n list ≡ true = sym (c.if-not-well_formed.ensures ∙ ap (λ x. well (x - 1) list) c.len-size.ensures) in
    small_well list work rank old n m h s

pub carry-requires-clause-low : goal.carry-requires-clause-low
carry-requires-clause-low g c =
    let names = c.deref-then-found.ensures.value in
    λ k l. (entries_from_tabled _ (subst Tabled (sym names) c.if-found.ensures.answer.tabled)).low k l

pub returns-then-found-clause-answer : goal.returns-then-found-clause-answer
returns-then-found-clause-answer g c =
    let list = c.args.list.now in
    let n : ℕ = c.args.scratch.now.rank.len - 1 in
    let m = c.renumber-m.result in
    let work = c.renumber-m.new.work in
    let rank = c.renumber-m.new.rank in
    let old = c.renumber-m.new.old in
    let e : length c.deref_mut.result.now - 1 ≡ n = omega (arith, c.deref_mut.ensures.len) in
    let s : Renumbered list work rank old n m = subst (λ x. Renumbered list work rank old x m) e c.renumber-m.ensures in
    let h : well n list ≡ true = sym (c.if-not-well_formed.ensures ∙ ap (λ x. well (x - 1) list) c.len-size.ensures) in
    let o : c.deref.result.now ≡ old = c.deref.ensures.value ∙ take_at old _ _ (c.renumber-m.auto.old ∙ c.deref_mut-2.ensures.len) in
    let t = c.args.table.now in
    let u = c.carry.new.table in
    let size : length c.deref-then-found.result.now - 1 ≡ m = omega (arith, c.deref-then-found.ensures.len, c.if-found.ensures.size refl) in
    let names = c.deref-then-found.ensures.value in
    let back : CarriedBack m (read (take (length list) work)) old t u true = record {
      names = c.sweep-found.new.self.names.items;
      swept = c.if-found.ensures.answer;
      carried = subst (λ k. Carried old c.sweep-found.new.self.names.items t u k) size
          (subst (λ xs. Carried old xs t u (length c.deref-then-found.result.now - 1)) names
          (subst (λ xs. Carried xs c.deref-then-found.result.now t u (length c.deref-then-found.result.now - 1)) o c.carry.ensures));
    } in (
      not_refused _ _ _ m list t (omega (arith, c.len-size.ensures)) h (omega arith) s.count (omega (arith, c.CAPACITY.ensures)),
      rw c.if-found.true (group_back list work rank old n m h s t u true back),
      omega (arith, c.if-found.ensures.tallied, s.count),
    )

pub returns-else-found-clause-answer : goal.returns-else-found-clause-answer
returns-else-found-clause-answer g c =
    let list = c.args.list.now in
    let n : ℕ = c.args.scratch.now.rank.len - 1 in
    let m = c.renumber-m.result in
    let work = c.renumber-m.new.work in
    let rank = c.renumber-m.new.rank in
    let old = c.renumber-m.new.old in
    let e : length c.deref_mut.result.now - 1 ≡ n = omega (arith, c.deref_mut.ensures.len) in
    let s : Renumbered list work rank old n m = subst (λ x. Renumbered list work rank old x m) e c.renumber-m.ensures in
    let h : well n list ≡ true = sym (c.if-not-well_formed.ensures ∙ ap (λ x. well (x - 1) list) c.len-size.ensures) in
    let t = c.args.table.now in (
      not_refused _ _ _ m list t (omega (arith, c.len-size.ensures)) h (omega arith) s.count (omega (arith, c.CAPACITY.ensures)),
      rw c.if-found.false (group_back list work rank old n m h s t t false (c.if-found.ensures.answer, refl)),
      omega (arith, c.if-found.ensures.tallied, s.count),
    )
