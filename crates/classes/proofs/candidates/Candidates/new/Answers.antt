use Rattle.std.proofs.Common.{rules, sym, ◌∙◌, [], ◌∷◌, ◌++◌, subst, ap, length, arith}
use Rattle.cnf.specs.Table.{Tabled}
use Rattle.cnf.proofs.Entries.{fresh_tabled, fresh-length}
use Rattle.classes.proofs.Filling.{plain_fresh, only_memory}
use Rattle.classes.proofs.candidates.Candidates.new.Goals as goal

pub returns-in_err-own_entries : goal.returns-in_err-own_entries
returns-in_err-own_entries c =
    let m = only_memory _ c.in_err-own_entries.ensures in
    let e = c.from_residual-in_err-own_entries.ensures in
    search rules

pub invariant_of-result : goal.invariant_of-result
invariant_of-result c =
    let spare = c.in_ok-own_entries.ensures.1 in
    record {
      some = omega (arith, c.push_reserved.ensures.len, c.in_ok-names.ensures.len);
      few = omega (arith, c.push_reserved.ensures.len, c.in_ok-names.ensures.len);
      tabled = subst Tabled (sym (c.push_reserved.ensures.items ∙ ap (λ xs. xs ++ 0 ∷ []) c.in_ok-names.ensures.items)) (fresh_tabled 0);
      split_size = c.in_ok-vec.ensures.len;
      spare_size = omega (arith, ap length spare, fresh-length 0 2001, c.in_ok-own_entries.field-0.ok);
      plain = plain_fresh 2000 _ spare;
      names_room = omega (arith, c.push_reserved.ensures.capacity, c.in_ok-names.ensures.capacity);
      bits_room = omega (arith, c.in_ok-with_capacity.ensures.capacity);
    }
