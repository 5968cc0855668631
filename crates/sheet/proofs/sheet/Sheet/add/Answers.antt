use Rattle.std.proofs.Common.{◌≡◌, ℕ, List, Ok, Option, sym, ap, ◌∙◌}
use Rattle.cnf.specs.Truth.{inside}
use Rattle.cnf.specs.Table.{by, applied}
use Rattle.sheet.specs.Of.{state_of}
use Rattle.sheet.proofs.Keeping.{sheet_kept}
use Rattle.sheet.proofs.Adding.{storable, vanished, stored}
use Rattle.sheet.proofs.Standing.{addition_law}
use Rattle.sheet.proofs.sheet.Sheet.add.Goals as goal

-- what was applied to what
same : (o : Option (List ℕ)) (t u c d : List ℕ) → o ≡ applied (by t) c → t ≡ u → c ≡ d → o ≡ applied (by u) d
same o t u c d e p q = e ∙ ap (λ x. applied (by x) c) p ∙ ap (applied (by u)) q

pub store-requires : goal.store-requires
store-requires c =
    let s = state_of c.args.self.now in
    storable s c.args.clause.now (sheet_kept c.args.self.now).sound c.if-is_contradictory.ensures c.if-clause-gt-MAX_LITERALS.false
    (sym (c.if-not-all_named.ensures ∙ ap (λ n. inside n c.args.clause.now) c.nets.ensures)) _
    (same _ _ _ _ _ c.in-Some.ensures.applies.exact c.deref.ensures.value c.copy_from_slice.ensures.after)

pub returns-in-None : goal.returns-in-None
returns-in-None c =
    let s = state_of c.args.self.now in
    let d = vanished s c.args.clause.now (sheet_kept c.args.self.now).sound c.if-is_contradictory.ensures c.if-clause-gt-MAX_LITERALS.false
    (sym (c.if-not-all_named.ensures ∙ ap (λ n. inside n c.args.clause.now) c.nets.ensures)) (same _ _ _ _ _ c.in-None.ensures.applies.exact c.deref.ensures.value c.copy_from_slice.ensures.after) in
    record { does = d; law = addition_law s s c.args.clause.now (Ok (tt {0})) (sheet_kept c.args.self.now).sound d }

pub returns-in-Some : goal.returns-in-Some
returns-in-Some c =
    let s = state_of c.args.self.now in
    let d = stored s c.args.clause.now (sheet_kept c.args.self.now).sound c.if-is_contradictory.ensures c.if-clause-gt-MAX_LITERALS.false
    (sym (c.if-not-all_named.ensures ∙ ap (λ n. inside n c.args.clause.now) c.nets.ensures)) _
    (same _ _ _ _ _ c.in-Some.ensures.applies.exact c.deref.ensures.value c.copy_from_slice.ensures.after)
    _ _ c.store.ensures in
    record { does = d; law = addition_law s (state_of c.store.new.self) c.args.clause.now _ (sheet_kept c.args.self.now).sound d }
