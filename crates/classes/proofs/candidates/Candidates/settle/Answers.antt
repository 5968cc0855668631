use Rattle.std.proofs.Common.{◌≡◌, ℕ, ◌+◌, ◌-◌, ◌*◌, ◌<◌, cond, eqb, List, ◌++◌, length, get_or, take, drop, set, sym, ap, ◌∙◌, subst, arith}
use Rattle.std.proofs.lemmas.List.{take_all, take_at, get_or_read_under}
use Rattle.cnf.specs.Truth.{told, Equal}
use Rattle.cnf.specs.Words.{encode, read, well}
use Rattle.cnf.specs.Table.{by, via, applieds, Tabled}
use Rattle.cnf.proofs.Entries.{entries_from_tabled}
use Rattle.cnf.proofs.Reading.{read_means, read-encode, well-encode}
use Rattle.cnf.proofs.Tables.{applieds-good}
use Rattle.classes.specs.Classes.{held, Apart, Refines, Sweeping, settled}
use Rattle.classes.proofs.Sweeping.{keep, cut_by, replace}
use Rattle.classes.proofs.Filling.{by_one, by_within}
use Rattle.classes.proofs.candidates.Candidates.settle.Goals as goal

pub returns-then-old-own-clause-step : goal.returns-then-old-own-clause-step
returns-then-old-own-clause-step g c =
    let all = take_all (length c.args.list.now) c.args.list.now (omega arith) in
    let old = get_or_read_under c.args.self.now.names.items c.args.v _ _ 0 c.index-old.ensures c.requires.known c.args.self.now.names.ok.0 in
    let own : get_or c.args.self.now.names.items c.args.v 0 ≡ 2 * c.args.v = omega (arith, old, c.if-old-own.true) in
    λ cs s. subst (λ xs. Sweeping cs c.args.self.now.names.items (c.args.v + 1) (read xs)) (sym all) (keep cs _ _ _ s own)

pub differ-requires-clause-lower : goal.differ-requires-clause-lower
differ-requires-clause-lower g c =
    let l : c.args.v < length c.args.self.now.names.items = omega (arith, c.args.self.now.names.ok) in
    let low = (entries_from_tabled _ c.args.self.now.tabled).low c.args.v l in
    let old = get_or_read_under c.args.self.now.names.items c.args.v _ _ 0 c.index-old.ensures c.requires.known c.args.self.now.names.ok.0 in
    omega arith

-- the names after a split, as the vector has them
names_are : (t items : List ℕ) (n : ℕ) → length t ≡ n → take n (t ++ drop (length t) items) ≡ t
names_are t items n h = take_at t (drop (length t) items) n h

pub invariant_of-self-then-differ-clause-tabled : goal.invariant_of-self-then-differ-clause-tabled
invariant_of-self-then-differ-clause-tabled g c =
    subst Tabled (sym (names_are c.refine.new.table c.args.self.now.names.items _ (c.refine.ensures.size ∙ c.deref_mut.ensures.len))) c.refine.ensures.tabled

pub returns-then-differ-clause-step : goal.returns-then-differ-clause-step
returns-then-differ-clause-step g c =
    let t : List ℕ = c.args.self.now.names.items in
    let l : c.args.v < length t = omega (arith, c.args.self.now.names.ok) in
    let all = take_all (length c.args.list.now) c.args.list.now (omega arith) in
    let names = names_are c.refine.new.table t _ (c.refine.ensures.size ∙ c.deref_mut.ensures.len) in
    let old = get_or_read_under t c.args.v _ _ 0 c.index-old.ensures c.requires.known c.args.self.now.names.ok.0 in
    let kept = held (g.S.Solver.kept c.differ.new.solver) in
    let apart = subst (λ d. Apart (read c.args.list.now) (2 * c.args.v) d kept) old c.if-differ.ensures.answer.1 in
    let bits = c.recall.ensures.told ∙ ap (λ xs. via kept (settled xs c.args.v)) c.deref.ensures.value in
    let refined = subst (λ xs. Refines c.deref-then-differ.result.now xs c.refine.new.table c.refine.new.split) c.deref_mut.ensures.value c.refine.ensures in
    λ cs s. subst (λ xs. Sweeping cs xs (c.args.v + 1) (read (take (length c.args.list.now) c.args.list.now))) (sym names)
    (subst (λ xs. Sweeping cs c.refine.new.table (c.args.v + 1) (read xs)) (sym all)
    (cut_by cs t c.args.v _ s kept c.deref-then-differ.result.now c.refine.new.table c.refine.new.split l c.requires.net apart
    (ap told c.deref-then-differ.ensures.value ∙ bits) refined))

pub returns-clause-good : goal.returns-clause-good
returns-clause-good g c =
    let v = c.args.v in
    let m : ℕ = c.args.self.now.names.len - 1 in
    let x : ℕ = c.index-old.result.now in
    let spare : List ℕ = c.args.self.now.spare.items in
    let f : ℕ → ℕ = by (set spare v x) in
    let cs : List (List ℕ) = read c.args.list.now in
    let old = get_or_read_under c.args.self.now.names.items v _ _ 0 c.index-old.ensures c.requires.known c.args.self.now.names.ok.0 in
    let low = (entries_from_tabled _ c.args.self.now.tabled).low v (omega (arith, c.args.self.now.names.ok)) in
    let n : m < length spare = omega (arith, c.args.self.now.spare.ok) in
    let words = c.apply_all-left.ensures.exact ∙ ap (λ xs. encode (applieds (by xs) cs)) c.deref-2.ensures.value in
    ap (well m) words ∙ well-encode m (applieds f cs)
    (applieds-good m f cs (by_within m v x spare n c.args.self.now.plain (omega arith) (omega arith)) (read_means m c.args.list.now c.requires.good).1)

pub returns-clause-step : goal.returns-clause-step
returns-clause-step g c =
    let t : List ℕ = c.args.self.now.names.items in
    let v = c.args.v in
    let m : ℕ = c.args.self.now.names.len - 1 in
    let x : ℕ = c.index-old.result.now in
    let spare : List ℕ = c.args.self.now.spare.items in
    let f : ℕ → ℕ = by (set spare v x) in
    let cs : List (List ℕ) = read c.args.list.now in
    let old = get_or_read_under t v _ _ 0 c.index-old.ensures c.requires.known c.args.self.now.names.ok.0 in
    let low = (entries_from_tabled _ c.args.self.now.tabled).low v (omega (arith, c.args.self.now.names.ok)) in
    let n : m < length spare = omega (arith, c.args.self.now.spare.ok) in
    let words = c.apply_all-left.ensures.exact ∙ ap (λ xs. encode (applieds (by xs) cs)) c.deref-2.ensures.value in
    let equal = subst (Equal cs (2 * v)) old c.if-differ.ensures.answer in
    λ all s.
    subst (Sweeping all t (v + 1)) (sym (ap read words ∙ read-encode (applieds f cs)))
    (replace all t v cs s m f c.requires.net (omega (arith, c.args.self.now.names.ok)) (read_means m c.args.list.now c.requires.good).1 equal
    (λ w h. by_one m v x spare n c.args.self.now.plain (omega arith) (omega arith) w h ∙ ap (λ d. cond (eqb w v) d (2 * w)) old))
