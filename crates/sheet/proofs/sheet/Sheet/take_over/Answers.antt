use Rattle.std.proofs.Common.{◌≡◌, ℕ, take, Vec, sym, ap, ◌∙◌, arith}
use Rattle.std.specs.declared.alloc.Global.{Global}
use Rattle.std.proofs.lemmas.List.{with_items_is}
use Rattle.sheet.specs.Of.{state_of}
use Rattle.sheet.specs.Calls.{outcome}
use Rattle.sheet.proofs.Keeping.{ghosts}
use Rattle.sheet.proofs.Landing.{replaced, replaced_none, lands_emptied, lands_replaced, answer_replaced}
use Rattle.sheet.proofs.sheet.Sheet.take_over.Goals as goal

pub invariant_of-self : goal.invariant_of-self
invariant_of-self c =
    let s = c.args.self.now in
    ghosts s.table c.clear.new.self s.space s.waiting _ _ _ _ (lands_emptied s _ c.clear.ensures.items).holds s.limit
    (omega (arith, s.reserved, c.clear.ensures.capacity)) (c.copy_from_slice.ensures.len ∙ s.next_size) s.news_size s.bits_size s.scratch_size

pub contradict-requires-in-None : goal.contradict-requires-in-None
contradict-requires-in-None c = (replaced_none _ _ _ _ (replaced c.args.self.now c.args.found _ _ _ _ _ _ c.requires c.if-not-found.false
    c.deref-2.ensures.value (c.deref_mut.ensures.value ∙ c.copy_from_slice.ensures.items ∙ c.deref.ensures.value) c.deref_mut-2.ensures.value c.in-None.ensures)).0

pub returns-in-None : goal.returns-in-None
returns-in-None c =
    let s = c.args.self.now in
    let left = (replaced_none _ _ _ _ (replaced s c.args.found _ _ _ _ _ _ c.requires c.if-not-found.false
    c.deref-2.ensures.value (c.deref_mut.ensures.value ∙ c.copy_from_slice.ensures.items ∙ c.deref.ensures.value) c.deref_mut-2.ensures.value c.in-None.ensures)).1 in
    record { state = c.contradict-in-None.ensures ∙ sym left; answer = sym (ap (outcome (state_of s)) c.contradict-in-None.ensures) }

pub invariant_of-self-in-Some : goal.invariant_of-self-in-Some
invariant_of-self-in-Some c =
    let s = c.args.self.now in
    let w = replaced s c.args.found _ _ _ _ _ _ c.requires c.if-not-found.false
    c.deref-2.ensures.value (c.deref_mut.ensures.value ∙ c.copy_from_slice.ensures.items ∙ c.deref.ensures.value) c.deref_mut-2.ensures.value c.in-Some.ensures in
    let t = ap (λ (v : Vec ℕ Global). v.items) c.swap.ensures.x_after ∙ with_items_is c.copy_from_slice.new.self c.rewrite.new.table (c.rewrite.auto.table ∙ c.deref_mut.ensures.len) in
    let ws = c.truncate.ensures.items ∙ ap (take c.in-Some.used) (with_items_is s.words c.rewrite.new.words (c.rewrite.auto.words ∙ c.deref_mut-2.ensures.len)) in
    let n : c.swap.new.x.len ≡ s.table.len = ap (λ (v : Vec ℕ Global). v.len) c.swap.ensures.x_after ∙ c.copy_from_slice.ensures.len ∙ s.next_size in
    ghosts c.swap.new.x c.truncate.new.self s.space s.waiting _ _ _ _ (lands_replaced s c.args.found _ _ _ w _ _ t ws).holds s.limit
    (omega (arith, s.reserved, c.truncate.ensures.capacity)) (ap (λ (v : Vec ℕ Global). v.len) c.swap.ensures.y_after ∙ sym n) (s.news_size ∙ sym n) (s.bits_size ∙ sym n) (s.scratch_size ∙ sym n)

pub returns-in-Some : goal.returns-in-Some
returns-in-Some c =
    let s = c.args.self.now in
    let w = replaced s c.args.found _ _ _ _ _ _ c.requires c.if-not-found.false
    c.deref-2.ensures.value (c.deref_mut.ensures.value ∙ c.copy_from_slice.ensures.items ∙ c.deref.ensures.value) c.deref_mut-2.ensures.value c.in-Some.ensures in
    let now = with_items_is c.copy_from_slice.new.self c.rewrite.new.table (c.rewrite.auto.table ∙ c.deref_mut.ensures.len) in
    let t = ap (λ (v : Vec ℕ Global). v.items) c.swap.ensures.x_after ∙ now in
    let ws = c.truncate.ensures.items ∙ ap (take c.in-Some.used) (with_items_is s.words c.rewrite.new.words (c.rewrite.auto.words ∙ c.deref_mut-2.ensures.len)) in
    let is = (lands_replaced s c.args.found _ _ _ w _ _ t ws).is in
    let before = c.deref-in-Some.ensures.value in
    let after = c.deref-in-Some-2.ensures.value ∙ now in
    record {
      state = is;
      answer = answer_replaced s c.args.found _ _ _ w c.count-counts.result (let e = c.count-counts.ensures.fixed in cc) (let e = c.count-counts.ensures.tied in cc)
          ∙ sym (ap (outcome (state_of s)) is);
    }
