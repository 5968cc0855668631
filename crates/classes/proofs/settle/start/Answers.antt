use Rattle.std.proofs.Common.{◌≡◌, ℕ, Bool, true, false, cond, get_or, refl, ap, ◌∙◌, arith}
use mir.Val.{bool_byte}
use Rattle.classes.specs.Classes.{held}
use Rattle.classes.proofs.Renumbering.{lit_even}
use Rattle.classes.proofs.Filling.{push_below}
use Rattle.classes.proofs.settle.start.Goals as goal

byte_is : (b : Bool) → bool_byte b ≡ cond b 1 0
byte_is true = refl
byte_is false = refl

pub loop-v-preserved : goal.loop-v-preserved
loop-v-preserved g c =
    let h : ℕ → Bool = held (g.S.Solver.kept c.args.solver.now) in
    let bit : c.look.result ≡ h c.loop-v.v = c.look.ensures ∙ lit_even h c.loop-v.v in (
      omega arith,
      c.push_reserved.ensures.capacity ∙ c.loop-v.invariant.1,
      λ k j. ap (λ xs. get_or xs k 0) c.push_reserved.ensures.items
          ∙ push_below (λ i n. n ≡ cond (h i) 1 0) c.loop-v.names.items c.loop-v.v _ 0 (omega (arith, c.loop-v.names.ok)) c.loop-v.invariant.2
          (byte_is c.look.result ∙ ap (λ (b : Bool). cond b 1 0) bit) k j,
    )
