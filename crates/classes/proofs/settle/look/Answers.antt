use Rattle.classes.proofs.Asking.{look_even, look_odd}
use Rattle.classes.proofs.settle.look.Goals as goal

pub returns-then-code-eq0 : goal.returns-then-code-eq0
returns-then-code-eq0 g c = look_even _ _ _ _ _ c.variable.ensures c.value.ensures c.unwrap_or-bit.ensures c.if-code-eq0.true

pub returns-else-code-eq0 : goal.returns-else-code-eq0
returns-else-code-eq0 g c = look_odd _ _ _ _ _ c.variable.ensures c.value.ensures c.unwrap_or-bit.ensures c.if-code-eq0.false
