use Rattle.std.proofs.Common.{◌∙◌, ◌++◌, ◌∷◌, [], ap, add-one}
use Rattle.init_order.proofs.initialising.numbers.Goals as goal

pub loop-number-preserved : goal.loop-number-preserved
loop-number-preserved c = rw add-one (c.in_ok-push.ensures.items ∙ ap (λ l. l ++ c.loop-number.number ∷ []) c.loop-number.invariant)
