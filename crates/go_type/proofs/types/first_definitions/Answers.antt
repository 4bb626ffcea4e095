use Rattle.std.proofs.Common.{◌++◌, ◌∷◌, [], None, ◌∙◌}
use Rattle.go_type.specs.Table.{no_definition}
use Rattle.go_type.proofs.Predeclared.{repeat_more}
use Rattle.go_type.proofs.types.first_definitions.Goals as goal

pub loop-preserved : goal.loop-preserved
loop-preserved c = c.in_ok-push.ensures.items ∙ (λ i. c.loop.invariant i ++ record { underlying = None; methods = c.new.ensures i } ∷ []) ∙ repeat_more no_definition c.loop.counter
