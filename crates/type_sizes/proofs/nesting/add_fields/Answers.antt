use Rattle.std.proofs.Common.{◌++◌, ◌∷◌, [], ap, ◌∙◌}
use Rattle.type_sizes.proofs.Anew.{mapped_turn}
use Rattle.type_sizes.proofs.nesting.add_fields.Goals as goal

pub loop-field-preserved : goal.loop-field-preserved
loop-field-preserved c =
    mapped_turn (λ field. field.of) c.args.parts.now.items c.loop-field.parts.items c.push.new.self.items c.args.fields.now c.loop-field.field-index c.field-item.result c.loop-field-test.true
    c.loop-field.invariant (c.in_ok-push.ensures.items ∙ ap (λ f. c.loop-field.parts.items ++ f.of ∷ []) c.field-item.is)
