use Rattle.std.proofs.Common.{cond, ◌++◌, ◌∷◌, [], ◌∙◌, ap}
use Rattle.go_type.specs.Levels.{is_seen}
use Rattle.go_type.proofs.InlineTypes.{adds_field}
use Rattle.go_type.proofs.inline.add_fields.Goals as goal

pub loop-field-preserved : goal.loop-field-preserved
loop-field-preserved c =
    adds_field c.args.fields.now c.loop-field.field-index c.field-item.result c.args.reached.now.keys c.loop-field.reached.keys c.insert.new.self.keys c.loop-field-test.true c.loop-field.invariant
    (c.in_ok-insert.ensures.keys ∙ ap (λ f. cond (is_seen c.loop-field.reached.keys f.of) c.loop-field.reached.keys (c.loop-field.reached.keys ++ f.of ∷ [])) c.field-item.is)
