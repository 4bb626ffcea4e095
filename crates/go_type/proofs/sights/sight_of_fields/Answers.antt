use Rattle.go_type.specs.Selector.{field_named}
use Rattle.go_type.proofs.Summaries.{plain_turn}
use Rattle.go_type.proofs.sights.sight_of_fields.Goals as goal

pub loop-field-preserved : goal.loop-field-preserved
loop-field-preserved c = λ path.
    plain_turn (field_named c.args.wanted path c.args.indirect) c.args.fields.now c.loop-field.field-index c.field-item.result c.loop-field.found c.and-found.result c.sight_of_field.result
    c.loop-field-test.true (c.loop-field.invariant path) c.field-item.is (c.sight_of_field.ensures path c.loop-field.field-index) c.and-found.ensures
