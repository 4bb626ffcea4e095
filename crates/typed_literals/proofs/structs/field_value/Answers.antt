use Rattle.std.proofs.Common.{ap, sym, Some, None}
use Rattle.std.specs.Option.{option_map}
use Rattle.typed_literals.specs.Structs.{init_of}
use Rattle.typed_literals.proofs.Structures.{value_of}
use Rattle.typed_literals.proofs.structs.field_value.Goals as goal

pub returns-in-Some : goal.returns-in-Some
returns-in-Some c =
    value_of c.args.ground.now c.assigned.new.ground c.args.element.value c.args.field.0 c.args.field.1 c.in_ok-value.field-0 (Some (init_of c.args.field.0 c.in-Some.value))
    c.in_ok-value.ensures (ap (option_map (init_of c.args.field.0)) (sym c.in-Some.is))

pub returns-in-None : goal.returns-in-None
returns-in-None c =
    value_of c.args.ground.now c.assigned.new.ground c.args.element.value c.args.field.0 c.args.field.1 c.in_ok-value.field-0 None
    c.in_ok-value.ensures (ap (option_map (init_of c.args.field.0)) (sym c.in-None.is))
