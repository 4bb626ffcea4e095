use Rattle.std.proofs.Common.{◌∙◌, sym}
use Rattle.typed_parts.proofs.Wholes.{typed_has_its_type, untyped_takes_default}
use Rattle.typed_parts.proofs.retyping.defaulted.Goals as goal

pub returns-in_default : goal.returns-in_default
returns-in_default c = typed_has_its_type c.args.ground.now c.args.expr (sym c.in_default.is ∙ c.untyped_kind.ensures)

pub returns-in-Some-default_type : goal.returns-in-Some-default_type
returns-in-Some-default_type c =
    untyped_takes_default c.args.ground.now c.retyped.new.ground c.args.expr c.in-Some.kind c.in-Some-default_type.of c.retyped.result
    (sym c.in-Some.is ∙ c.untyped_kind.ensures) (sym c.in-Some-default_type.is ∙ c.default_type.ensures) c.retyped.ensures
