use Rattle.std.proofs.Common.{◌∙◌, sym}
use Rattle.typed_parts.proofs.Wholes.{typed_stays, untyped_taken}
use Rattle.typed_parts.proofs.numbers.as_untyped.Goals as goal

pub returns-in-Some : goal.returns-in-Some
returns-in-Some c =
    untyped_taken c.args.ground.now c.retyped.new.ground c.args.to c.args.expr c.in-Some.field-0 c.retyped.result
    (sym c.in-Some.is ∙ c.untyped_kind.ensures) c.retyped.ensures

pub returns-in-None : goal.returns-in-None
returns-in-None c = typed_stays c.args.ground.now c.args.to c.args.expr (sym c.in-None.is ∙ c.untyped_kind.ensures)
