use Rattle.std.proofs.Common.{◌∙◌, sym}
use Rattle.typed_parts.specs.Joining.{sound}
use Rattle.typed_primaries.proofs.Selects.{pointer_receives, value_receives}
use Rattle.typed_primaries.proofs.selecting.receiver.Goals as goal

pub returns-then-by_pointer : goal.returns-then-by_pointer
returns-then-by_pointer c =
    pointer_receives c.args.ground.now c.addressed.new.ground c.args.function c.args.expr (sound c.addressed.result)
    (sym c.by_pointer.ensures ∙ c.if-by_pointer.true) c.addressed.ensures

pub returns-else-by_pointer : goal.returns-else-by_pointer
returns-else-by_pointer c =
    value_receives c.args.ground.now c.args.function c.args.expr c.dereferenced.result
    (sym c.by_pointer.ensures ∙ c.if-by_pointer.false) c.dereferenced.ensures
