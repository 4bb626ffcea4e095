use Rattle.std.proofs.Common.{◌∙◌, sym}
use Rattle.typed_parts.specs.Joining.{sound}
use Rattle.typed_primaries.proofs.Stepping.{is_pointer, no_pointer}
use Rattle.typed_primaries.proofs.steps.addressed.Goals as goal

pub returns-in-Some : goal.returns-in-Some
returns-in-Some c = is_pointer c.args.ground.now c.args.expr c.in-Some._base (sym c.pointed.ensures ∙ c.in-Some.is)

pub returns-in-None : goal.returns-in-None
returns-in-None c =
    no_pointer c.args.ground.now c.address.new.ground c.args.expr (sound c.address.result) (sym c.pointed.ensures ∙ c.in-None.is)
    c.address.ensures
