use Rattle.std.proofs.Common.{◌≡◌, sym, ◌∙◌}
use Rattle.typed_built_ins.proofs.Greatest.{of_nothing}
use Rattle.typed_built_ins.proofs.extremes.of_type.Goals as goal

pub returns-in-None : goal.returns-in-None
returns-in-None c = of_nothing c.args.ground.now c.args.argument c.args.of (sym c.zip.ensures ∙ c.in-None.is)
