use Rattle.std.proofs.Common.{sym, ◌∙◌}
use Rattle.std.specs.Option.{option_zip}
use Rattle.typed_built_ins.specs.Growing.{IsSpread}
use Rattle.typed_parts.proofs.Turns.{nothing}
use Rattle.typed_built_ins.proofs.growing.appended_slice.Goals as goal

pub returns-in-None : goal.returns-in-None
returns-in-None c = nothing c.args.ground.now IsSpread (option_zip c.args.x c.args.elem) (sym c.zip.ensures ∙ c.in-None.is)
