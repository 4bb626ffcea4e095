use Rattle.std.proofs.Common.{sym, ◌∙◌}
use Rattle.typed_parts.proofs.Turns.{nothing}
use Rattle.typed_built_ins.specs.BuiltIns.{argument}
use Rattle.typed_built_ins.specs.Dispatch.{IsOfOne}
use Rattle.typed_built_ins.proofs.built_ins.of_one.Goals as goal

pub returns-in-None : goal.returns-in-None
returns-in-None c =
    nothing c.args.ground.now (IsOfOne c.args.call.builtin c.args.call) (argument c.args.arguments.items 0) (sym c.first.ensures ∙ c.in-None.is)
