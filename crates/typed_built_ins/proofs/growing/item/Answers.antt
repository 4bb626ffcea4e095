use Rattle.std.proofs.Common.{◌∙◌}
use Rattle.typed_built_ins.proofs.Grows.{item_first}
use Rattle.typed_built_ins.proofs.growing.item.Goals as goal

pub returns-then-is_slice : goal.returns-then-is_slice
returns-then-is_slice c = λ number e.
    item_first c.args.ground.now c.args.call c.args.elem number c.args.argument c.slice_value.result (e ∙ c.if-is_slice.true) c.slice_value.ensures
