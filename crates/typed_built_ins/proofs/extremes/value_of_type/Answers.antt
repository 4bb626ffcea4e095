use Rattle.std.proofs.Common.{sym}
use Rattle.typed_built_ins.proofs.Greatest.{typed_stays}
use Rattle.typed_built_ins.proofs.extremes.value_of_type.Goals as goal

pub returns-then-is_none : goal.returns-then-is_none
returns-then-is_none c = typed_stays c.args.ground.now c.args.of c.args.expr c.untyped_kind.result (sym c.untyped_kind.ensures) c.if-is_none.ensures
