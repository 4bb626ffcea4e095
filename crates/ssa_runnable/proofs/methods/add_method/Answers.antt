use Rattle.std.proofs.Common.{refl}
use Rattle.ssa_runnable.proofs.Looking.{inserted, kept}
use Rattle.ssa_runnable.proofs.methods.add_method.Goals as goal

pub returns-in_ok-insert : goal.returns-in_ok-insert
returns-in_ok-insert c =
    inserted c.args.line.now c.args.all.now.entries _ c.args.line.now.function c.get.result
    c.in_ok-insert.ensures.entries c.get.ensures.value c.if-is_none.ensures refl

pub returns-else-is_none : goal.returns-else-is_none
returns-else-is_none c =
    kept c.args.line.now c.args.all.now.entries c.get.result c.get.ensures.value c.if-is_none.ensures
