use Rattle.code_plan.proofs.Methods.{inserted, kept}
use Rattle.code_plan.proofs.planning.add_method.Goals as goal

pub returns-in_ok-insert : goal.returns-in_ok-insert
returns-in_ok-insert c =
    inserted c.args.line.now c.args.all.now.entries _ c.in_ok-function.function c.get.result
    c.in_ok-insert.ensures.entries c.get.ensures.value c.if-is_none.ensures c.in_ok-function.ensures

pub returns-else-is_none : goal.returns-else-is_none
returns-else-is_none c =
    kept c.args.line.now c.args.all.now.entries c.get.result c.get.ensures.value c.if-is_none.ensures
