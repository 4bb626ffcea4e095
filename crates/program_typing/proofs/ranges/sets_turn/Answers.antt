use Rattle.std.proofs.Common.{◌∙◌, ap, sym, List}
use Rattle.expr_typing.specs.Telling.{at_tests}
use Rattle.program_typing.proofs.Both.{told_as}
use Rattle.go_tree.specs.declared.exprs.TypedExpr.{TypedExpr}
use Rattle.go_tree.specs.declared.stmts.RangeTargets.{RangeTargets}
use Rattle.program_typing.specs.Turning.{turns_as}
use Rattle.program_typing.specs.Walk.{assigns_turn}
use Rattle.typed_trees.specs.Targets.{sets_turn}
use Rattle.program_typing.proofs.ranges.sets_turn.Goals as goal

pub returns-in-Assign : goal.returns-in-Assign
returns-in-Assign c = λ told. told_as _ _ _ (c.assign_turn.ensures told) (ap (λ (xs : List TypedExpr). assigns_turn (at_tests c.args.around told.tests) (turns_as c.args.turns) c.in-Assign.key c.in-Assign.value xs) c.deref.ensures.value ∙ ap (λ (ts : RangeTargets). sets_turn (at_tests c.args.around told.tests) ts (turns_as c.args.turns)) (sym c.in-Assign.is))
