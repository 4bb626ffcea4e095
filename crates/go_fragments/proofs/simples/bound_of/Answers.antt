use Rattle.go_grammar.specs.View.{each, view_expr, view_listed_expr}
use Rattle.go_fragments.specs.Statements.{boxed_expr}
use Rattle.go_fragments.proofs.Guards.{bound_is}
use Rattle.std.proofs.Common.{arith}
use Rattle.go_fragments.proofs.Guards.{bound_many, bound_unnamed, bound_lists, bound_operation}
use Rattle.go_fragments.proofs.simples.bound_of.Goals as goal

pub returns : goal.returns
returns c = bound_is c.args.define (each view_listed_expr c.args.values.items) (each view_listed_expr c.args.targets.items) (view_expr c.in_ok-single.field-0.value) (view_expr c.in_ok-single-2.field-0.value) (boxed_expr c.in_ok-operand.operand) c.in_ok-name.name c.in_ok-single.ensures c.in_ok-name.ensures c.in_ok-single-2.ensures c.in_ok-operand.ensures

pub returns-in_err-single : goal.returns-in_err-single
returns-in_err-single c = grind (arith, bound_many)

pub returns-in_err-name : goal.returns-in_err-name
returns-in_err-name c = grind (arith, bound_unnamed)

pub returns-in_err-single-2 : goal.returns-in_err-single-2
returns-in_err-single-2 c = grind (arith, bound_lists)

pub returns-in_err-operand : goal.returns-in_err-operand
returns-in_err-operand c = grind (arith, bound_operation)
