use Rattle.typed_primaries.proofs.Selects.{method_lacks, method_there, nothing_selected}
use Rattle.typed_primaries.proofs.selecting.method_expression.Goals as goal

pub returns-in_default : goal.returns-in_default
returns-in_default c =
    nothing_selected c.args.ground.now c.selection_of.new.ground c.args.at c.args.of c.args.selected c.selection_of.result c.in_ok-selection.field-0
    c.selection_of.ensures c.in_ok-selection.was c.in_default.is

pub returns-then-not-branch : goal.returns-then-not-branch
returns-then-not-branch c =
    method_lacks c.args.ground.now c.selection_of.new.ground c.report.new.self c.args.at c.args.of c.args.selected c.selection_of.result
    c.in_ok-selection.field-0 c.in-Some.selection c.in_ok-has_method.field-0 c.selection_of.ensures c.in_ok-selection.was c.in-Some.is
    c.in_ok-has_method.ensures c.if-not-branch.true c.report.ensures

pub returns : goal.returns
returns c =
    method_there c.args.ground.now c.selection_of.new.ground c.method_of.new.ground c.args.at c.args.of c.args.selected c.selection_of.result
    c.in_ok-selection.field-0 c.in-Some.selection c.in_ok-has_method.field-0 c.method_of.result c.selection_of.ensures c.in_ok-selection.was
    c.in-Some.is c.in_ok-has_method.ensures c.if-not-branch.false c.method_of.ensures
