use Rattle.std.proofs.Common.{◌∙◌, sym}
use Rattle.std.specs.Option.{option_zip}
use Rattle.go_tree.specs.declared.exprs.TypedExpr.{TypedExpr}
use Rattle.typed_parts.proofs.Turns.{nothing, nothing_came, something}
use Rattle.typed_primaries.proofs.Asserts.{IsAssertedPair, assertion_comes}
use Rattle.typed_primaries.proofs.asserting.type_assertion.Goals as goal

pub returns-in-Some : goal.returns-in-Some
returns-in-Some c =
    let mid = c.interface_operand-x.new.ground in
    let x = c.interface_operand-x.result in
    assertion_comes c.args.ground.now mid c.asserted.new.ground c.args.x c.args.to c.args.to_at x c.asserted.result
    c.interface_operand-x.ensures.answer c.interface_operand-x.ensures.broken
    (something mid c.asserted.new.ground (IsAssertedPair c.args.to_at) (option_zip x c.args.to) (c.in-Some.x, c.in-Some.to) c.asserted.result
    (sym c.zip.ensures ∙ c.in-Some.is) c.asserted.ensures)

pub returns-in-None : goal.returns-in-None
returns-in-None c =
    let mid = c.interface_operand-x.new.ground in
    let x = c.interface_operand-x.result in
    assertion_comes c.args.ground.now mid mid c.args.x c.args.to c.args.to_at x (nothing_came {A = TypedExpr})
    c.interface_operand-x.ensures.answer c.interface_operand-x.ensures.broken
    (nothing mid (IsAssertedPair c.args.to_at) (option_zip x c.args.to) (sym c.zip.ensures ∙ c.in-None.is))
