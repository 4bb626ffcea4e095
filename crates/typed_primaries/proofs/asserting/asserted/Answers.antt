use Rattle.std.proofs.Common.{◌∙◌, sym}
use Rattle.typed_primaries.proofs.Asserts.{assertion_made, assertion_refused}
use Rattle.typed_primaries.proofs.asserting.asserted.Goals as goal

pub returns-in_default : goal.returns-in_default
returns-in_default c =
    assertion_refused c.args.ground.now c.asserted_case-may.new.ground c.args.x c.args.to c.args.to_at c.asserted_case-may.result
    c.asserted_case-may.ensures.holds c.asserted_case-may.ensures.broken (sym c.only.ensures ∙ c.in_default.is)

pub returns : goal.returns
returns c =
    assertion_made c.args.ground.now c.asserted_case-may.new.ground c.args.x c.in-Some.x c.args.to c.args.to_at c.asserted_case-may.result
    c.in_ok-operand.operand c.node.result c.asserted_case-may.ensures.holds c.asserted_case-may.ensures.broken
    (sym c.only.ensures ∙ c.in-Some.is) c.in_ok-operand.ensures c.node.ensures
