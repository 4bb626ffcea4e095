use Rattle.std.proofs.Common.{◌∙◌, refl, sym, ap, Some, rules}
use Rattle.typed_operators.specs.Comparing.{IsMatchedFor}
use Rattle.typed_operators.proofs.Compared.{for_becomes, for_mismatch}
use Rattle.typed_operators.proofs.comparing.matched_for.Goals as goal

pub returns-then-tests_equality : goal.returns-then-tests_equality
returns-then-tests_equality c =
    IsMatchedFor.equal_nil c.match_compared.result (sym c.with_nil.ensures ∙ c.if-with_nil.true) (sym c.tests_equality.ensures ∙ c.if-tests_equality.true) (sym c.match_compared.ensures)

pub returns-then-with_nil : goal.returns-then-with_nil
returns-then-with_nil c =
    IsMatchedFor.ordered_nil (sym c.with_nil.ensures ∙ c.if-with_nil.true) (sym c.tests_equality.ensures ∙ c.if-tests_equality.false)

pub returns-in_err-how : goal.returns-in_err-how
returns-in_err-how c =
    for_mismatch c.args.types.now c.args.op c.args.first c.args.second c.from_residual.result c.match_compared-2.result (sym c.with_nil.ensures ∙ c.if-with_nil.false) c.match_compared-2.ensures c.in_err-how.was c.from_residual.ensures

pub returns-then-may_pass_either : goal.returns-then-may_pass_either
returns-then-may_pass_either c =
    IsMatchedFor.passes (sym c.with_nil.ensures ∙ c.if-with_nil.false) (sym c.match_compared-2.ensures ∙ (c.in_ok-how.was ∙ ap Some c.in-Typed.is)) (search rules)

pub returns-else-may_pass_either : goal.returns-else-may_pass_either
returns-else-may_pass_either c =
    IsMatchedFor.differs (sym c.with_nil.ensures ∙ c.if-with_nil.false) (sym c.match_compared-2.ensures ∙ (c.in_ok-how.was ∙ ap Some c.in-Typed.is)) (λ h. search rules) (λ h. search rules)

pub returns-in_default : goal.returns-in_default
returns-in_default c =
    for_becomes c.args.types.now c.args.op c.args.first c.args.second c.match_compared-2.result c.in_ok-how.how c.in_ok-how.how (sym c.with_nil.ensures ∙ c.if-with_nil.false) c.match_compared-2.ensures c.in_ok-how.was c.in_default.not-Typed refl
