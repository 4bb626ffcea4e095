use Rattle.std.proofs.Common.{◌∙◌, refl, sym, ap, Some, rules}
use Rattle.typed_operators.specs.Binary.{IsMatchedAlike}
use Rattle.typed_operators.proofs.Paired.{alike_becomes, alike_mismatch}
use Rattle.typed_operators.proofs.binary.matched_alike.Goals as goal

pub returns-in_err-how : goal.returns-in_err-how
returns-in_err-how c =
    alike_mismatch c.args.types.now c.args.first c.args.second c.from_residual.result c.match_types.result c.match_types.ensures c.in_err-how.was c.from_residual.ensures

pub returns-then-identical : goal.returns-then-identical
returns-then-identical c =
    IsMatchedAlike.alike (sym c.match_types.ensures ∙ (c.in_ok-how.was ∙ ap Some c.in-Typed.is)) (search rules)

pub returns-else-identical : goal.returns-else-identical
returns-else-identical c =
    IsMatchedAlike.differ (sym c.match_types.ensures ∙ (c.in_ok-how.was ∙ ap Some c.in-Typed.is)) (search rules)

pub returns-in_default : goal.returns-in_default
returns-in_default c =
    alike_becomes c.args.types.now c.args.first c.args.second c.match_types.result c.in_ok-how.how c.in_ok-how.how c.match_types.ensures c.in_ok-how.was c.in_default.not-Typed refl
