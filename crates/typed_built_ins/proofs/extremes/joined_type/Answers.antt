use Rattle.std.proofs.Common.{◌≡◌, refl, sym, ap, ◌∙◌, subst, Some, None, Option, rules}
use Rattle.go_base.specs.declared.ids.TypeId.{TypeId}
use Rattle.go_rules.specs.Untyped.{kind_at}
use Rattle.typed_built_ins.specs.Extremes.{IsJoined}
use Rattle.typed_built_ins.proofs.Greatest.{no_default}
use Rattle.typed_built_ins.proofs.extremes.joined_type.Goals as goal

pub returns-in_err-match_types : goal.returns-in_err-match_types
returns-in_err-match_types c =
    subst (λ (o : Option TypeId). IsJoined c.args.types.now c.args.first c.args.second o) (sym c.from_residual.ensures) (IsJoined.mismatch (sym c.match_types.ensures ∙ c.in_err-match_types.was))

pub returns-then-identical : goal.returns-then-identical
returns-then-identical c = IsJoined.alike (sym c.match_types.ensures ∙ (c.in_ok-match_types.was ∙ ap Some c.in-Typed.is)) (search rules)

pub returns-else-identical : goal.returns-else-identical
returns-else-identical c = IsJoined.differ (sym c.match_types.ensures ∙ (c.in_ok-match_types.was ∙ ap Some c.in-Typed.is)) (search rules)

pub returns-in-Untyped : goal.returns-in-Untyped
returns-in-Untyped c =
    subst (λ (of : TypeId). IsJoined c.args.types.now c.args.first c.args.second (Some of)) (sym c.type_id.ensures)
    (IsJoined.kinds c.in-Untyped.kind (sym c.match_types.ensures ∙ (c.in_ok-match_types.was ∙ ap Some c.in-Untyped.is)))

pub returns-in-FirstConverted : goal.returns-in-FirstConverted
returns-in-FirstConverted c = IsJoined.first (sym c.match_types.ensures ∙ (c.in_ok-match_types.was ∙ ap Some c.in-FirstConverted.is))

pub returns-in-SecondConverted : goal.returns-in-SecondConverted
returns-in-SecondConverted c = IsJoined.second (sym c.match_types.ensures ∙ (c.in_ok-match_types.was ∙ ap Some c.in-SecondConverted.is))

pub returns-in_default : goal.returns-in_default
returns-in_default c =
    let types = c.args.types.now in
    absurd
    (no_default types (kind_at types c.args.first) (kind_at types c.args.second) c.args.first c.args.second c.in_ok-match_types.field-0
    (sym c.match_types.ensures ∙ c.in_ok-match_types.was) c.in_default.not-Typed c.in_default.not-Untyped c.in_default.not-FirstConverted c.in_default.not-SecondConverted)
