use Rattle.std.proofs.Common.{sym, ◌∙◌, Some, None}
use Rattle.typed_calls.specs.Converting.{IsTypedConverted, IsUntypedConverted, IsValueOfKind}
use Rattle.typed_calls.proofs.Converts.{value_of_kind}
use Rattle.typed_parts.proofs.Turns.{weaker}
use Rattle.typed_calls.proofs.converting.converted_value.Goals as goal

pub returns-in-Some : goal.returns-in-Some
returns-in-Some c =
    let old = c.args.ground.now in
    let new = c.converted_untyped.new.ground in
    value_of_kind old new c.args.at c.args.to c.args.expr (Some c.in-Some.kind) c.converted_untyped.result (sym c.in-Some.is ∙ c.untyped_kind.ensures)
    (weaker old new (IsUntypedConverted c.args.at c.args.expr c.in-Some.kind c.args.to) (IsValueOfKind (Some c.in-Some.kind) c.args.at c.args.expr c.args.to) c.converted_untyped.result
    (λ one is. is) c.converted_untyped.ensures)

pub returns-in-None : goal.returns-in-None
returns-in-None c =
    let old = c.args.ground.now in
    let new = c.converted_typed.new.ground in
    value_of_kind old new c.args.at c.args.to c.args.expr None c.converted_typed.result (sym c.in-None.is ∙ c.untyped_kind.ensures)
    (weaker old new (IsTypedConverted c.args.at c.args.expr c.args.to) (IsValueOfKind None c.args.at c.args.expr c.args.to) c.converted_typed.result
    (λ one is. is) c.converted_typed.ensures)
