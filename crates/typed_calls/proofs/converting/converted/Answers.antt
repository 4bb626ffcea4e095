use Rattle.std.proofs.Common.{refl, sym, ◌∙◌}
use Rattle.go_rules.specs.Untyped.{kind_at}
use Rattle.go_type.specs.Table.{Table}
use Rattle.typed_calls.specs.declared.converting.ConstantConversion.TheVariants as becomes
use Rattle.typed_calls.specs.Converting.{IsConvertedAs, IsValueOfKind, as_integer, text_constant}
use Rattle.typed_calls.proofs.Converts.{converted_by, made_by}
use Rattle.typed_parts.proofs.Turns.{asks, came, weaker}
use Rattle.typed_calls.proofs.converting.converted.Goals as goal

pub returns-in-Integer : goal.returns-in-Integer
returns-in-Integer c =
    let old = c.args.ground.now in
    let new = c.as_integer-value.new.ground in
    converted_by old new c.args.at c.args.to c.args.x becomes.Integer (came c.as_integer-value.result) (sym c.in-Integer.is ∙ c.constant_conversion.ensures)
    (asks old new (λ (types : Table). as_integer types c.args.at c.args.x c.args.to) c.as_integer-value.result c.as_integer-value.ensures.answer c.as_integer-value.ensures.broken)

pub returns-in-Text : goal.returns-in-Text
returns-in-Text c =
    let old = c.args.ground.now in
    converted_by old old c.args.at c.args.to c.args.x becomes.Text c.text_constant-value.result (sym c.in-Text.is ∙ c.constant_conversion.ensures)
    (made_by old (λ (types : Table). text_constant c.args.at c.args.x.expr c.args.to) c.text_constant-value.result c.text_constant-value.ensures refl)

pub returns-in-Other : goal.returns-in-Other
returns-in-Other c =
    let old = c.args.ground.now in
    let new = c.converted_value.new.ground in
    let x = c.args.x in
    converted_by old new c.args.at c.args.to x becomes.Other c.converted_value.result (sym c.in-Other.is ∙ c.constant_conversion.ensures)
    (weaker old new (IsValueOfKind (kind_at old.types x.expr.of) c.args.at x.expr c.args.to) (IsConvertedAs becomes.Other c.args.at x c.args.to) c.converted_value.result (λ one is. is) c.converted_value.ensures)
