use Rattle.std.proofs.Common.{sym, ◌∙◌}
use Rattle.go_base.specs.declared.rule.Rule.TheVariants.{BadConversion}
use Rattle.go_type.specs.Table.{Table}
use Rattle.typed_parts.specs.Judged.{breaks}
use Rattle.typed_calls.specs.declared.converting.UntypedConversion.TheVariants as how
use Rattle.typed_calls.specs.Converting.{IsThrough, IsUntypedAs}
use Rattle.typed_calls.proofs.Converts.{retyped_placed, untyped_by}
use Rattle.typed_parts.proofs.Turns.{asks, came, weaker}
use Rattle.typed_calls.proofs.converting.converted_untyped.Goals as goal

pub returns-in-Retyped : goal.returns-in-Retyped
returns-in-Retyped c =
    untyped_by c.args.ground.now c.retyped.new.ground c.args.at c.args.to c.args.expr c.args.kind how.Retyped c.placed.result (sym c.in-Retyped.is ∙ c.untyped_conversion.ensures)
    (retyped_placed c.args.ground.now c.retyped.new.ground c.args.at c.args.to c.args.expr c.retyped.result c.placed.result c.retyped.ensures c.placed.ensures)

pub returns-in-Through : goal.returns-in-Through
returns-in-Through c =
    let old = c.args.ground.now in
    let new = c.converted_through.new.ground in
    untyped_by old new c.args.at c.args.to c.args.expr c.args.kind (how.Through c.in-Through.of) c.converted_through.result (sym c.in-Through.is ∙ c.untyped_conversion.ensures)
    (weaker old new (IsThrough c.in-Through.of c.args.at c.args.to c.args.expr) (IsUntypedAs (how.Through c.in-Through.of) c.args.at c.args.expr c.args.to) c.converted_through.result
    (λ one is. is) c.converted_through.ensures)

pub returns-in-Refused : goal.returns-in-Refused
returns-in-Refused c =
    let old = c.args.ground.now in
    let new = c.refused.new.ground in
    untyped_by old new c.args.at c.args.to c.args.expr c.args.kind how.Refused (came c.refused.result) (sym c.in-Refused.is ∙ c.untyped_conversion.ensures)
    (asks old new (λ (types : Table). breaks c.args.at BadConversion) c.refused.result c.refused.ensures.answer c.refused.ensures.broken)
