use Rattle.typed_parts.specs.declared.meaning.Given.{Given}
use Rattle.std.proofs.Common.{subst}
use Rattle.go_base.specs.declared.ids.TypeId.{TypeId}
use Rattle.go_type.specs.declared.term.Basic.TheVariants as basic
use Rattle.go_type.specs.Table.{Table, basic_id}
use Rattle.typed_parts.specs.Judged.{Comes}
use Rattle.typed_parts.specs.Retyping.{IsAsUntyped}
use Rattle.typed_operators.specs.Shifting.{count_value}
use Rattle.typed_operators.proofs.Operating.{exact_nothing, exact_then}
use Rattle.typed_operators.proofs.shifting.shift_count.Goals as goal

pub returns-in-Some : goal.returns-in-Some
returns-in-Some c =
    exact_then c.args.ground.now c.count_value.new.ground c.as_untyped.new.ground (count_value c.args.ground.now.types c.args.y) (λ (types : Table). λ (y : Given). IsAsUntyped types (basic_id basic.Uint) y.expr) c.count_value.result c.in-Some.y
    c.as_untyped.result c.count_value.ensures.answer c.count_value.ensures.broken c.in-Some.is
    (subst (λ (to : TypeId). Comes c.count_value.new.ground c.as_untyped.new.ground c.as_untyped.result (IsAsUntyped c.count_value.new.ground.types to c.in-Some.y.expr)) c.basic.ensures c.as_untyped.ensures)

pub returns-in-None : goal.returns-in-None
returns-in-None c =
    exact_nothing c.args.ground.now c.count_value.new.ground (count_value c.args.ground.now.types c.args.y) (λ (types : Table). λ (y : Given). IsAsUntyped types (basic_id basic.Uint) y.expr) c.count_value.result c.count_value.ensures.answer
    c.count_value.ensures.broken c.in-None.is
