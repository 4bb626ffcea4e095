use Rattle.std.proofs.Common.{refl, sym, subst, Result, Option, Some}
use Rattle.go_base.specs.declared.memory.NoMemory.{NoMemory}
use Rattle.go_tree.specs.declared.exprs.Method.TheVariants as method
use Rattle.go_tree.specs.declared.exprs.TypedExpr.{TypedExpr}
use Rattle.go_type.specs.declared.methods.SelectionKind.TheVariants as kind
use Rattle.go_type.specs.Table.{Table}
use Rattle.typed_parts.specs.Judged.{fine}
use Rattle.typed_parts.specs.Made.{IsOnOne}
use Rattle.typed_parts.specs.Turning.{Turns}
use Rattle.typed_parts.proofs.Turns.{asks, came}
use Rattle.typed_primaries.specs.Selecting.{IsMethodValue, value_form}
use Rattle.typed_primaries.proofs.Follows.{fine_came}
use Rattle.typed_primaries.proofs.Selects.{selected_as}
use Rattle.typed_primaries.proofs.selecting.selected_of.Goals as goal

pub returns-in-Field : goal.returns-in-Field
returns-in-Field c =
    let old = c.args.ground.now in
    selected_as old old c.args.selected c.args.kind kind.Field c.args.of c.args.expr (came (Some c.args.expr)) c.in-Field.is
    (asks old old (λ (types : Table). fine c.args.expr) (Some c.args.expr) refl refl)

pub returns-in-Method : goal.returns-in-Method
returns-in-Method c =
    selected_as c.args.ground.now c.concrete_method.new.ground c.args.selected c.args.kind (kind.Method c.in-Method.function) c.args.of c.args.expr
    c.concrete_method.result c.in-Method.is c.concrete_method.ensures

pub returns-in-InterfaceMethod : goal.returns-in-InterfaceMethod
returns-in-InterfaceMethod c =
    let old = c.args.ground.now in
    let x = c.args.expr in
    let it = c.args.selected in
    let of = c.args.of in
    selected_as old old it c.args.kind kind.InterfaceMethod of x c.sound.result c.in-InterfaceMethod.is
    (subst (λ (r : Result (Option TypedExpr) NoMemory). Turns old old r (IsMethodValue of (method.Interface it.name it.«package») x)) (sym c.sound.ensures)
    (fine_came old (λ (types : Table). IsOnOne x.at of (value_form (method.Interface it.name it.«package»)) x) c.method_value.result c.method_value.ensures))
