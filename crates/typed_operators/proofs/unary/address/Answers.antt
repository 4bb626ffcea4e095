use Rattle.std.proofs.Common.{◌≡◌, sym, ◌∙◌, subst, Ok}
use Rattle.std.specs.Prelude.{IfOk}
use Rattle.go_tree.specs.declared.exprs.ExprKind.TheVariants.{AddressOf}
use Rattle.go_tree.specs.declared.exprs.TypedExpr.{TypedExpr}
use Rattle.typed_parts.specs.Joining.{beside}
use Rattle.typed_parts.proofs.Turns.{first_came, second_stays}
use Rattle.typed_operators.specs.Addressing.{IsPointerType}
use Rattle.typed_operators.specs.Made.{IsOnOne}
use Rattle.typed_operators.proofs.Addresses.{no_node, node_came, turned_of}
use Rattle.typed_operators.proofs.unary.address.Goals as goal

pub returns-in-Some : goal.returns-in-Some
returns-in-Some c =
    let old = c.args.ground.now in
    let mid = c.pointer_type.new.ground in
    let o = c.in_ok-pointer.pointer in
    let x = c.in_ok-pointer.expr in
    let whole : beside c.pointer_type.result c.args.expr ≡ Ok (o, x) = sym c.beside.ensures ∙ c.in_ok-pointer.was in
    let same : c.args.expr ≡ x = second_stays o x c.pointer_type.result c.args.expr whole in
    node_came old mid c.args.at c.args.expr o c.in-Some.pointer c.pointer_to.result c.sound.result
    (turned_of old mid (IsPointerType c.args.at c.args.expr.of) c.pointer_type.result o (first_came o x c.pointer_type.result c.args.expr whole) c.pointer_type.ensures)
    c.in-Some.is (subst (λ (e : TypedExpr). IfOk c.pointer_to.result (IsOnOne c.args.at c.in-Some.pointer AddressOf e)) (sym same) c.pointer_to.ensures) c.sound.ensures

pub returns-in-None : goal.returns-in-None
returns-in-None c =
    let old = c.args.ground.now in
    let mid = c.pointer_type.new.ground in
    let o = c.in_ok-pointer.pointer in
    let x = c.in_ok-pointer.expr in
    let whole : beside c.pointer_type.result c.args.expr ≡ Ok (o, x) = sym c.beside.ensures ∙ c.in_ok-pointer.was in
    no_node old mid c.args.at c.args.expr o c.in-None.is
    (turned_of old mid (IsPointerType c.args.at c.args.expr.of) c.pointer_type.result o (first_came o x c.pointer_type.result c.args.expr whole) c.pointer_type.ensures)
