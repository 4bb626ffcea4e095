use Rattle.std.proofs.Common.{◌≡◌, ◌∙◌, sym, Ok}
use Rattle.go_tree.specs.declared.exprs.TypedExpr.{TypedExpr}
use Rattle.go_type.specs.declared.term.TypeTerm.TheVariants.{Pointer}
use Rattle.typed_parts.specs.Joining.{beside}
use Rattle.typed_parts.proofs.Turns.{first_came, held, second_stays}
use Rattle.typed_primaries.proofs.Stepping.{address_made}
use Rattle.typed_primaries.proofs.steps.address.Goals as goal

pub returns : goal.returns
returns c =
    let x = c.args.expr in
    let pointer = c.in_ok-pointer.pointer in
    let other = c.in_ok-pointer.expr in
    let b = c.in_ok-operand.operand in
    let whole : beside {B = TypedExpr} c.hold-pointer.result x ≡ Ok (pointer, other) = sym c.beside.ensures ∙ c.in_ok-pointer.was in
    let same : other ≡ x = sym (second_stays pointer other c.hold-pointer.result x whole) in
    address_made c.args.ground.now c.hold-pointer.new.self x pointer b c.node.result
    (held c.args.ground.now c.hold-pointer.new.self (Pointer x.of) c.hold-pointer.result pointer
    (first_came pointer other c.hold-pointer.result x whole) c.hold-pointer.ensures.named c.hold-pointer.ensures.held)
    (c.in_ok-operand.ensures ∙ same) c.node.ensures
