use Rattle.std.proofs.Common.{◌≡◌, sym, ◌∙◌, subst, Ok}
use Rattle.std.specs.Prelude.{IfOk}
use Rattle.go_tree.specs.declared.exprs.TypedExpr.{TypedExpr}
use Rattle.go_type.specs.declared.term.TypeTerm.TheVariants.{Pointer}
use Rattle.typed_parts.specs.Adapting.{IsMade}
use Rattle.typed_parts.specs.Joining.{beside}
use Rattle.typed_parts.proofs.Turns.{first_came, held, second_stays}
use Rattle.typed_literals.specs.Composing.{composite}
use Rattle.typed_literals.proofs.Composes.{node_address, node_plain}
use Rattle.typed_literals.proofs.composing.literal_node.Goals as goal

pub returns-in_default : goal.returns-in_default
returns-in_default c =
    node_plain c.args.ground.now c.args.literal.pointer c.args.literal.brace (composite c.args.literal.brace c.args.of c.args.elements) c.node-composite.result
    c.in_default.is c.node-composite.ensures

pub returns : goal.returns
returns c =
    let old = c.args.ground.now in
    let mid = c.hold.new.self in
    let brace = c.args.literal.brace in
    let literal = composite brace c.args.of c.args.elements in
    let id = c.in_ok-pointer.pointer in
    let whole : beside c.hold.result c.node-composite.result ≡ Ok (id, c.in_ok-pointer.composite) = sym c.beside.ensures ∙ c.in_ok-pointer.was in
    let same : c.in_ok-pointer.composite ≡ literal = sym (second_stays id c.in_ok-pointer.composite c.hold.result c.node-composite.result whole) ∙ c.node-composite.ensures in
    let is_made = subst (λ (x : TypedExpr). IfOk c.made.result (IsMade mid.types x c.in-Some.to)) c.node.ensures c.made.ensures in
    node_address old mid c.args.literal.pointer c.in-Some.to id brace literal c.in_ok-operand.operand c.made.result c.in-Some.is
    (held old mid (Pointer c.args.of) c.hold.result id (first_came id c.in_ok-pointer.composite c.hold.result c.node-composite.result whole) c.hold.ensures.named c.hold.ensures.held)
    (c.in_ok-operand.ensures ∙ same) is_made
