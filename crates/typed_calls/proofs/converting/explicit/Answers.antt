use Rattle.std.proofs.Common.{◌≡◌, ap, sym, ◌∙◌, Bool, true, false}
use Rattle.typed_parts.specs.Nodes.{node}
use Rattle.typed_parts.specs.Shapes.{is_interface}
use Rattle.typed_calls.specs.Converting.{explicit_kind}
use Rattle.typed_calls.proofs.converting.explicit.Goals as goal

pub returns-then-is_interface : goal.returns-then-is_interface
returns-then-is_interface c =
    let b = c.in_ok-operand.operand in
    let e : is_interface c.args.ground.now.types c.args.to ≡ true = sym c.is_interface.ensures ∙ c.if-is_interface.true in
    (b, (c.in_ok-operand.ensures, c.node.ensures ∙ ap (λ (i : Bool). node c.args.at c.args.to (explicit_kind i b)) (sym e)))

pub returns-else-is_interface : goal.returns-else-is_interface
returns-else-is_interface c =
    let b = c.in_ok-operand.operand in
    let e : is_interface c.args.ground.now.types c.args.to ≡ false = sym c.is_interface.ensures ∙ c.if-is_interface.false in
    (b, (c.in_ok-operand.ensures, c.node-else-is_interface.ensures ∙ ap (λ (i : Bool). node c.args.at c.args.to (explicit_kind i b)) (sym e)))
