use Rattle.std.proofs.Common.{◌≡◌, sym, ap, ◌∙◌, Ok}
use Rattle.go_tree.specs.declared.exprs.ExprKind.TheVariants.{CallOf}
use Rattle.go_tree.specs.declared.exprs.Values.{Values}
use Rattle.typed_parts.specs.Joining.{beside}
use Rattle.typed_parts.specs.Nodes.{node}
use Rattle.typed_parts.proofs.Turns.{first_came, second_stays}
use Rattle.typed_built_ins.proofs.Asks.{if_came}
use Rattle.typed_calls.specs.Calling.{IsCallee}
use Rattle.typed_calls.proofs.calling.call_node.Goals as goal

pub returns : goal.returns
returns c =
    let f = c.in_ok-callee.callee in
    let values = c.in_ok-callee.arguments in
    let whole : beside c.callee_of.result c.args.arguments ≡ Ok (f, values) = sym c.beside.ensures ∙ c.in_ok-callee.was in
    let is = if_came c.callee_of.result (IsCallee c.args.callee) f (first_came f values c.callee_of.result c.args.arguments whole) c.callee_of.ensures in
    let same : c.args.arguments ≡ values = second_stays f values c.callee_of.result c.args.arguments whole in
    (f, (is, c.node.ensures ∙ ap (λ (v : Values). node c.args.call.parenthesis c.args.of (CallOf f v)) (sym same)))
