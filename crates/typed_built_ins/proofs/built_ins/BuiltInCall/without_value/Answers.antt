use Rattle.std.proofs.Common.{◌≡◌, sym, ◌∙◌, refl, ap, [], None, false, Some, Ok}
use Rattle.go_base.specs.declared.ids.TypeId.{TypeId}
use Rattle.go_type.specs.declared.term.TypeTerm.TheVariants.{Tuple}
use Rattle.typed_parts.specs.Joining.{beside}
use Rattle.typed_built_ins.specs.BuiltIns.{IsCallNode, built_in_node}
use Rattle.typed_built_ins.proofs.Asks.{node_made}
use Rattle.typed_parts.proofs.Turns.{came, first_came, held, second_stays, then_soundly}
use Rattle.typed_built_ins.proofs.built_ins.BuiltInCall.without_value.Goals as goal
use Rattle.typed_parts.specs.Turning.{IsHeld}

pub returns : goal.returns
returns c =
    let old = c.args.ground.now in
    let mid = c.tuple.new.self in
    let nothing = c.in_ok-nothing.nothing in
    let v = c.in_ok-nothing.arguments in
    let whole : beside c.tuple.result c.args.arguments ≡ Ok (nothing, v) = sym c.beside.ensures ∙ c.in_ok-nothing.was in
    then_soundly old mid mid (IsHeld (Tuple [])) (λ (of : TypeId). IsCallNode c.args.self of None c.args.arguments.items false) (Some nothing) nothing
    (came (Some c.node.result)) refl
    (held old mid (Tuple []) c.tuple.result nothing (first_came nothing v c.tuple.result c.args.arguments whole) c.tuple.ensures.named c.tuple.ensures.held)
    (node_made mid c.args.self nothing None c.args.arguments.items false v c.node.result (sym (ap (λ u. u.items) (second_stays nothing v c.tuple.result c.args.arguments whole))) c.node.ensures)
