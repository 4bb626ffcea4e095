use Rattle.std.proofs.Common.{refl, [], None, false, Some}
use Rattle.go_base.specs.declared.ids.TypeId.{TypeId}
use Rattle.go_type.specs.declared.term.TypeTerm.TheVariants.{Interface}
use Rattle.typed_built_ins.specs.BuiltIns.{IsCallNode}
use Rattle.typed_built_ins.proofs.Asks.{node_made}
use Rattle.typed_parts.proofs.Turns.{came, held, then_soundly}
use Rattle.typed_built_ins.proofs.built_ins.recovered.Goals as goal
use Rattle.typed_parts.specs.Turning.{IsHeld}

pub returns : goal.returns
returns c =
    let mid = c.any_type.new.self in
    let any = c.in_ok-any.any in
    then_soundly c.args.ground.now mid mid (IsHeld (Interface [])) (λ (of : TypeId). IsCallNode c.args.call of None [] false) (Some any) any
    (came (Some c.node.result)) refl
    (held c.args.ground.now mid (Interface []) c.any_type.result any c.in_ok-any.was c.any_type.ensures.named c.any_type.ensures.held)
    (node_made mid c.args.call any None [] false c.new.result c.node.result c.new.ensures.items c.node.ensures)
