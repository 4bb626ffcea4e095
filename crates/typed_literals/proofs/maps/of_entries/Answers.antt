use Rattle.std.proofs.Common.{sym, subst, Option, Result}
use Rattle.go_base.specs.declared.memory.NoMemory.{NoMemory}
use Rattle.go_tree.specs.declared.exprs.Elements.TheVariants.{Entries}
use Rattle.go_tree.specs.declared.exprs.TypedExpr.{TypedExpr}
use Rattle.typed_parts.specs.Turning.{Turns}
use Rattle.typed_literals.specs.Composing.{IsNode}
use Rattle.typed_literals.proofs.Entries.{map_made, map_nothing}
use Rattle.typed_literals.proofs.maps.of_entries.Goals as goal

pub returns-in-Some : goal.returns-in-Some
returns-in-Some c =
    let literal = c.args.map.literal in
    let mid = c.each_entry.new.ground in
    let last = c.literal_node-expr.new.ground in
    map_made c.args.ground.now mid last c.args.map c.args.elements.items c.in_ok-entries.entries c.in-Some.entries c.sound.result
    c.in_ok-entries.ensures c.in-Some.is
    (subst (λ (r : Result (Option TypedExpr) NoMemory). Turns mid last r (IsNode literal literal.of (Entries c.in-Some.entries))) (sym c.sound.ensures) c.literal_node-expr.ensures)

pub returns-in-None : goal.returns-in-None
returns-in-None c =
    map_nothing c.args.ground.now c.each_entry.new.ground c.args.map c.args.elements.items c.in_ok-entries.entries
    c.in_ok-entries.ensures c.in-None.is
