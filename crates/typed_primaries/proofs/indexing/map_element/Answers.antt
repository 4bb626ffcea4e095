use Rattle.std.proofs.Common.{◌≡◌, ◌∙◌, sym, Some, None}
use Rattle.std.specs.Option.{option_zip}
use Rattle.go_tree.specs.declared.exprs.TypedExpr.{TypedExpr}
use Rattle.typed_parts.proofs.Turns.{came, nothing, nothing_came, something}
use Rattle.typed_primaries.proofs.Indexes.{IsMapElementOf, map_element_made, maps}
use Rattle.typed_primaries.proofs.indexing.map_element.Goals as goal

pub returns-in_default : goal.returns-in_default
returns-in_default c =
    let mid = c.assigned.new.ground in
    let zipped : option_zip c.in_ok-key.key (Some c.in_ok-key.x) ≡ None = cc in
    maps c.args.ground.now mid mid c.args.x c.in_ok-key.x c.args.i c.args.key c.args.elem c.assigned.result c.in_ok-key.key
    (nothing_came {A = TypedExpr}) c.assigned.ensures (sym c.beside.ensures ∙ c.in_ok-key.was)
    (nothing mid (IsMapElementOf c.args.elem) (option_zip c.in_ok-key.key (Some c.in_ok-key.x)) zipped)

pub returns : goal.returns
returns c =
    let mid = c.assigned.new.ground in
    let x = c.in-Some.x in
    let zipped : option_zip c.in_ok-key.key (Some c.in_ok-key.x) ≡ Some (c.in-Some.key, x) = cc in
    maps c.args.ground.now mid mid c.args.x c.in_ok-key.x c.args.i c.args.key c.args.elem c.assigned.result c.in_ok-key.key
    (came (Some c.node.result)) c.assigned.ensures (sym c.beside.ensures ∙ c.in_ok-key.was)
    (something mid mid (IsMapElementOf c.args.elem) (option_zip c.in_ok-key.key (Some c.in_ok-key.x)) (c.in-Some.key, x) (came (Some c.node.result)) zipped
    (map_element_made mid x c.args.elem c.in-Some.key c.in_ok-map.map c.in_ok-map.key c.node.result
    c.in_ok-map.ensures.first c.in_ok-map.ensures.second c.node.ensures))
