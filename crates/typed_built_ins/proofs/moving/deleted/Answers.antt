use Rattle.std.proofs.Common.{◌≡◌, sym, ◌∙◌, Ok, [], ◌∷◌}
use Rattle.go_tree.specs.declared.exprs.TypedExpr.{TypedExpr}
use Rattle.typed_parts.specs.Joining.{beside}
use Rattle.std.specs.Option.{option_zip}
use Rattle.typed_built_ins.specs.BuiltIns.{IsAction}
use Rattle.typed_built_ins.specs.Moving.{IsDeletion}
use Rattle.typed_built_ins.proofs.Asks.{listed_rule}
use Rattle.typed_built_ins.proofs.Moves.{deletes}
use Rattle.typed_parts.proofs.Turns.{nothing, nothing_came, something}
use Rattle.typed_built_ins.proofs.moving.deleted.Goals as goal

pub returns-in_default : goal.returns-in_default
returns-in_default c =
    let last = c.assigned.new.ground in
    deletes c.args.ground.now c.deleted_from-map.new.ground last last c.args.call c.args.map c.args.key c.deleted_from-map.result c.key_type-of.result c.assigned.result
    c.in_ok-key.key c.in_ok-key.map nothing_came c.deleted_from-map.ensures.answer c.deleted_from-map.ensures.broken c.key_type-of.ensures c.assigned.ensures
    (sym c.beside.ensures ∙ c.in_ok-key.was)
    (nothing last (IsDeletion c.args.call) (option_zip c.in_ok-key.map c.in_ok-key.key) (sym c.zip.ensures ∙ c.in_default.is))

pub returns : goal.returns
returns c =
    let last = c.assigned.new.ground in
    deletes c.args.ground.now c.deleted_from-map.new.ground last c.action.new.ground c.args.call c.args.map c.args.key c.deleted_from-map.result c.key_type-of.result c.assigned.result
    c.in_ok-key.key c.in_ok-key.map c.action.result c.deleted_from-map.ensures.answer c.deleted_from-map.ensures.broken c.key_type-of.ensures c.assigned.ensures
    (sym c.beside.ensures ∙ c.in_ok-key.was)
    (something last c.action.new.ground (IsDeletion c.args.call) (option_zip c.in_ok-key.map c.in_ok-key.key) (c.in-Some.map, c.in-Some.key) c.action.result
    (sym c.zip.ensures ∙ c.in-Some.is)
    (listed_rule last c.action.new.ground (IsAction c.args.call) c.in_ok-arguments.arguments (c.in-Some.map.expr ∷ c.in-Some.key ∷ []) c.action.result c.in_ok-arguments.ensures c.action.ensures))
