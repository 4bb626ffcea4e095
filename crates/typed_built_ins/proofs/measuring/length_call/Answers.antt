use Rattle.std.proofs.Common.{◌≡◌, ap, sym, ◌∙◌, ℤ, Some, None, [], ◌∷◌, false, arith}
use Rattle.std.proofs.lemmas.Int.{to_z-of_z, ints}
use Rattle.std.proofs.Common.{of_z, to_z}
use Rattle.std.specs.Int.{w128}
use Rattle.go_base.specs.declared.ids.TypeId.{TypeId}
use Rattle.go_tree.specs.declared.exprs.ExprKind.TheVariants.{ConstOf}
use Rattle.go_type.specs.declared.constants.Const.TheVariants as constant
use Rattle.go_type.specs.declared.term.Basic.TheVariants as basic
use Rattle.go_type.specs.Table.{basic_id}
use Rattle.typed_parts.specs.Nodes.{node}
use Rattle.typed_built_ins.specs.BuiltIns.{built_in_node}
use Rattle.typed_built_ins.specs.Measuring.{constant_length}
use Rattle.typed_built_ins.proofs.Asks.{vec_items}
use Rattle.typed_built_ins.proofs.Moves.{length_called, length_known}
use Rattle.typed_built_ins.proofs.measuring.length_call.Goals as goal

pub returns-in-Some : goal.returns-in-Some
returns-in-Some c =
    let plain : to_z w128 (of_z w128 c.in-Some.len) ≡ c.in-Some.len = grind (arith, ints, to_z-of_z) in
    length_known c.args.ground.now c.args.call c.args.expr (constant_length c.args.shape c.args.expr) c.in-Some.len c.length_node.result
    (sym c.constant_length.ensures ∙ c.in-Some.is)
    (c.length_node.ensures ∙ ap (λ (z : ℤ). node c.args.call.at (basic_id basic.Int) (ConstOf (constant.Int z))) plain)

pub returns-in-Some-2 : goal.returns-in-Some-2
returns-in-Some-2 c =
    let v = c.in-Some-2.arguments in
    let m : c.node.result ≡ built_in_node c.args.call (basic_id basic.Int) None v false =
    c.node.ensures ∙ ap (λ (o : TypeId). built_in_node c.args.call o None v false) c.basic.ensures in
    length_called c.args.ground.now c.args.call c.args.expr (constant_length c.args.shape c.args.expr) v c.node.result
    (sym c.constant_length.ensures ∙ c.in_default.is) (vec_items c.in_ok-arguments.field-0 v (c.args.expr ∷ []) c.in-Some-2.is c.in_ok-arguments.ensures) m
