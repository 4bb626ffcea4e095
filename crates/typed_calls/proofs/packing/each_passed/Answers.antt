use Rattle.std.proofs.Common.{subst, Option}
use Rattle.std.specs.Global.{Vec}
use Rattle.go_tree.specs.declared.exprs.TypedExpr.{TypedExpr}
use Rattle.typed_parts.specs.Joining.{items_of}
use Rattle.typed_parts.specs.Turning.{Soundly, Turned}
use Rattle.typed_calls.specs.Packing.{IsPacked}
use Rattle.typed_calls.proofs.Packs.{each_are_values, no_values}
use Rattle.typed_calls.proofs.packing.each_passed.Goals as goal

pub returns-in-Some : goal.returns-in-Some
returns-in-Some c =
    let mid = c.passed_each.new.ground in
    let new = c.packed_sound.new.ground in
    let o = c.in_ok-values.values in
    each_are_values c.args.ground.now mid new c.args.plan c.args.signature.now c.args.values.items o c.in-Some.values c.in_ok-values.ensures
    (subst (λ (w : Option (Vec TypedExpr)). Turned mid new (items_of w) (Soundly (IsPacked c.args.plan) (items_of o))) c.in-Some.is c.in_ok-values-2.ensures)

pub returns-in-None : goal.returns-in-None
returns-in-None c =
    let mid = c.passed_each.new.ground in
    let new = c.packed_sound.new.ground in
    let o = c.in_ok-values.values in
    no_values c.args.ground.now mid new c.args.plan c.args.signature.now c.args.values.items o c.in_ok-values.ensures
    (subst (λ (w : Option (Vec TypedExpr)). Turned mid new (items_of w) (Soundly (IsPacked c.args.plan) (items_of o))) c.in-None.is c.in_ok-values-2.ensures)
