use Rattle.std.proofs.Common.{◌≡◌, sym, ap, ◌∙◌, Option}
use Rattle.std.specs.Global.{Vec}
use Rattle.std.specs.Option.{option_zip}
use Rattle.go_tree.specs.declared.exprs.TypedExpr.{TypedExpr}
use Rattle.typed_parts.specs.Joining.{items_of}
use Rattle.typed_parts.proofs.Turns.{nothing, nothing_came, something}
use Rattle.typed_built_ins.specs.Extremes.{IsExtremeAmong, in_common}
use Rattle.typed_built_ins.proofs.Greatest.{extreme_from, matched_all, none_in_all, some_in_common}
use Rattle.typed_built_ins.proofs.extremes.extreme_of.Goals as goal

pub returns-in-Some : goal.returns-in-Some
returns-in-Some c =
    let old = c.args.ground.now in
    let new = c.with_type.new.ground in
    let common = c.common_type-common.result in
    let taken = c.ask_each-taken.result in
    let o = c.in_ok-values.values in
    extreme_from old c.ask_each-taken.new.ground c.common_type-common.new.ground new new c.args.call c.args.arguments.items taken common o c.extreme_among.result
    (cc) (cc) (matched_all c.ask_each-taken.new.ground c.common_type-common.new.ground common c.as_slice-2.result.now c.args.arguments.items c.as_slice-2.ensures.value c.common_type-common.ensures) c.in_ok-values.ensures
    (something new new (IsExtremeAmong c.args.call) (in_common common taken (items_of o)) (c.in-Some.of, c.in-Some.values.items) c.extreme_among.result
    (some_in_common common taken o c.in-Some.of c.in-Some.values (ap (λ (w : Option (Vec TypedExpr)). option_zip common.of w) (sym c.only.ensures) ∙ (sym c.zip.ensures ∙ c.in-Some.is))) c.extreme_among.ensures)

pub returns-in-None : goal.returns-in-None
returns-in-None c =
    let old = c.args.ground.now in
    let new = c.with_type.new.ground in
    let common = c.common_type-common.result in
    let taken = c.ask_each-taken.result in
    let o = c.in_ok-values.values in
    extreme_from old c.ask_each-taken.new.ground c.common_type-common.new.ground new new c.args.call c.args.arguments.items taken common o (nothing_came {A = TypedExpr})
    (cc) (cc) (matched_all c.ask_each-taken.new.ground c.common_type-common.new.ground common c.as_slice-2.result.now c.args.arguments.items c.as_slice-2.ensures.value c.common_type-common.ensures) c.in_ok-values.ensures
    (nothing new (IsExtremeAmong c.args.call) (in_common common taken (items_of o)) (none_in_all common taken o (ap (λ (w : Option (Vec TypedExpr)). option_zip common.of w) (sym c.only.ensures) ∙ (sym c.zip.ensures ∙ c.in-None.is))))
