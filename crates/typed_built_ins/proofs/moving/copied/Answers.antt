use Rattle.std.proofs.Common.{◌≡◌, ap, sym, ◌∙◌, Ok, Some, None, [], ◌∷◌, false, subst, Option}
use Rattle.std.specs.Option.{option_zip}
use Rattle.go_base.specs.declared.ids.TypeId.{TypeId}
use Rattle.go_tree.specs.declared.exprs.TypedExpr.{TypedExpr}
use Rattle.go_type.specs.declared.term.Basic.TheVariants as basic
use Rattle.go_type.specs.Table.{basic_id}
use Rattle.typed_parts.specs.declared.meaning.Given.{Given}
use Rattle.typed_parts.specs.Joining.{beside}
use Rattle.typed_parts.specs.Wholes.{IsTextTyped}
use Rattle.typed_built_ins.specs.BuiltIns.{built_in_node}
use Rattle.typed_built_ins.specs.Moving.{IsCopy, IsCopyOf}
use Rattle.typed_parts.specs.Turning.{Turns}
use Rattle.typed_built_ins.proofs.Asks.{node_made, vec_items}
use Rattle.typed_built_ins.proofs.Moves.{copies}
use Rattle.typed_parts.proofs.Turns.{came, first_came, nothing, nothing_came, outcome_of, second_stays, something}
use Rattle.typed_built_ins.proofs.moving.copied.Goals as goal

pub returns-in_default : goal.returns-in_default
returns-in_default c =
    let old = c.args.ground.now in
    let mid = c.with_text_type.new.ground in
    let last = c.copied_to-to.new.ground in
    let new = c.copied_from-from.new.ground in
    let source = c.in_ok-from.from in
    let to = c.in_ok-from.to in
    let whole : beside c.with_text_type.result c.args.to ≡ Ok (source, to) = sym c.beside.ensures ∙ c.in_ok-from.was in
    let same : c.args.to ≡ to = second_stays source to c.with_text_type.result c.args.to whole in
    subst (λ (t : Option Given). Turns old new (nothing_came {A = TypedExpr}) (IsCopy c.args.call t c.args.from)) (sym same)
    (copies old mid last new c.args.call to c.args.from source c.copied_to-to.result c.copied_from-from.result (nothing_came {A = TypedExpr})
    (outcome_of old mid (IsTextTyped old.types c.args.from) c.with_text_type.result source (first_came source to c.with_text_type.result c.args.to whole) c.with_text_type.ensures)
    c.copied_to-to.ensures.answer c.copied_to-to.ensures.broken c.copied_from-from.ensures
    (nothing new (IsCopyOf c.args.call) (option_zip c.copied_to-to.result c.copied_from-from.result) (sym c.zip.ensures ∙ c.in_default.is)))

pub returns-in-Some-2 : goal.returns-in-Some-2
returns-in-Some-2 c =
    let old = c.args.ground.now in
    let mid = c.with_text_type.new.ground in
    let last = c.copied_to-to.new.ground in
    let new = c.copied_from-from.new.ground in
    let source = c.in_ok-from.from in
    let to = c.in_ok-from.to in
    let v = c.in-Some-2.arguments in
    let whole : beside c.with_text_type.result c.args.to ≡ Ok (source, to) = sym c.beside.ensures ∙ c.in_ok-from.was in
    let same : c.args.to ≡ to = second_stays source to c.with_text_type.result c.args.to whole in
    let m : c.node.result ≡ built_in_node c.args.call (basic_id basic.Int) None v false =
    c.node.ensures ∙ ap (λ (o : TypeId). built_in_node c.args.call o None v false) c.basic.ensures in
    subst (λ (t : Option Given). Turns old new (came (Some c.node.result)) (IsCopy c.args.call t c.args.from)) (sym same)
    (copies old mid last new c.args.call to c.args.from source c.copied_to-to.result c.copied_from-from.result (came (Some c.node.result))
    (outcome_of old mid (IsTextTyped old.types c.args.from) c.with_text_type.result source (first_came source to c.with_text_type.result c.args.to whole) c.with_text_type.ensures)
    c.copied_to-to.ensures.answer c.copied_to-to.ensures.broken c.copied_from-from.ensures
    (something new new (IsCopyOf c.args.call) (option_zip c.copied_to-to.result c.copied_from-from.result) (c.in-Some.to, c.in-Some.from) (came (Some c.node.result))
    (sym c.zip.ensures ∙ c.in-Some.is)
    (node_made new c.args.call (basic_id basic.Int) None (c.in-Some.to.expr ∷ c.in-Some.from.expr ∷ []) false v c.node.result
    (vec_items c.in_ok-arguments.field-0 v (c.in-Some.to.expr ∷ c.in-Some.from.expr ∷ []) c.in-Some-2.is c.in_ok-arguments.ensures) m)))
