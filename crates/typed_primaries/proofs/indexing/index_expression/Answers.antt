use Rattle.std.proofs.Common.{◌≡◌, ◌∙◌, sym, Some, None}
use Rattle.std.specs.Option.{option_zip}
use Rattle.go_tree.specs.declared.exprs.TypedExpr.{TypedExpr}
use Rattle.typed_parts.proofs.Turns.{nothing, nothing_came, something}
use Rattle.typed_primaries.proofs.Indexes.{IsElementOfAll, indexes}
use Rattle.typed_primaries.proofs.indexing.index_expression.Goals as goal

pub returns-in-Some : goal.returns-in-Some
returns-in-Some c =
    let four = c.ask_indexed-shape.new.ground in
    let new = c.element_at.new.ground in
    let zipped : option_zip (option_zip c.in_ok-x.x c.ask_indexed-shape.result) c.in_ok-x.i ≡ Some (c.in-Some.indexed, c.in-Some.i) = cc in
    indexes c.args.ground.now c.one_value-x.new.ground c.one_value-i.new.ground c.with_text_type.new.ground four new c.args.x c.args.i
    c.one_value-x.result c.one_value-i.result c.in_ok-x.x c.in_ok-x.i c.ask_indexed-shape.result c.with_text_type.result c.element_at.result
    c.one_value-x.ensures.answer c.one_value-x.ensures.broken c.one_value-i.ensures.answer c.one_value-i.ensures.broken
    c.with_text_type.ensures (sym c.beside.ensures ∙ c.in_ok-x.was) c.ask_indexed-shape.ensures.answer c.ask_indexed-shape.ensures.broken
    (something four new IsElementOfAll (option_zip (option_zip c.in_ok-x.x c.ask_indexed-shape.result) c.in_ok-x.i)
    (c.in-Some.indexed, c.in-Some.i) c.element_at.result zipped c.element_at.ensures)

pub returns-in-None : goal.returns-in-None
returns-in-None c =
    let four = c.ask_indexed-shape.new.ground in
    let zipped : option_zip (option_zip c.in_ok-x.x c.ask_indexed-shape.result) c.in_ok-x.i ≡ None = cc in
    indexes c.args.ground.now c.one_value-x.new.ground c.one_value-i.new.ground c.with_text_type.new.ground four four c.args.x c.args.i
    c.one_value-x.result c.one_value-i.result c.in_ok-x.x c.in_ok-x.i c.ask_indexed-shape.result c.with_text_type.result (nothing_came {A = TypedExpr})
    c.one_value-x.ensures.answer c.one_value-x.ensures.broken c.one_value-i.ensures.answer c.one_value-i.ensures.broken
    c.with_text_type.ensures (sym c.beside.ensures ∙ c.in_ok-x.was) c.ask_indexed-shape.ensures.answer c.ask_indexed-shape.ensures.broken
    (nothing four IsElementOfAll (option_zip (option_zip c.in_ok-x.x c.ask_indexed-shape.result) c.in_ok-x.i) zipped)
