use Rattle.std.proofs.Common.{◌≡◌, ◌∙◌, ap, sym, Some, None}
use Rattle.std.specs.Option.{option_zip}
use Rattle.go_tree.specs.declared.exprs.TypedExpr.{TypedExpr}
use Rattle.typed_parts.proofs.Turns.{nothing, nothing_came, something}
use Rattle.typed_primaries.specs.declared.slicing.Bounds.{Bounds}
use Rattle.typed_primaries.specs.Slicing.{order_broken, unbroken}
use Rattle.typed_primaries.proofs.Slices.{IsSliceOfAll, same_bounds, slices}
use Rattle.typed_primaries.proofs.slicing.slice_expression.Goals as goal

pub slice_within-requires : goal.slice_within-requires
slice_within-requires c =
    c.ask_order-ordered.ensures.holds
    ∙ ap (λ (b : Bounds). unbroken (order_broken b))
    (same_bounds c.in_ok-bounds.bounds c.in_ok-x.bounds c.in-Some.bounds c.in-Some.indexed c.in_ok-x.x c.zip.result
    c.with_text_type.result c.zip-2.result (sym c.beside-2.ensures ∙ c.in_ok-x.was) c.zip-2.ensures c.in-Some.is)

pub returns-in-Some : goal.returns-in-Some
returns-in-Some c =
    let five = c.ask_sliced-shape.new.ground in
    let new = c.slice_within.new.ground in
    let zipped : option_zip (option_zip c.in_ok-x.x c.ask_sliced-shape.result) (Some c.in_ok-x.bounds) ≡ Some (c.in-Some.indexed, c.in-Some.bounds) = cc in
    slices c.args.ground.now c.one_value-x.new.ground c.bounds_of.new.ground c.ask_order-ordered.new.ground c.with_text_type.new.ground five new
    c.args.x c.args.low c.args.high c.args.max c.one_value-x.result c.in_ok-bounds.x c.in_ok-x.x c.in_ok-bounds.bounds c.in_ok-x.bounds
    c.ask_sliced-shape.result c.bounds_of.result c.with_text_type.result c.slice_within.result
    c.one_value-x.ensures.answer c.one_value-x.ensures.broken c.bounds_of.ensures (sym c.beside.ensures ∙ c.in_ok-bounds.was)
    c.ask_order-ordered.ensures.broken c.with_text_type.ensures (sym c.beside-2.ensures ∙ c.in_ok-x.was)
    c.ask_sliced-shape.ensures.answer c.ask_sliced-shape.ensures.broken
    (something five new IsSliceOfAll (option_zip (option_zip c.in_ok-x.x c.ask_sliced-shape.result) (Some c.in_ok-x.bounds))
    (c.in-Some.indexed, c.in-Some.bounds) c.slice_within.result zipped c.slice_within.ensures)

pub returns-in-None : goal.returns-in-None
returns-in-None c =
    let five = c.ask_sliced-shape.new.ground in
    let zipped : option_zip (option_zip c.in_ok-x.x c.ask_sliced-shape.result) (Some c.in_ok-x.bounds) ≡ None = cc in
    slices c.args.ground.now c.one_value-x.new.ground c.bounds_of.new.ground c.ask_order-ordered.new.ground c.with_text_type.new.ground five five
    c.args.x c.args.low c.args.high c.args.max c.one_value-x.result c.in_ok-bounds.x c.in_ok-x.x c.in_ok-bounds.bounds c.in_ok-x.bounds
    c.ask_sliced-shape.result c.bounds_of.result c.with_text_type.result (nothing_came {A = TypedExpr})
    c.one_value-x.ensures.answer c.one_value-x.ensures.broken c.bounds_of.ensures (sym c.beside.ensures ∙ c.in_ok-bounds.was)
    c.ask_order-ordered.ensures.broken c.with_text_type.ensures (sym c.beside-2.ensures ∙ c.in_ok-x.was)
    c.ask_sliced-shape.ensures.answer c.ask_sliced-shape.ensures.broken
    (nothing five IsSliceOfAll (option_zip (option_zip c.in_ok-x.x c.ask_sliced-shape.result) (Some c.in_ok-x.bounds)) zipped)
