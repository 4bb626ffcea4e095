use Rattle.std.proofs.Common.{◌≡◌, ◌∙◌, sym, ap, get_or, Some, None, arith}
use Rattle.cg_sets.specs.Embedding.{field_type, pointed}
use Rattle.cg_sets.proofs.Ways.{way_next, way_start, way_stop}
use Rattle.cg_sets.proofs.embedding.last_embedded.Goals as goal

pub loop-field-init : goal.loop-field-init
loop-field-init c = way_start c.args.types.now (pointed c.args.types.now c.args.class) c.pointed-within.result c.args.path.now c.pointed-within.ensures

pub returns-in_err-of : goal.returns-in_err-of
returns-in_err-of c =
    let types = c.args.types.now in
    c.from_residual.ensures ∙ sym (way_stop types (pointed types c.args.class) c.args.path.now c.loop-field.field-index c.loop-field.last c.loop-field.within c.loop-field-test.true c.loop-field.invariant (sym c.field_type.ensures ∙ c.in_err-of.was))

pub loop-field-preserved : goal.loop-field-preserved
loop-field-preserved c =
    let types = c.args.types.now in
    way_next types (pointed types c.args.class) c.args.path.now c.loop-field.field-index c.loop-field.last c.loop-field.within c.in_ok-of.of c.pointed-within-in-loop-field.result c.loop-field-test.true c.loop-field.invariant (sym c.field_type.ensures ∙ c.in_ok-of.was) c.pointed-within-in-loop-field.ensures
