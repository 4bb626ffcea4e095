use Rattle.std.proofs.Common.{◌∙◌, ap, sym}
use Rattle.go_type.specs.Selector.{embedded_by, members_below}
use Rattle.go_type.specs.Sights.{summary}
use Rattle.go_type.proofs.Summaries.{numbered_turn, zero_below, next_below}
use Rattle.go_type.proofs.sights.+sights.Goals as goal

pub sight_below-returns-then-depth-eq0 : goal.sight_below-returns-then-depth-eq0
sight_below-returns-then-depth-eq0 t c = λ path.
    c.sight_here.ensures path ∙ ap summary (sym (zero_below c.args.types.now c.args.wanted c.args.of path c.args.indirect c.args.depth c.if-depth-eq0.true))

pub sight_below-returns : goal.sight_below-returns
sight_below-returns t c = λ path.
    next_below c.args.types.now c.args.wanted c.args.of path c.args.indirect c.args.depth c.sight_in_fields.result c.fields_of.result.now c.if-depth-eq0.false c.fields_of.ensures (c.sight_in_fields.ensures path)

pub sight_in_fields-loop-field-preserved : goal.sight_in_fields-loop-field-preserved
sight_in_fields-loop-field-preserved t c = λ path.
    numbered_turn (embedded_by c.args.types.now path c.args.indirect) (members_below c.args.depth c.args.types.now c.args.wanted) c.args.fields.now c.loop-field.field-index c.field-item.result
    c.loop-field.found c.and-found.result c.sight_through.result c.loop-field-test.true (c.loop-field.invariant path) c.field-item.is (c.sight_through.ensures path c.loop-field.field-index) c.and-found.ensures
