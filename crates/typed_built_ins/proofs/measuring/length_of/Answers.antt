use Rattle.std.proofs.Common.{◌≡◌, sym, ◌∙◌, Some}
use Rattle.go_type.specs.Table.{Table}
use Rattle.go_base.specs.declared.rule.Rule.TheVariants.{BadBuiltInCall}
use Rattle.typed_parts.specs.declared.meaning.Given.{Given}
use Rattle.typed_parts.specs.Joining.{asked}
use Rattle.typed_parts.specs.Shapes.{shape_of}
use Rattle.typed_parts.specs.Wholes.{IsTextTyped}
use Rattle.typed_built_ins.specs.Measuring.{IsLengthOf, IsMeasured, constant_length, has_length}
use Rattle.typed_parts.specs.Turning.{Asks, Keeps}
use Rattle.typed_built_ins.proofs.Moves.{measured}
use Rattle.typed_parts.proofs.Turns.{asked_test, keeps, nothing_came, then_nothing, then_soundly}
use Rattle.typed_built_ins.proofs.measuring.length_of.Goals as goal

pub returns-in_default : goal.returns-in_default
returns-in_default c =
    let old = c.args.ground.now in
    let mid = c.with_text_type.new.ground in
    then_nothing old mid (Keeps (λ (types : Table). IsTextTyped types (Some c.args.x))) (IsMeasured c.args.call) c.in_ok-x.field-0 c.in_default.is
    (keeps old mid (λ (types : Table). IsTextTyped types (Some c.args.x)) c.in_ok-x.field-0 c.in_ok-x.ensures)

pub returns-in-Some-asked : goal.returns-in-Some-asked
returns-in-Some-asked c =
    let old = c.args.ground.now in
    let mid = c.with_text_type.new.ground in
    let x = c.in-Some.x in
    then_soundly old mid c.asked.new.ground (Keeps (λ (types : Table). IsTextTyped types (Some c.args.x))) (IsMeasured c.args.call) c.in_ok-x.field-0 x
    c.length_call.result c.in-Some.is (keeps old mid (λ (types : Table). IsTextTyped types (Some c.args.x)) c.in_ok-x.field-0 c.in_ok-x.ensures)
    (measured mid c.asked.new.ground c.args.call x c.in-Some-asked.x c.shape_of-shape.result c.has_length.result c.asked.result c.length_call.result
    c.shape_of-shape.ensures c.has_length.ensures c.asked.ensures.answer c.asked.ensures.broken c.in-Some-asked.is c.length_call.ensures)

pub returns-in-None : goal.returns-in-None
returns-in-None c =
    let old = c.args.ground.now in
    let mid = c.with_text_type.new.ground in
    let x = c.in-Some.x in
    let t : has_length c.args.call.builtin (shape_of mid.types x.expr.of) ≡ c.has_length.result = cc in
    then_soundly old mid c.asked.new.ground (Keeps (λ (types : Table). IsTextTyped types (Some c.args.x))) (IsMeasured c.args.call) c.in_ok-x.field-0 x
    (nothing_came) c.in-Some.is (keeps old mid (λ (types : Table). IsTextTyped types (Some c.args.x)) c.in_ok-x.field-0 c.in_ok-x.ensures)
    (then_nothing mid c.asked.new.ground (Asks (λ (types : Table). asked x (has_length c.args.call.builtin (shape_of types x.expr.of)) BadBuiltInCall))
    (λ (z : Given). Keeps (λ (types : Table). IsLengthOf c.args.call z.expr (constant_length (shape_of types z.expr.of) z.expr))) c.asked.result c.in-None.is
    (asked_test mid c.asked.new.ground x c.has_length.result BadBuiltInCall (λ (types : Table). has_length c.args.call.builtin (shape_of types x.expr.of)) c.asked.result t
    c.asked.ensures.answer c.asked.ensures.broken))
