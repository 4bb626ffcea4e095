use Rattle.std.proofs.Common.{◌∙◌, sym, ap, false, refl, ◌++◌, ◌∷◌, []}
use Rattle.std.proofs.lemmas.Result.{IfOk-weaker}
use Rattle.go_value.proofs.ZeroTo.{deeper, leaf_zero, struct_zero, tuple_zero, array_zero, empty_zero, first_part, next_part, last_part}
use Rattle.go_type.specs.Table.{is_name}
use Rattle.go_value.specs.Values.{parts, parts_of, value_of}
use Rattle.go_value.specs.Zeros.{zero_to}
use Rattle.go_value.proofs.zeros.+zero.Goals as goal

pub zero_within-returns-in-Some : goal.zero_within-returns-in-Some
zero_within-returns-in-Some t c =
    IfOk-weaker c.zero_leaf.result _ _ (λ zero h. deeper c.args.depth c.args.types.now c.args.blank c.args.of c.in-Some.term.now _ c.if-depth-eq0.false c.in-Some.ensures.term (leaf_zero _ _ _ _ h)) c.zero_leaf.ensures

pub zero_within-returns-in-Some-Struct : goal.zero_within-returns-in-Some-Struct
zero_within-returns-in-Some-Struct t c =
    IfOk-weaker c.zero_fields.result _ _ (λ zero h. struct_zero c.args.depth c.args.types.now c.args.blank c.args.of _ _ c.if-depth-eq0.false c.in-Some-Struct.ensures.term _ _ c.in-Some-Struct.field-0-is c.as_slice.ensures h) c.zero_fields.ensures

pub zero_within-returns-in-Some-Tuple : goal.zero_within-returns-in-Some-Tuple
zero_within-returns-in-Some-Tuple t c =
    IfOk-weaker c.zero_parts.result _ _ (λ zero h. tuple_zero c.args.depth c.args.types.now c.args.blank c.args.of _ _ c.if-depth-eq0.false c.in-Some-Tuple.ensures.term _ _ c.in-Some-Tuple.field-0-is c.as_slice-in-Some-Tuple.ensures h) c.zero_parts.ensures

pub zero_within-returns-in_ok-zero-in-Some-Array : goal.zero_within-returns-in_ok-zero-in-Some-Array
zero_within-returns-in_ok-zero-in-Some-Array t c =
    IfOk-weaker c.repeated.result _ _ (λ zero h. array_zero c.args.depth c.args.types.now c.args.blank c.args.of _ _ c.if-depth-eq0.false c.in-Some-Array.ensures.term _ _ _ c.in-Some-Array.field-0-is c.in-Some-Array.len-test.1 c.in_ok-zero-in-Some-Array.ensures h) c.repeated.ensures

pub zero_within-returns-in-Some-Array-eq0-default : goal.zero_within-returns-in-Some-Array-eq0-default
zero_within-returns-in-Some-Array-eq0-default t c =
    IfOk-weaker c.parts.result _ _ (λ zero h. empty_zero c.args.depth c.args.types.now c.args.blank c.args.of _ _ c.if-depth-eq0.false c.in-Some-Array-eq0-default.ensures.term _ _ c.in-Some-Array-eq0-default.field-0-is c.in-Some-Array-eq0-default.field-0-0-test (h ∙ ap (λ l. parts (parts_of l)) c.new.ensures.items)) c.parts.ensures

pub zero_fields-loop-field-init : goal.zero_fields-loop-field-init
zero_fields-loop-field-init t c =
    first_part (λ field. zero_to c.args.depth c.args.types.now c.args.blank field.of) (λ field. is_name c.args.blank field.name) c.args.fields.now c.new-parts.result.items c.new-parts.ensures.items

pub zero_fields-loop-field-preserved : goal.zero_fields-loop-field-preserved
zero_fields-loop-field-preserved t c =
    next_part (λ field. zero_to c.args.depth c.args.types.now c.args.blank field.of) (λ field. is_name c.args.blank field.name) c.args.fields.now c.loop-field.parts.items _ c.loop-field.field-index _ c.field-item.result (value_of c.in_ok-value.value) _ c.loop-field.invariant c.loop-field-test.true c.field-item.is c.in_ok-value.ensures (sym c.is_named.ensures) c.in_ok-push.ensures.items

pub zero_fields-returns : goal.zero_fields-returns
zero_fields-returns t c =
    IfOk-weaker c.parts.result _ _
    (λ it h. last_part (λ field. zero_to c.args.depth c.args.types.now c.args.blank field.of) (λ field. is_name c.args.blank field.name) c.args.fields.now c.loop-field.parts.items c.loop-field.field-index (value_of it) c.loop-field.invariant c.loop-field-test.false h)
    c.parts.ensures

pub zero_parts-loop-id-init : goal.zero_parts-loop-id-init
zero_parts-loop-id-init t c =
    first_part (zero_to c.args.depth c.args.types.now c.args.blank) (λ _. false) c.args.ids.now c.new-parts.result.items c.new-parts.ensures.items

pub zero_parts-loop-id-preserved : goal.zero_parts-loop-id-preserved
zero_parts-loop-id-preserved t c =
    next_part (zero_to c.args.depth c.args.types.now c.args.blank) (λ _. false) c.args.ids.now c.loop-id.parts.items _ c.loop-id.id-index _ _ (value_of c.in_ok-value.value) _ c.loop-id.invariant c.loop-id-test.true refl c.in_ok-value.ensures refl (c.in_ok-push.ensures.items ∙ ap (λ p. c.loop-id.parts.items ++ p ∷ []) c.plain.ensures)

pub zero_parts-returns : goal.zero_parts-returns
zero_parts-returns t c =
    IfOk-weaker c.parts.result _ _
    (λ it h. last_part (zero_to c.args.depth c.args.types.now c.args.blank) (λ _. false) c.args.ids.now c.loop-id.parts.items c.loop-id.id-index (value_of it) c.loop-id.invariant c.loop-id-test.false h)
    c.parts.ensures
