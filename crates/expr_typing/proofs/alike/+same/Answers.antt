use Rattle.std.proofs.Common.{arith, refl, sym, ◌∙◌, ◌<◌, ◌-◌}
use Rattle.expr_typing.proofs.SameTypes.{same_deeper}
use Rattle.go_type.specs.Identity.{like_method}
use Rattle.expr_typing.specs.Alike.{like_bare_field}
use Rattle.type_bare.specs.Same.{same_to}
use Rattle.expr_typing.proofs.Pairwise.{pairs-turn, pairs-fail}
use Rattle.expr_typing.proofs.alike.+same.Goals as goal

pub are_same-returns-then-not-is_same : goal.are_same-returns-then-not-is_same
are_same-returns-then-not-is_same t c =
    sym (pairs-fail (same_to c.args.depth c.args.types.now) c.args.a.now c.args.b.now c.loop-index.index _ _ _ _
    (omega arith) (omega arith) refl refl (sym c.is_same.ensures ∙ c.if-not-is_same.true))

pub are_same-loop-index-preserved : goal.are_same-loop-index-preserved
are_same-loop-index-preserved t c =
    pairs-turn (same_to c.args.depth c.args.types.now) c.args.a.now c.args.b.now c.loop-index.index _ _ _ _
    (omega arith) (omega arith) refl refl (sym c.is_same.ensures ∙ c.if-not-is_same.false) c.loop-index.invariant

pub are_same_fields-returns-then-not-is_same_field : goal.are_same_fields-returns-then-not-is_same_field
are_same_fields-returns-then-not-is_same_field t c =
    sym (pairs-fail (like_bare_field (same_to c.args.depth c.args.types.now)) c.args.a.now c.args.b.now c.loop-index.index c.index-a-index.result _ c.index-b-index.result _
    (omega arith) (omega arith) c.index-a-index.is c.index-b-index.is (sym c.is_same_field.ensures ∙ c.if-not-is_same_field.true))

pub are_same_fields-loop-index-preserved : goal.are_same_fields-loop-index-preserved
are_same_fields-loop-index-preserved t c =
    pairs-turn (like_bare_field (same_to c.args.depth c.args.types.now)) c.args.a.now c.args.b.now c.loop-index.index c.index-a-index.result _ c.index-b-index.result _
    (omega arith) (omega arith) c.index-a-index.is c.index-b-index.is (sym c.is_same_field.ensures ∙ c.if-not-is_same_field.false) c.loop-index.invariant

pub are_same_methods-returns-then-not-is_same_method : goal.are_same_methods-returns-then-not-is_same_method
are_same_methods-returns-then-not-is_same_method t c =
    sym (pairs-fail (like_method (same_to c.args.depth c.args.types.now)) c.args.a.now c.args.b.now c.loop-index.index _ _ _ _
    (omega arith) (omega arith) refl refl (sym c.is_same_method.ensures ∙ c.if-not-is_same_method.true))

pub are_same_methods-loop-index-preserved : goal.are_same_methods-loop-index-preserved
are_same_methods-loop-index-preserved t c =
    pairs-turn (like_method (same_to c.args.depth c.args.types.now)) c.args.a.now c.args.b.now c.loop-index.index _ _ _ _
    (omega arith) (omega arith) refl refl (sym c.is_same_method.ensures ∙ c.if-not-is_same_method.false) c.loop-index.invariant

pub is_same-returns-in-Some-Some : goal.is_same-returns-in-Some-Some
is_same-returns-in-Some-Some t c =
    let pos : 0 < c.args.depth = omega (arith, c.if-depth-eq0.false) in
    same_deeper c.args.types.now c.args.a c.args.b c.in-Some-Some.a.now c.in-Some-Some.b.now c.args.depth (c.args.depth - 1) c.is_same_term.result
    (omega arith) (sym c.eq.ensures ∙ c.if-eq.false) c.in-Some-Some.ensures c.in-Some-Some.ensures' c.is_same_term.ensures
