use Rattle.std.proofs.Common.{◌≡◌, ◌∷◌, [], ◌∙◌, List, refl, sym, ap, subst, append_assoc, append-nil, arith, rules, Some}
use Rattle.std.proofs.Common.{length}
use Rattle.std.proofs.lemmas.List.{nil_from_length}
use Rattle.std.specs.Vec.Iter.{into_iter_items}
use Rattle.go_tree.specs.declared.exprs.ExprKind.{ExprKind}
use Rattle.go_tree.specs.declared.exprs.ExprKind.TheVariants as kinds
use Rattle.go_tree.specs.declared.exprs.TypedExpr.{TypedExpr}
use Rattle.typed_parts.specs.Joining.{items_of}
use Rattle.typed_parts.specs.Judged.{Outcome}
use Rattle.typed_parts.specs.Retyping.{AreRetyped}
use Rattle.typed_parts.proofs.Steps.{came}
use Rattle.typed_parts.proofs.Arms.{of_parts, unboxed, constant_comes, nil_comes, comparison_comes, unary_comes, and_comes, or_comes}
use Rattle.typed_parts.proofs.Arms.{arithmetic_comes, shift_comes, built_in_comes, each_none, each_more, shifted_integer, shifted_other}
use Rattle.typed_parts.proofs.retyping.+retyping.Goals as goal

pub retyped-returns-in-ConstOf : goal.retyped-returns-in-ConstOf
retyped-returns-in-ConstOf t c =
    of_parts c.args.ground.now c.retyped_constant.new.ground c.args.to c.args.expr c.into_parts-kind.result.0 c.into_parts-kind.result.2 (kinds.ConstOf c.in-ConstOf.value) (came c.retyped_constant.result)
    c.into_parts-kind.ensures.at c.into_parts-kind.ensures.kind c.in-ConstOf.is
    (constant_comes c.args.ground.now c.retyped_constant.new.ground c.args.to c.into_parts-kind.result.0 c.in-ConstOf.value c.retyped_constant.result c.retyped_constant.ensures.answer c.retyped_constant.ensures.broken)

pub retyped-returns-in-NilOf : goal.retyped-returns-in-NilOf
retyped-returns-in-NilOf t c =
    of_parts c.args.ground.now c.args.ground.now c.args.to c.args.expr c.into_parts-kind.result.0 c.into_parts-kind.result.2 (ExprKind.NilOf) (came (Some c.node.result))
    c.into_parts-kind.ensures.at c.into_parts-kind.ensures.kind c.in-NilOf.is
    (nil_comes c.args.ground.now c.args.to c.into_parts-kind.result.0 c.node.result c.node.ensures)

pub retyped-returns-in-CompareOf : goal.retyped-returns-in-CompareOf
retyped-returns-in-CompareOf t c =
    of_parts c.args.ground.now c.args.ground.now c.args.to c.args.expr c.into_parts-kind.result.0 c.into_parts-kind.result.2 (kinds.CompareOf c.in-CompareOf.op c.in-CompareOf.left c.in-CompareOf.right) (came (Some c.node-in-CompareOf.result))
    c.into_parts-kind.ensures.at c.into_parts-kind.ensures.kind c.in-CompareOf.is
    (comparison_comes c.args.ground.now c.args.to c.into_parts-kind.result.0 c.node-in-CompareOf.result c.in-CompareOf.op c.in-CompareOf.left c.in-CompareOf.right c.node-in-CompareOf.ensures)

pub retyped-returns-in-UnaryOf : goal.retyped-returns-in-UnaryOf
retyped-returns-in-UnaryOf t c =
    of_parts c.args.ground.now c.retyped-operand.new.ground c.args.to c.args.expr c.into_parts-kind.result.0 c.into_parts-kind.result.2 (kinds.UnaryOf c.in-UnaryOf.op c.in-UnaryOf.operand) c.unary_of.result
    c.into_parts-kind.ensures.at c.into_parts-kind.ensures.kind c.in-UnaryOf.is
    (unary_comes c.args.ground.now c.retyped-operand.new.ground c.args.to c.into_parts-kind.result.0 c.in-UnaryOf.op c.in-UnaryOf.operand c.retyped-operand.result c.unary_of.result
    (unboxed c.args.ground.now c.retyped-operand.new.ground c.args.to c.in-UnaryOf.operand c.into_inner.result c.retyped-operand.result c.into_inner.ensures c.retyped-operand.ensures) c.unary_of.ensures)

pub retyped-returns-in-AndAlso : goal.retyped-returns-in-AndAlso
retyped-returns-in-AndAlso t c =
    of_parts c.args.ground.now c.retyped-right.new.ground c.args.to c.args.expr c.into_parts-kind.result.0 c.into_parts-kind.result.2 (kinds.AndAlso c.in-AndAlso.left c.in-AndAlso.right) c.and_also.result
    c.into_parts-kind.ensures.at c.into_parts-kind.ensures.kind c.in-AndAlso.is
    (and_comes c.args.ground.now c.retyped-left.new.ground c.retyped-right.new.ground c.args.to c.into_parts-kind.result.0 c.in-AndAlso.left c.in-AndAlso.right c.retyped-left.result c.retyped-right.result c.and_also.result
    (unboxed c.args.ground.now c.retyped-left.new.ground c.args.to c.in-AndAlso.left c.into_inner-in-AndAlso.result c.retyped-left.result c.into_inner-in-AndAlso.ensures c.retyped-left.ensures)
    (unboxed c.retyped-left.new.ground c.retyped-right.new.ground c.args.to c.in-AndAlso.right c.into_inner-in-AndAlso-2.result c.retyped-right.result c.into_inner-in-AndAlso-2.ensures c.retyped-right.ensures) c.and_also.ensures)

pub retyped-returns-in-OrElse : goal.retyped-returns-in-OrElse
retyped-returns-in-OrElse t c =
    of_parts c.args.ground.now c.retyped-right-in-OrElse.new.ground c.args.to c.args.expr c.into_parts-kind.result.0 c.into_parts-kind.result.2 (kinds.OrElse c.in-OrElse.left c.in-OrElse.right) c.or_else.result
    c.into_parts-kind.ensures.at c.into_parts-kind.ensures.kind c.in-OrElse.is
    (or_comes c.args.ground.now c.retyped-left-in-OrElse.new.ground c.retyped-right-in-OrElse.new.ground c.args.to c.into_parts-kind.result.0 c.in-OrElse.left c.in-OrElse.right c.retyped-left-in-OrElse.result c.retyped-right-in-OrElse.result c.or_else.result
    (unboxed c.args.ground.now c.retyped-left-in-OrElse.new.ground c.args.to c.in-OrElse.left c.into_inner-in-OrElse.result c.retyped-left-in-OrElse.result c.into_inner-in-OrElse.ensures c.retyped-left-in-OrElse.ensures)
    (unboxed c.retyped-left-in-OrElse.new.ground c.retyped-right-in-OrElse.new.ground c.args.to c.in-OrElse.right c.into_inner-in-OrElse-2.result c.retyped-right-in-OrElse.result c.into_inner-in-OrElse-2.ensures c.retyped-right-in-OrElse.ensures) c.or_else.ensures)

pub retyped-returns-else-is_shift : goal.retyped-returns-else-is_shift
retyped-returns-else-is_shift t c =
    of_parts c.args.ground.now c.retyped-right-else-is_shift.new.ground c.args.to c.args.expr c.into_parts-kind.result.0 c.into_parts-kind.result.2 (kinds.BinaryOf c.in-BinaryOf.op c.in-BinaryOf.left c.in-BinaryOf.right) c.binary_of.result
    c.into_parts-kind.ensures.at c.into_parts-kind.ensures.kind c.in-BinaryOf.is
    (arithmetic_comes c.args.ground.now c.retyped-left-else-is_shift.new.ground c.retyped-right-else-is_shift.new.ground c.args.to c.into_parts-kind.result.0 c.in-BinaryOf.op c.in-BinaryOf.left c.in-BinaryOf.right c.retyped-left-else-is_shift.result c.retyped-right-else-is_shift.result c.binary_of.result
    (sym c.is_shift.ensures ∙ c.if-is_shift.false)
    (unboxed c.args.ground.now c.retyped-left-else-is_shift.new.ground c.args.to c.in-BinaryOf.left c.into_inner-else-is_shift.result c.retyped-left-else-is_shift.result c.into_inner-else-is_shift.ensures c.retyped-left-else-is_shift.ensures)
    (unboxed c.retyped-left-else-is_shift.new.ground c.retyped-right-else-is_shift.new.ground c.args.to c.in-BinaryOf.right c.into_inner-else-is_shift-2.result c.retyped-right-else-is_shift.result c.into_inner-else-is_shift-2.ensures c.retyped-right-else-is_shift.ensures) c.binary_of.ensures)

pub retyped-returns-then-is_shift : goal.retyped-returns-then-is_shift
retyped-returns-then-is_shift t c =
    of_parts c.args.ground.now c.retyped_shifted-left.new.ground c.args.to c.args.expr c.into_parts-kind.result.0 c.into_parts-kind.result.2 (kinds.BinaryOf c.in-BinaryOf.op c.in-BinaryOf.left c.in-BinaryOf.right) c.shift_of.result
    c.into_parts-kind.ensures.at c.into_parts-kind.ensures.kind c.in-BinaryOf.is
    (shift_comes c.args.ground.now c.retyped_shifted-left.new.ground c.args.to c.into_parts-kind.result.0 c.in-BinaryOf.op c.in-BinaryOf.left c.in-BinaryOf.right c.retyped_shifted-left.result c.shift_of.result
    (sym c.is_shift.ensures ∙ c.if-is_shift.true) c.retyped_shifted-left.ensures c.shift_of.ensures)

pub retyped-returns-in-BuiltinOf : goal.retyped-returns-in-BuiltinOf
retyped-returns-in-BuiltinOf t c =
    of_parts c.args.ground.now c.retyped_each-arguments.new.ground c.args.to c.args.expr c.into_parts-kind.result.0 c.into_parts-kind.result.2 (kinds.BuiltinOf c.in-BuiltinOf.builtin c.in-BuiltinOf.form c.in-BuiltinOf.arguments c.in-BuiltinOf.spread) c.built_in_of.result
    c.into_parts-kind.ensures.at c.into_parts-kind.ensures.kind c.in-BuiltinOf.is
    (built_in_comes c.args.ground.now c.retyped_each-arguments.new.ground c.args.to c.into_parts-kind.result.0 c.in-BuiltinOf.builtin c.in-BuiltinOf.form c.in-BuiltinOf.arguments c.in-BuiltinOf.spread c.retyped_each-arguments.result c.built_in_of.result
    c.retyped_each-arguments.ensures c.built_in_of.ensures)

pub retyped_shifted-returns-then-kind_fits : goal.retyped_shifted-returns-then-kind_fits
retyped_shifted-returns-then-kind_fits t c =
    shifted_integer c.args.ground.now c.retyped.new.ground c.args.to c.args.left.value c.retyped.result (sym c.kind_fits.ensures ∙ c.if-kind_fits.true)
    (unboxed c.args.ground.now c.retyped.new.ground c.args.to c.args.left c.into_inner.result c.retyped.result c.into_inner.ensures c.retyped.ensures)

pub retyped_shifted-returns : goal.retyped_shifted-returns
retyped_shifted-returns t c =
    shifted_other c.args.ground.now c.report.new.self c.args.to c.args.left.value c.deref.result.now.at (sym c.kind_fits.ensures ∙ c.if-kind_fits.false) (cc) c.report.ensures

pub retyped_each-loop-expr-init : goal.retyped_each-loop-expr-init
retyped_each-loop-expr-init t c = record {
  rest = refl;
  so_far = each_none c.args.ground.now c.args.to c.new.result.items c.new.ensures.items;
  counted = search rules;
}

pub retyped_each-loop-expr-preserved : goal.retyped_each-loop-expr-preserved
retyped_each-loop-expr-preserved t c =
    let at = c.loop-expr in
    let x = c.in-Some.expr in
    let steps : into_iter_items at.expr-iterator ≡ x ∷ into_iter_items c.next.new.self = c.in-Some.ensures.steps.0 in
    record {
      rest = append_assoc at.yielded (x ∷ []) _ ∙ rw (← steps) at.invariant.rest;
      so_far = each_more c.args.ground.now at.ground c.retyped.new.ground c.args.to at.yielded x (items_of at.typed) (items_of c.in_ok-typed.typed)
          c.in_ok-expr.expr at.invariant.so_far c.in_ok-expr.ensures c.in_ok-typed.ensures;
      counted = let was = at.invariant.counted in let gone = c.in-Some.ensures.steps.1 in let short = ap length steps in omega arith;
    }

pub retyped_each-returns : goal.retyped_each-returns
retyped_each-returns t c =
    let at = c.loop-expr in
    let none = c.in-None.ensures.steps in
    let empty : into_iter_items at.expr-iterator ≡ [] = nil_from_length (into_iter_items at.expr-iterator) (sym at.invariant.counted ∙ none.0) in
    let all = sym (append-nil at.yielded) ∙ rw empty at at.invariant.rest ∙ c.into_iter-expr-iterator.ensures.into_iter_gives.0 in
    subst (λ (l : List TypedExpr). Outcome c.args.ground.now at.ground (items_of at.typed) (AreRetyped c.args.ground.now.types c.args.to l)) all at.invariant.so_far
