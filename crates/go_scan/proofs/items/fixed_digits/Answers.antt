use Rattle.std.proofs.Common.{◌+◌, ◌*◌, ◌<◌, ◌≤◌, get_or, drop, ◌-◌, arith, sym, ◌∙◌, ap, subst}
use Rattle.std.specs.Char.{digit_value}
use Rattle.go_ast.specs.Literals.{fixed_digits}
use Rattle.go_scan.proofs.Digits.{fixed-short, fixed-good, fixed-bad, digit-fits, power-fits}
use Rattle.go_scan.proofs.items.fixed_digits.Goals as goal

pub returns-then-text-count : goal.returns-then-text-count
returns-then-text-count c = sym (fixed-short c.args.base c.args.count 0 c.args.text.now c.if-text-count.true)

pub returns-then-digit-base : goal.returns-then-digit-base
returns-then-digit-base c =
    let large : c.args.base ≤ digit_value (get_or c.args.text.now c.loop-index.index 0) = subst (λ n. c.args.base ≤ n) c.digit_value-digit.ensures c.if-digit-base.true in
    sym (c.loop-index.invariant.reached ∙ fixed-bad c.args.base c.args.count c.loop-index.value c.args.text.now c.loop-index.index c.loop-index-test.true (omega arith) large)

pub overflow_mul-value : goal.overflow_mul-value
overflow_mul-value c =
    let fits = digit-fits c.loop-index.value c.args.base c.digit_value-digit.result c.loop-index.index c.loop-index.invariant.small c.requires.base c.if-digit-base.false in
    let power = power-fits (c.loop-index.index + 1) (omega arith) in
    omega (arith, fits, power)

pub overflow_add-value : goal.overflow_add-value
overflow_add-value c =
    let fits = digit-fits c.loop-index.value c.args.base c.digit_value-digit.result c.loop-index.index c.loop-index.invariant.small c.requires.base c.if-digit-base.false in
    let power = power-fits (c.loop-index.index + 1) (omega arith) in
    omega (arith, fits, power)

pub loop-index-preserved : goal.loop-index-preserved
loop-index-preserved c =
    let small : digit_value (get_or c.args.text.now c.loop-index.index 0) < c.args.base = subst (λ n. n < c.args.base) c.digit_value-digit.ensures c.if-digit-base.false in
    record {
      small = digit-fits c.loop-index.value c.args.base c.digit_value-digit.result c.loop-index.index c.loop-index.invariant.small c.requires.base c.if-digit-base.false;
      reached = c.loop-index.invariant.reached ∙ fixed-good c.args.base c.args.count c.loop-index.value c.args.text.now c.loop-index.index c.loop-index-test.true (omega arith) small
          ∙ ap (λ n. fixed_digits c.args.base (c.args.count - (c.loop-index.index + 1)) (c.loop-index.value * c.args.base + n) (drop (c.loop-index.index + 1) c.args.text.now)) (sym c.digit_value-digit.ensures);
    }
