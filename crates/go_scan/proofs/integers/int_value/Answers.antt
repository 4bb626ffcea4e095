use Rattle.std.proofs.Common.{◌≡◌, ◌+◌, ◌*◌, get_or, drop, arith, sym, ◌∙◌, ap, option_map, pos, Some, None}
use Rattle.std.specs.Char.{digit_value}
use Rattle.go_ast.specs.Literals.{digits_value, int_value, base_of}
use Rattle.go_scan.specs.Reach.{limited}
use Rattle.go_scan.proofs.Digits.{int-bar, int-digit, int-over, limited-some}
use Rattle.go_scan.proofs.integers.int_value.Goals as goal
use Rattle.go_scan.proofs.integers.int_value.Goals.{then-byte-ne95+in_ok-value, else-byte-ne95}

pub returns-in_err-value : goal.returns-in_err-value
returns-in_err-value c =
    let base = c.base_of-base.result in
    let digits = c.digits_of-digits.result.now in
    let i = c.loop-byte.byte-index in
    let none : limited (c.loop-byte.value * base + digit_value (get_or digits i 0)) ≡ None =
    ap (λ d. limited (c.loop-byte.value * base + d)) (sym c.digit_value.ensures) ∙ sym c.with_digit.ensures.value ∙ c.in_err-value.was in
    let over : limited (digits_value base 0 digits) ≡ None =
    int-over base c.loop-byte.value digits i c.base_of-base.ensures.least c.loop-byte-test.true c.if-byte-ne95.true c.loop-byte.invariant.reached none in
    let all : digits_value base 0 digits ≡ int_value c.args.bytes.now =
    ap (λ b. digits_value b 0 digits) c.base_of-base.ensures.value ∙ ap (λ d. digits_value (base_of c.args.bytes.now) 0 d) c.digits_of-digits.ensures in
    c.from_residual.ensures ∙ ap (λ o. option_map (λ value. pos value) o) (sym over ∙ ap limited all)

pub loop-byte-preserved : goal.loop-byte-preserved
loop-byte-preserved c =
    let base = c.base_of-base.result in
    let digits = c.digits_of-digits.result.now in
    let i = c.loop-byte.byte-index in
    elim c.if-byte-ne95.branch [
      | then-byte-ne95+in_ok-value w ↦
          let some : limited (c.loop-byte.value * base + digit_value (get_or digits i 0)) ≡ Some w.in_ok-value.value =
          ap (λ d. limited (c.loop-byte.value * base + d)) (sym w.digit_value.ensures) ∙ sym w.with_digit.ensures.value ∙ w.in_ok-value.was in
          let found = limited-some (c.loop-byte.value * base + digit_value (get_or digits i 0)) w.in_ok-value.value some in
          record {
            small = omega (arith, w.value-is, found.0, found.1);
            reached = c.loop-byte.invariant.reached ∙ int-digit base c.loop-byte.value digits i c.loop-byte-test.true w.if-byte-ne95.true
                ∙ ap (λ v. digits_value base v (drop (i + 1) digits)) (sym (w.value-is ∙ found.0));
          }
      | else-byte-ne95 w ↦ record {
        small = omega (arith, w.value-is, c.loop-byte.invariant.small);
        reached = c.loop-byte.invariant.reached ∙ int-bar base c.loop-byte.value digits i c.loop-byte-test.true w.if-byte-ne95.false
            ∙ ap (λ v. digits_value base v (drop (i + 1) digits)) (sym w.value-is);
      }
    ]
