use Rattle.std.proofs.Common.{◌≡◌, ◌+◌, ◌-◌, ◌*◌, ◌<◌, true, length, get_or, drop, sym, ap, ◌∙◌, arith}
use Rattle.std.specs.Char.{is_ascii_digit}
use Rattle.command_line.specs.Values.{number, number_behind, up_to}
use Rattle.command_line.proofs.Digits.{number-behind, number_behind-digit, up_to-over}
use Rattle.command_line.proofs.values.number_up_to.Goals as goal

pub returns-then-value-most : goal.returns-then-value-most
returns-then-value-most c =
    let text = c.args.text.now in
    let i = c.loop-digit.digit-index in
    let n = c.loop-digit.value * 10 + (get_or text i 0 - 48) in
    let digit : is_ascii_digit (get_or text i 0) ≡ true = sym c.is_ascii_digit.ensures.value ∙ c.if-not-is_ascii_digit.false in
    let filled : 0 < length text = omega arith in
    let reached : number text ≡ number_behind n (drop (i + 1) text) =
    number-behind text filled ∙ c.loop-digit.invariant.reached ∙ number_behind-digit c.loop-digit.value text i c.loop-digit-test.true digit in
    sym (ap (up_to c.args.most) reached ∙ up_to-over c.args.most n (drop (i + 1) text) (omega arith))
