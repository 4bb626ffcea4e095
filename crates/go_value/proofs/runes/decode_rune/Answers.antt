use Rattle.std.proofs.Common.{ℕ, List, ◌≡◌, ◌<◌, ◌-◌, length, drop, take, ap, sym, subst, ◌∙◌, arith, length-drop}
use Rattle.std.proofs.lemmas.List.{take_all}
use Rattle.bstr.specs.Utf8.{decoded}
use Rattle.go_value.specs.Runes.{IsFirstRune}
use Rattle.go_value.proofs.RuneAt.{first_rune, none_first, narrow}
use Rattle.go_value.proofs.runes.decode_rune.Goals as goal

-- the slice from the place to the end is what is left there
whole : (xs : List ℕ) (at : ℕ) → take (length xs - at) (drop at xs) ≡ drop at xs
whole xs at = take_all (length xs - at) (drop at xs) (omega (arith, length-drop at xs))

pub overflow_cast-result : goal.overflow_cast-result
overflow_cast-result c =
    let same = ap (λ s. (decoded s).size) (whole c.args.bytes.now c.args.at) in
    let some : 0 < length (drop c.args.at c.args.bytes.now) = omega (arith, length-drop c.args.at c.args.bytes.now) in
    omega (arith, narrow (drop c.args.at c.args.bytes.now) some, c.decode.ensures.size ∙ same)

pub returns-in-Some-default : goal.returns-in-Some-default
returns-in-Some-default c =
    let rest = drop c.args.at c.args.bytes.now in
    let same = whole c.args.bytes.now c.args.at in
    subst (IsFirstRune rest c.in-Some-default.c) (sym (c.decode.ensures.size ∙ ap (λ s. (decoded s).size) same))
    (first_rune rest c.in-Some-default.c (sym (c.decode.ensures.char ∙ ap (λ s. (decoded s).char) same) ∙ c.in-Some-default.is-0))

pub returns-in-None-default : goal.returns-in-None-default
returns-in-None-default c =
    none_first (drop c.args.at c.args.bytes.now)
    (sym (c.decode.ensures.char ∙ ap (λ s. (decoded s).char) (whole c.args.bytes.now c.args.at)) ∙ c.in-None-default.is-0)
