use Rattle.std.proofs.Common.{◌≡◌, ap, ◌∙◌, replicate, arith}
use Rattle.std.proofs.lemmas.Result.{IfOk-weaker}
use Rattle.go_value.specs.Values.{value_of, parts, parts_of}
use Rattle.go_value.specs.Zeros.{plain}
use Rattle.go_value.proofs.ZeroTo.{one_more_element}
use Rattle.go_value.proofs.zeros.repeated.Goals as goal

pub parts-preserved : goal.parts-preserved
parts-preserved c =
    c.in_ok-push.ensures.items
    ∙ one_more_element c.parts.parts.items c.plain.result c.parts.counter (value_of c.args.value.now) c.parts.invariant (c.plain.ensures ∙ ap plain c.in_ok-copy.ensures)

pub returns : goal.returns
returns c =
    let all : c.parts.counter ≡ c.args.len = omega (arith, c.parts.auto.counter-end, c.parts-test.false) in
    IfOk-weaker c.parts-2.result _ _
    (λ it h. h ∙ ap (λ fields. parts (parts_of fields)) (c.parts.invariant ∙ ap (λ n. replicate n (plain (value_of c.args.value.now))) all))
    c.parts-2.ensures
