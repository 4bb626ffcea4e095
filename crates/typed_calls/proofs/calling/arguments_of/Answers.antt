use Rattle.std.proofs.Common.{sym, ◌∙◌, vec_len}
use Rattle.typed_calls.proofs.Called.{each_argued, popped, sole_argued}
use Rattle.typed_calls.proofs.calling.arguments_of.Goals as goal

pub returns-then-len-eq1-clause-broken : goal.returns-then-len-eq1-clause-broken
returns-then-len-eq1-clause-broken c =
    let v = c.in_ok-values.values in
    let one = sole_argued c.args.ground.now c.values_of.new.ground c.sole_argument.new.ground c.args.arguments.items v c.pop.new.self c.pop.result c.flatten-value.result
    c.len.result c.sole_argument.result c.in_ok-values.ensures.values c.in_ok-values.ensures.broken c.pop.ensures.items (c.len.ensures ∙ v.ok.0) c.if-len-eq1.true
    (popped c.pop.result (vec_len v) (vec_len c.pop.new.self) c.pop.ensures.cases (sym c.len.ensures ∙ c.if-len-eq1.true)) c.flatten-value.ensures
    c.sole_argument.ensures.arguments c.sole_argument.ensures.broken in
    one.1

pub returns-clause-broken : goal.returns-clause-broken
returns-clause-broken c =
    let v = c.in_ok-values.values in
    let each = each_argued c.args.ground.now c.values_of.new.ground c.each_argument.new.ground c.args.arguments.items v c.len.result c.each_argument.result
    c.in_ok-values.ensures.values c.in_ok-values.ensures.broken (c.len.ensures ∙ v.ok.0) c.if-len-eq1.false c.each_argument.ensures.arguments c.each_argument.ensures.broken in
    each.1
