use Rattle.std.proofs.Common.{◌∙◌, ◌++◌, ◌+◌, ap, sym, drop, map}
use Rattle.go_value.specs.Values.{value_of}
use Rattle.ssa_mean.specs.Texts.{printed_behind}
use Rattle.interp_builtins.proofs.Printed.{next_value, one_behind}
use Rattle.interp_builtins.proofs.built_ins.push_behind.Goals as goal

pub loop-value-preserved : goal.loop-value-preserved
loop-value-preserved c =
    let at = c.loop-value in
    let values = c.args.values.now in
    let it = c.value-item.result in
    let rest = printed_behind (map value_of (drop (at.value-index + 1) values)) in
    one_behind at.text.items c.push.new.self.items c.push_printed.new.text.items rest it c.in_ok-push.ensures.items
    c.in_ok-push_printed.ensures
    ∙ sym (ap (λ them. at.text.items ++ printed_behind (map value_of them))
    (next_value values at.value-index it c.loop-value-test.true c.value-item.is))
    ∙ at.invariant
