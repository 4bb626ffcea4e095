use Rattle.std.proofs.Common.{◌∙◌, ◌++◌, ap, map, sym}
use Rattle.go_value.specs.Values.{value_of}
use Rattle.ssa_mean.specs.Texts.{printed_behind, printed_line}
use Rattle.interp_builtins.proofs.Printed.{one_printed}
use Rattle.interp_builtins.proofs.Woken.{on_ok}
use Rattle.interp_builtins.proofs.built_ins.push_line.Goals as goal

pub returns-in_ok-push_printed-in-Some : goal.returns-in_ok-push_printed-in-Some
returns-in_ok-push_printed-in-Some c =
    let old = c.args.text.now.items in
    on_ok c.push_behind.result c.push_behind.ensures (λ is.
    is ∙ one_printed old c.push_printed.new.text.items (printed_behind (map value_of c.in-Some.others.now))
    c.in-Some.first.now c.in_ok-push_printed-in-Some.ensures
    ∙ ap (λ them. old ++ printed_line (map value_of them)) (sym c.in-Some.ensures.cases.0))
