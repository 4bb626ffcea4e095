use Rattle.std.proofs.Common.{◌∙◌, ◌++◌, ap, map}
use Rattle.go_value.specs.Values.{value_of}
use Rattle.interp_builtins.proofs.Done.{called}
use Rattle.interp_builtins.proofs.built_ins.call_with_all.Goals as goal

pub returns-in-Ok : goal.returns-in-Ok
returns-in-Ok c =
    let (its, both) = c.in-Ok.ensures.read in
    called c.builtin_to.result c.args.machine.now c.push_args.new.self c.builtin_to.new.machine c.args.form.now
    c.args.args.now c.args.to its c.push_args.ensures.others both.0
    (both.1 ∙ ap (λ them. map value_of them ++ its) c.clear.ensures.items) c.builtin_to.ensures
