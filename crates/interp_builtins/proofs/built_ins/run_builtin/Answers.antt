use Rattle.std.proofs.Common.{map, None}
use Rattle.go_value.specs.Values.{value_of}
use Rattle.interp_builtins.proofs.Forms.{alone_is}
use Rattle.interp_builtins.proofs.Worlds.{told}
use Rattle.interp_state.specs.Machines.{machine_of}
use Rattle.plan_mean.specs.Step.{alone, calls_built_in}
use Rattle.interp_builtins.proofs.built_ins.run_builtin.Goals as goal

pub returns-in_default : goal.returns-in_default
returns-in_default c =
    let m = c.args.machine.now in
    told c.builtin_to.result m c.builtin_to.new.machine
    (λ w. calls_built_in w (machine_of m) None c.args.form.now (map value_of m.waiting.items))
    (λ w. alone w (machine_of m) c.args.form.now (map value_of m.waiting.items))
    (λ w. alone_is w (machine_of m) c.args.form.now (map value_of m.waiting.items) c.in_default.not-Recover)
    c.builtin_to.ensures
