use Rattle.std.proofs.Common.{map}
use Rattle.go_sched.specs.Goroutines.{state_of}
use Rattle.go_store.specs.Stores.{stored}
use Rattle.go_value.specs.Values.{value_of}
use Rattle.interp_builtins.proofs.Forms.{plain_is}
use Rattle.interp_builtins.proofs.Worlds.{told}
use Rattle.interp_state.specs.Machines.{machine_of}
use Rattle.plan_mean.specs.BuiltIns.{built_in_call}
use Rattle.plan_mean.specs.Step.{calls_built_in, finishes}
use Rattle.interp_builtins.proofs.built_ins.builtin_to.Goals as goal

pub returns-in_default : goal.returns-in_default
returns-in_default c =
    let m = c.args.machine.now in
    told c.finish_builtin.result m c.finish_builtin.new.machine
    (λ w. finishes w (machine_of m) c.args.to
    (built_in_call w.answers (stored m.store) (state_of m.sched) c.args.form.now (map value_of m.waiting.items)))
    (λ w. calls_built_in w (machine_of m) c.args.to c.args.form.now (map value_of m.waiting.items))
    (λ w. plain_is w (machine_of m) c.args.to c.args.form.now (map value_of m.waiting.items) c.in_default.not-Close
    c.in_default.not-Panic c.in_default.not-Recover)
    c.finish_builtin.ensures
