use Rattle.std.proofs.Common.{refl, map}
use Rattle.go_sched.specs.Goroutines.{state_of}
use Rattle.go_store.specs.Stores.{stored}
use Rattle.go_value.specs.Values.{value_of}
use Rattle.plan_mean.specs.BuiltIns.{built_in_call}
use Rattle.interp_builtins.proofs.Done.{finished}
use Rattle.interp_builtins.proofs.built_ins.finish_builtin.Goals as goal

pub returns : goal.returns
returns c =
    let m = c.args.machine.now in
    let late = c.builtin-given.new.machine in
    finished c.args.to c.builtin-given.result
    (λ w. built_in_call w.answers (stored m.store) (state_of m.sched) c.args.form.now (map value_of m.waiting.items))
    c.finish.result m late (record late { waiting = c.clear.new.self }) c.finish.new.machine
    c.builtin-given.ensures.others
    refl c.finish.ensures c.builtin-given.ensures.done
