use Rattle.go_value.specs.Values.{value_of}
use Rattle.interp_builtins.proofs.Done.{panicked_with}
use Rattle.interp_builtins.proofs.built_ins.panic.Goals as goal

pub returns-in-Some : goal.returns-in-Some
returns-in-Some c =
    panicked_with c.panic_with.result c.args.machine.now c.only_one.new.machine c.panic_with.new.self
    (value_of c.in-Some.value) c.only_one.ensures.others c.in-Some.ensures.value c.panic_with.ensures
