use Rattle.std.proofs.Common.{◌≡◌, ℤ, arith, of_z, subst, to_z}
use Rattle.std.proofs.lemmas.Int.{ints, to_z-of_z}
use Rattle.std.specs.Int.{w128}
use Rattle.go_value.specs.Values as vals
use Rattle.go_value.specs.Values.{value_of}
use Rattle.interp_state.specs.States.{Wrote}
use Rattle.interp_builtins.proofs.Done.{len_is}
use Rattle.interp_builtins.proofs.built_ins.len.Goals as goal

pub returns-in-Ok-length : goal.returns-in-Ok-length
returns-in-Ok-length c =
    let plain : to_z w128 (of_z w128 c.in-Ok-length.len) ≡ c.in-Ok-length.len = grind (arith, ints, to_z-of_z) in
    len_is c.set_int.result c.args.machine.now c.set_int.new.self c.args.arg.now c.args.to (value_of c.in-Ok.value.now)
    c.in-Ok-length.len c.in-Ok.ensures c.in-Ok-length.ensures c.set_int.ensures.goes
    (subst (λ (z : ℤ). Wrote c.args.to (vals.number z) c.args.machine.now c.set_int.new.self) plain
    c.set_int.ensures.wrote)
