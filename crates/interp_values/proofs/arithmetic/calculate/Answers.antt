use Rattle.std.proofs.Common.{◌≡◌, ◌∙◌, rules, sym, Err, Ok}
use Rattle.std.proofs.lemmas.Int.{to_z-of_z}
use Rattle.std.specs.Int.{w128}
use Rattle.std.specs.Int.RustNames.{FitsSigned}
use Rattle.go_value.specs.Ints.{operated}
use Rattle.interp_state.proofs.Turns.{given}
use Rattle.interp_state.specs.Machines.{machine_of}
use Rattle.interp_state.specs.declared.machine.Met.TheVariants as met
use Rattle.interp_values.proofs.Operations.{arithmetic_is}
use Rattle.interp_values.proofs.Stepped.{sets_number}
use Rattle.plan_mean.specs.Step.{acts, arithmetic}
use Rattle.interp_values.proofs.arithmetic.calculate.Goals as goal

pub returns-in-Ok-operate : goal.returns-in-Ok-operate
unfolding acts
returns-in-Ok-operate c =
    let fa : FitsSigned w128 c.in-Ok.a = search rules in
    let fb : FitsSigned w128 c.in-Ok.b = search rules in
    let fits : FitsSigned w128 c.in-Ok-operate.number = search rules in
    let is : operated c.args.kind c.args.op c.in-Ok.a c.in-Ok.b ≡ Ok c.in-Ok-operate.number =
    (λ i. operated c.args.kind c.args.op (sym (to_z-of_z w128 c.in-Ok.a fa) i) (sym (to_z-of_z w128 c.in-Ok.b fb) i))
    ∙ sym c.operate.ensures ∙ c.in-Ok-operate.is in
    sets_number c.set_int.result c.args.to c.in-Ok-operate.number c.args.machine.now c.set_int.new.self
    (arithmetic (machine_of c.args.machine.now) c.args.op c.args.kind c.args.left.now c.args.right.now)
    fits c.set_int.ensures.goes c.set_int.ensures.wrote
    (arithmetic_is c.args.machine.now c.args.op c.args.kind c.args.left.now c.args.right.now c.in-Ok.a c.in-Ok.b
    (Ok c.in-Ok-operate.number) c.in-Ok.ensures.first c.in-Ok.ensures.second is)

pub returns-in-Err : goal.returns-in-Err
unfolding acts
returns-in-Err c =
    let fa : FitsSigned w128 c.in-Ok.a = search rules in
    let fb : FitsSigned w128 c.in-Ok.b = search rules in
    let is : operated c.args.kind c.args.op c.in-Ok.a c.in-Ok.b ≡ Err c.in-Err.fault =
    (λ i. operated c.args.kind c.args.op (sym (to_z-of_z w128 c.in-Ok.a fa) i) (sym (to_z-of_z w128 c.in-Ok.b fb) i))
    ∙ sym c.operate.ensures ∙ c.in-Err.is in
    given c.args.to (Err (met.Fault c.in-Err.fault))
    (arithmetic (machine_of c.args.machine.now) c.args.op c.args.kind c.args.left.now c.args.right.now)
    c.meet.result c.args.machine.now c.meet.new.self c.meet.ensures
    (arithmetic_is c.args.machine.now c.args.op c.args.kind c.args.left.now c.args.right.now c.in-Ok.a c.in-Ok.b
    (Err c.in-Err.fault) c.in-Ok.ensures.first c.in-Ok.ensures.second is)
