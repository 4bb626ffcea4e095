use Rattle.std.proofs.Common.{◌≡◌, ◌∙◌, rules, sym, Err, Ok}
use Rattle.std.proofs.lemmas.Int.{to_z-of_z}
use Rattle.std.specs.Int.{w128}
use Rattle.std.specs.Int.RustNames.{FitsSigned}
use Rattle.go_value.specs.Ints.{shift_value}
use Rattle.interp_state.proofs.Turns.{given}
use Rattle.interp_state.specs.Machines.{machine_of}
use Rattle.interp_state.specs.declared.machine.Met.TheVariants as met
use Rattle.interp_values.proofs.Operations.{shift_is}
use Rattle.interp_values.proofs.Stepped.{sets_number}
use Rattle.plan_mean.specs.Step.{acts, shift}
use Rattle.interp_values.proofs.arithmetic.shift.Goals as goal

pub returns-in-Ok-shift_op : goal.returns-in-Ok-shift_op
unfolding acts
returns-in-Ok-shift_op c =
    let fa : FitsSigned w128 c.in-Ok.a = search rules in
    let fb : FitsSigned w128 c.in-Ok.count = search rules in
    let fits : FitsSigned w128 c.in-Ok-shift_op.number = search rules in
    let is : shift_value c.args.kind c.args.left c.in-Ok.a c.in-Ok.count ≡ Ok c.in-Ok-shift_op.number =
    (λ i. shift_value c.args.kind c.args.left (sym (to_z-of_z w128 c.in-Ok.a fa) i)
    (sym (to_z-of_z w128 c.in-Ok.count fb) i))
    ∙ sym c.shift_op.ensures ∙ c.in-Ok-shift_op.is in
    sets_number c.set_int.result c.args.to c.in-Ok-shift_op.number c.args.machine.now c.set_int.new.self
    (shift (machine_of c.args.machine.now) c.args.left c.args.kind c.args.value.now c.args.count.now)
    fits c.set_int.ensures.goes c.set_int.ensures.wrote
    (shift_is c.args.machine.now c.args.left c.args.kind c.args.value.now c.args.count.now c.in-Ok.a c.in-Ok.count
    (Ok c.in-Ok-shift_op.number) c.in-Ok.ensures.first c.in-Ok.ensures.second is)

pub returns-in-Err : goal.returns-in-Err
unfolding acts
returns-in-Err c =
    let fa : FitsSigned w128 c.in-Ok.a = search rules in
    let fb : FitsSigned w128 c.in-Ok.count = search rules in
    let is : shift_value c.args.kind c.args.left c.in-Ok.a c.in-Ok.count ≡ Err c.in-Err.fault =
    (λ i. shift_value c.args.kind c.args.left (sym (to_z-of_z w128 c.in-Ok.a fa) i)
    (sym (to_z-of_z w128 c.in-Ok.count fb) i))
    ∙ sym c.shift_op.ensures ∙ c.in-Err.is in
    given c.args.to (Err (met.Fault c.in-Err.fault))
    (shift (machine_of c.args.machine.now) c.args.left c.args.kind c.args.value.now c.args.count.now)
    c.meet.result c.args.machine.now c.meet.new.self c.meet.ensures
    (shift_is c.args.machine.now c.args.left c.args.kind c.args.value.now c.args.count.now c.in-Ok.a c.in-Ok.count
    (Err c.in-Err.fault) c.in-Ok.ensures.first c.in-Ok.ensures.second is)
