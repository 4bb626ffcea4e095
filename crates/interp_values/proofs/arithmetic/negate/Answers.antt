use Rattle.std.proofs.Common.{◌≡◌, ◌∙◌, ◌-ℤ◌, ap, pos, rules, sym}
use Rattle.std.proofs.lemmas.Int.{to_z-of_z}
use Rattle.std.specs.Int.{w128}
use Rattle.std.specs.Int.RustNames.{FitsSigned}
use Rattle.go_value.specs.Ints.{wrapped}
use Rattle.go_value.specs.Values.{number}
use Rattle.interp_state.specs.Machines.{machine_of}
use Rattle.interp_values.proofs.Looked.{integer_is}
use Rattle.interp_values.proofs.Stepped.{sets_number}
use Rattle.plan_mean.specs.Operands.{with_integer}
use Rattle.plan_mean.specs.Step.{acts}
use Rattle.ssa_mean.specs.Comes.{to}
use Rattle.interp_values.proofs.arithmetic.negate.Goals as goal

pub returns-in-Ok : goal.returns-in-Ok
unfolding acts
returns-in-Ok c =
    let fits : FitsSigned w128 c.in-Ok.number = search rules in
    let inner : FitsSigned w128 c.negative.result = search rules in
    let is : wrapped c.args.kind (pos 0 -ℤ c.in-Ok.number) ≡ c.negative.result =
    ap (λ n. wrapped c.args.kind (pos 0 -ℤ n)) (sym (to_z-of_z w128 c.in-Ok.number fits)) ∙ sym c.negative.ensures in
    sets_number c.set_int.result c.args.to c.negative.result c.args.machine.now c.set_int.new.self
    (with_integer (machine_of c.args.machine.now) c.args.operand.now
    (λ n. to (number (wrapped c.args.kind (pos 0 -ℤ n)))))
    inner c.set_int.ensures.goes c.set_int.ensures.wrote
    (integer_is c.args.machine.now c.args.operand.now c.in-Ok.number
    (λ n. to (number (wrapped c.args.kind (pos 0 -ℤ n)))) c.in-Ok.ensures
    ∙ ap (λ n. to (number n)) is)
