use Rattle.std.proofs.Common.{◌≡◌, Option, rules, subst, ℤ}
use Rattle.std.specs.Int.{w128}
use Rattle.std.specs.Int.RustNames.{FitsSigned}
use Rattle.std.specs.Prelude.{IfSome}
use Rattle.go_store.specs.Stores.{stored}
use Rattle.go_value.specs.Values.{number}
use Rattle.interp_state.specs.Machines.{machine_of}
use Rattle.interp_values.proofs.Stepped.{sets_number}
use Rattle.plan_mean.specs.Operands.{with_one}
use Rattle.plan_mean.specs.Step.{acts}
use Rattle.ssa_mean.specs.Comes.{to}
use Rattle.ssa_mean.specs.Places.{load}
use Rattle.interp_values.proofs.places.load.Goals as goal

pub returns-in-Ok-Some : goal.returns-in-Ok-Some
unfolding acts
returns-in-Ok-Some c =
    let fits : FitsSigned w128 c.in-Ok-Some.number = search rules in
    sets_number c.set_int.result c.args.to c.in-Ok-Some.number c.args.machine.now c.set_int.new.self
    (with_one (machine_of c.args.machine.now) c.args.at.now (load (stored c.args.machine.now.store)))
    fits c.set_int.ensures.goes c.set_int.ensures.wrote
    (subst
    (λ (found : Option ℤ). IfSome found (λ it.
    with_one (machine_of c.args.machine.now) c.args.at.now (load (stored c.args.machine.now.store)) ≡ to (number it)))
    c.in-Ok-Some.field-0-is c.in-Ok-Some.ensures)
