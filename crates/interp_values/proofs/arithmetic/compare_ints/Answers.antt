use Rattle.std.proofs.Common.{◌≡◌, ◌∙◌, ap, rules, sym}
use Rattle.std.proofs.lemmas.Int.{to_z-of_z}
use Rattle.std.specs.Int.{w128}
use Rattle.std.specs.Int.RustNames.{FitsSigned}
use Rattle.std.specs.Ordering.{int_cmp}
use Rattle.go_value.specs.Values.{truth}
use Rattle.interp_state.specs.Machines.{machine_of}
use Rattle.interp_values.proofs.Operations.{comparison_is}
use Rattle.interp_values.proofs.Stepped.{sets_to}
use Rattle.plan_mean.specs.Step.{acts, compare_integers}
use Rattle.ssa_mean.specs.Arithmetic.{holds}
use Rattle.ssa_mean.specs.Comes.{to}
use Rattle.interp_values.proofs.arithmetic.compare_ints.Goals as goal

pub returns-in-Ok : goal.returns-in-Ok
unfolding acts
returns-in-Ok c =
    let fa : FitsSigned w128 c.in-Ok.a = search rules in
    let fb : FitsSigned w128 c.in-Ok.b = search rules in
    let is : holds c.args.op (int_cmp c.in-Ok.a c.in-Ok.b) ≡ c.compare.result =
    (λ i. holds c.args.op (int_cmp (sym (to_z-of_z w128 c.in-Ok.a fa) i) (sym (to_z-of_z w128 c.in-Ok.b fb) i)))
    ∙ sym c.compare.ensures in
    sets_to c.set_truth.result c.args.to (truth c.compare.result) c.args.machine.now c.set_truth.new.self
    (compare_integers (machine_of c.args.machine.now) c.args.op c.args.left.now c.args.right.now)
    c.set_truth.ensures.goes c.set_truth.ensures.wrote
    (comparison_is c.args.machine.now c.args.op c.args.left.now c.args.right.now c.in-Ok.a c.in-Ok.b
    c.in-Ok.ensures.first c.in-Ok.ensures.second
    ∙ ap (λ it. to (truth it)) is)
