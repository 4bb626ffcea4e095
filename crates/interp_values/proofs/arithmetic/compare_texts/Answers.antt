use Rattle.std.proofs.Common.{◌∙◌, ap, sym}
use Rattle.go_value.specs.Values.{truth}
use Rattle.interp_state.specs.Machines.{machine_of}
use Rattle.interp_values.proofs.Stepped.{sets_to}
use Rattle.plan_mean.specs.Step.{acts, compare_texts}
use Rattle.ssa_mean.specs.Comes.{to}
use Rattle.interp_values.proofs.arithmetic.compare_texts.Goals as goal

pub returns-in-Ok : goal.returns-in-Ok
unfolding acts
returns-in-Ok c =
    sets_to c.set_truth.result c.args.to (truth c.holds.result) c.args.machine.now c.set_truth.new.self
    (compare_texts (machine_of c.args.machine.now) c.args.op c.args.left.now c.args.right.now)
    c.set_truth.ensures.goes c.set_truth.ensures.wrote
    (c.in-Ok.ensures c.args.op ∙ ap (λ it. to (truth it)) (sym c.holds.ensures))
