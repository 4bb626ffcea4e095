use Rattle.std.proofs.Common.{◌+◌, ◌∙◌, Some, ap, sym, take}
use Rattle.go_interp.proofs.Phis.{item_at, read_more, then_written}
use Rattle.interp_state.proofs.Arguments.{all_items, item_more}
use Rattle.interp_state.specs.Machines.{machine_of}
use Rattle.interp_state.specs.declared.machine.Machine.{Machine}
use Rattle.go_interp.proofs.stepping.read_phis.Goals as goal

pub loop-phi-preserved : goal.loop-phi-preserved
loop-phi-preserved c = (
  read_more c.args.machine.now c.loop-phi.machine c.args.from (take c.loop-phi.phi-index c.args.phis.now)
      (take (c.loop-phi.phi-index + 1) c.args.phis.now) c.phi-item.result c.loop-phi.machine.waiting.items
      c.push_phi.new.machine.waiting.items (ap machine_of c.loop-phi.invariant.1)
      (item_more c.args.phis.now c.loop-phi.phi-index c.phi-item.result
      (item_at c.args.phis.now c.loop-phi.phi-index c.phi-item.result c.loop-phi-test.true ∙ ap Some (sym c.phi-item.is)))
      c.in_ok-push_phi.ensures.read c.loop-phi.invariant.0,
  c.push_phi.ensures.others
      ∙ ap (λ (m : Machine). record m { waiting = c.push_phi.new.machine.waiting }) c.loop-phi.invariant.1,
)

pub returns-clause-phis : goal.returns-clause-phis
returns-clause-phis c =
    then_written c.write_phis.result c.args.machine.now c.loop-phi.machine c.write_phis.new.machine c.args.from
    c.args.phis.now (take c.loop-phi.phi-index c.args.phis.now) (ap machine_of c.loop-phi.invariant.1)
    (all_items c.args.phis.now c.loop-phi.phi-index c.loop-phi-test.false) c.loop-phi.invariant.0 c.write_phis.ensures.phis
