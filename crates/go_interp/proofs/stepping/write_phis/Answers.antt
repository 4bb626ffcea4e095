use Rattle.std.proofs.Common.{refl}
use Rattle.go_interp.proofs.Phis.{one_written, other_phis}
use Rattle.go_interp.proofs.stepping.write_phis.Goals as goal

pub loop-phi-preserved : goal.loop-phi-preserved
loop-phi-preserved c = (
  λ same. one_written c.args.machine.now c.loop-phi.machine
      (record (c.loop-phi.machine) { waiting = c.pop.new.self }) c.set.new.self c.args.phis.now c.loop-phi.left.now
      c.in-Some.front.now c.in-Some.phi.now c.in-Some-pop.value c.in-Some.ensures.cases.0 c.in-Some-pop.ensures.items refl
      c.set.ensures (c.loop-phi.invariant.0 same),
  other_phis c.args.machine.now c.loop-phi.machine (record (c.loop-phi.machine) { waiting = c.pop.new.self })
      c.set.new.self c.loop-phi.invariant.1 refl c.set.ensures.others,
)
