use Rattle.std.proofs.Common.{◌≡◌, ap, arith, length}
use Rattle.interp_calls.proofs.Puts.{one_less, put_last}
use Rattle.interp_calls.proofs.calling.put_arguments.Goals as goal
use Rattle.interp_state.specs.Frames.{frames_of}
use Rattle.interp_state.specs.States.{slots_of}
use Rattle.interp_state.specs.declared.machine.Machine.{Machine}

pub loop-preserved : goal.loop-preserved
loop-preserved c =
    let before = c.loop.machine.waiting.items in
    let after = c.pop.new.self.items in
    let less = one_less before after c.in-Some.value c.in-Some.ensures.items in
    let here : c.saturating_sub-slot.result ≡ length after =
    omega (arith, less, c.loop.invariant.1.0, c.saturating_sub-slot.ensures) in (
      put_last before after c.in-Some.value c.saturating_sub-slot.result (slots_of c.loop.machine)
          (frames_of c.set.new.self) _ c.in-Some.ensures.items here c.set.ensures.slots c.loop.invariant.0,
      (
        here,
        (
          omega (arith, less, c.loop.invariant.1.1.0),
          ap (λ (m : Machine). record m {
            current = record (m.current) { stack = c.set.new.self };
            waiting = c.pop.new.self;
          }) c.loop.invariant.1.1.1,
        ),
      ),
    )
