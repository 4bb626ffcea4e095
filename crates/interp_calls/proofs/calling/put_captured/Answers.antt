use Rattle.std.proofs.Common.{◌≡◌, ◌∙◌, ◌+◌, ◌≤◌, ◌++◌, ◌∷◌, [], ap, arith, length, sym, take}
use Rattle.std.proofs.lemmas.List.{take_more}
use Rattle.go_value.specs.declared.address.Pointer.{Pointer}
use Rattle.interp_calls.proofs.Puts.{put_more}
use Rattle.interp_calls.proofs.calling.put_captured.Goals as goal
use Rattle.interp_state.specs.Frames.{frames_of}
use Rattle.interp_state.specs.States.{slots_of}
use Rattle.interp_state.specs.declared.machine.Machine.{Machine}

pub loop-address-preserved : goal.loop-address-preserved
loop-address-preserved c =
    let all = c.args.captured.now in
    let i = c.loop-address.address-index in
    let within : i ≤ length all = omega (arith, c.loop-address-test.true) in
    let next : c.in-Some.next ≡ c.args.first + (i + 1) =
    omega (arith, c.in-Some.ensures, c.loop-address.invariant.1.0) in (
      put_more c.args.first i c.loop-address.slot all (take (i + 1) all) c.in_ok-address.address
          (slots_of c.args.machine.now) (slots_of c.loop-address.machine) (frames_of c.set.new.self) within
          (take_more all i c.address-item.result c.loop-address-test.true
          ∙ ap (λ (at : Pointer). take i all ++ at ∷ []) (sym c.address-item.is ∙ sym c.in_ok-address.ensures))
          c.loop-address.invariant.1.0 c.loop-address.invariant.0
          c.set.ensures.slots,
      (
        next,
        ap (λ (m : Machine). record m { current = record (m.current) { stack = c.set.new.self } })
            c.loop-address.invariant.1.1,
      ),
    )
