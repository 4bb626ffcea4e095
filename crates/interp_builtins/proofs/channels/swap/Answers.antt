use Rattle.std.proofs.Common.{refl}
use Rattle.interp_builtins.proofs.Woken.{found_at, none_at, swapped_at, swapped_past}
use Rattle.interp_builtins.proofs.channels.swap.Goals as goal

pub returns-in-Some-clause-swapped : goal.returns-in-Some-clause-swapped
returns-in-Some-clause-swapped c =
    let m = c.args.machine.now in
    swapped_at m c.args.number c.in-Some.place.now c.swap.new.x c.swap.new.y
    (found_at m.goroutines c.args.number c.in-Some.place.now (c.in-Some.ensures.variant.0 refl) c.in-Some.ensures.value)
    c.swap.ensures.x_after c.swap.ensures.y_after

pub returns-in_default-clause-swapped : goal.returns-in_default-clause-swapped
returns-in_default-clause-swapped c =
    let m = c.args.machine.now in
    swapped_past m c.args.number (none_at m.goroutines c.args.number c.in_default.ensures.variant.1)
