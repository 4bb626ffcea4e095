use Rattle.std.proofs.Common.{◌≡◌, ap, arith, of_z, pos, refl, to_z}
use Rattle.std.proofs.lemmas.Int.{ints, to_z-of_z}
use Rattle.std.specs.Int.{w128}
use Rattle.go_sched.specs.Goroutines.{meant, size_of, state_of}
use Rattle.go_value.specs.Values.{value_of}
use Rattle.ssa_mean.specs.BuiltIns.{capacity_of}
use Rattle.interp_builtins.proofs.Done.{counts_as}
use Rattle.interp_builtins.proofs.built_ins.capacity.Goals as goal

pub returns-in-Slice : goal.returns-in-Slice
returns-in-Slice c =
    let n = c.in-Slice.slice.value.cap in
    let plain : to_z w128 (of_z w128 c.from.result) ≡ pos n =
    grind (arith, ints, to_z-of_z, c.from.ensures, c.deref.ensures) in
    counts_as (capacity_of (state_of c.args.machine.now.sched)) _ _ n _
    (ap value_of c.in-Slice.is) refl plain

pub returns-in-Chan : goal.returns-in-Chan
returns-in-Chan c =
    let n = size_of (meant (state_of c.args.machine.now.sched) c.in-Chan.chan) in
    let plain : to_z w128 (of_z w128 c.from-in-Chan.result) ≡ pos n =
    grind (arith, ints, to_z-of_z, c.from-in-Chan.ensures, c.cap.ensures) in
    counts_as (capacity_of (state_of c.args.machine.now.sched)) _ _ n _
    (ap value_of c.in-Chan.is) refl plain
