use Rattle.std.proofs.Common.{◌≡◌, ap, arith, length, of_z, pos, refl, to_z}
use Rattle.std.proofs.lemmas.Int.{ints, to_z-of_z}
use Rattle.std.specs.Int.{w128}
use Rattle.go_sched.specs.Goroutines.{meant, queue_length, state_of}
use Rattle.go_store.specs.Stores.{stored}
use Rattle.go_maps.specs.Entries.{count_in}
use Rattle.go_maps.specs.Maps.{map_in}
use Rattle.go_value.specs.Values.{value_of}
use Rattle.ssa_mean.specs.BuiltIns.{length_of}
use Rattle.interp_builtins.proofs.Done.{counts_as}
use Rattle.interp_builtins.proofs.built_ins.length.Goals as goal

pub returns-in-Slice : goal.returns-in-Slice
returns-in-Slice c =
    let n = c.in-Slice.slice.value.len in
    let plain : to_z w128 (of_z w128 c.from.result) ≡ pos n =
    grind (arith, ints, to_z-of_z, c.from.ensures, c.deref.ensures) in
    counts_as (length_of (stored c.args.machine.now.store) (state_of c.args.machine.now.sched)) _ _ n _
    (ap value_of c.in-Slice.is) refl plain

pub returns-in-Text : goal.returns-in-Text
returns-in-Text c =
    let n = length c.in-Text.bytes.value in
    let plain : to_z w128 c.len.result ≡ pos n = grind (arith, ints, c.len.ensures, c.deref-in-Text.ensures) in
    counts_as (length_of (stored c.args.machine.now.store) (state_of c.args.machine.now.sched)) _ _ n _
    (ap value_of c.in-Text.is) refl plain

pub returns-in-Map : goal.returns-in-Map
returns-in-Map c =
    let n = count_in (map_in (stored c.args.machine.now.store).maps c.in-Map.map) in
    let plain : to_z w128 (of_z w128 c.from-in-Map.result) ≡ pos n =
    grind (arith, ints, to_z-of_z, c.from-in-Map.ensures, c.map_len.ensures) in
    counts_as (length_of (stored c.args.machine.now.store) (state_of c.args.machine.now.sched)) _ _ n _
    (ap value_of c.in-Map.is) refl plain

pub returns-in-Chan : goal.returns-in-Chan
returns-in-Chan c =
    let n = queue_length (meant (state_of c.args.machine.now.sched) c.in-Chan.chan) in
    let plain : to_z w128 (of_z w128 c.from-in-Chan.result) ≡ pos n =
    grind (arith, ints, to_z-of_z, c.from-in-Chan.ensures, c.len-in-Chan.ensures) in
    counts_as (length_of (stored c.args.machine.now.store) (state_of c.args.machine.now.sched)) _ _ n _
    (ap value_of c.in-Chan.is) refl plain
