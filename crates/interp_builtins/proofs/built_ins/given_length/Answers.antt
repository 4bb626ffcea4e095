use Rattle.std.proofs.Common.{◌≡◌, ◌∙◌, arith, map, of_z, to_z}
use Rattle.std.proofs.lemmas.Int.{ints, to_z-of_z}
use Rattle.std.specs.Int.{w128}
use Rattle.go_sched.specs.Goroutines.{state_of}
use Rattle.go_store.specs.Stores.{stored}
use Rattle.go_value.specs.Values.{value_of}
use Rattle.ssa_mean.specs.BuiltIns.{length_of}
use Rattle.interp_builtins.proofs.Done.{counted_is, int_given}
use Rattle.interp_builtins.proofs.built_ins.given_length.Goals as goal

pub returns : goal.returns
returns c =
    let m = c.args.machine.now in
    let plain : to_z w128 (of_z w128 c.in_ok-len.len) ≡ c.in_ok-len.len = grind (arith, ints, to_z-of_z) in
    counted_is (stored m.store) (length_of (stored m.store) (state_of m.sched)) (map value_of m.waiting.items)
    (value_of c.in_ok-given.field-0.now)
    c.in_ok-len.len c.in_ok-given.ensures c.in_ok-len.ensures
    ∙ int_given (stored m.store) _ c.in_ok-len.len plain
