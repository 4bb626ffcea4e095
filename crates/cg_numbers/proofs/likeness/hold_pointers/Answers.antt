use Rattle.std.proofs.Common.{refl}
use Rattle.go_type.proofs.Growing.{grows_on}
use Rattle.type_bare.proofs.Known.{grows_same, definitions_on}
use Rattle.cg_numbers.proofs.likeness.hold_pointers.Goals as goal

pub returns-in_err-hold_pointer-clause-grows : goal.returns-in_err-hold_pointer-clause-grows
returns-in_err-hold_pointer-clause-grows c = grows_on c.args.types.now c.loop-number.types c.hold_pointer.new.types c.loop-number.invariant.grows c.hold_pointer.ensures.grows

pub loop-number-init : goal.loop-number-init
loop-number-init c = record { grows = grows_same c.args.types.now; definitions = λ id. refl }

pub loop-number-preserved : goal.loop-number-preserved
loop-number-preserved c = record {
  grows = grows_on c.args.types.now c.loop-number.types c.hold_pointer.new.types c.loop-number.invariant.grows c.hold_pointer.ensures.grows;
  definitions = definitions_on c.args.types.now c.loop-number.types c.hold_pointer.new.types c.loop-number.invariant.definitions c.hold_pointer.ensures.definitions;
}
