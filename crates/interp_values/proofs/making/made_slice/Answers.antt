use Rattle.std.proofs.Common.{rules, refl}
use Rattle.std.specs.Int.{w128}
use Rattle.std.specs.Int.RustNames.{FitsSigned}
use Rattle.std.proofs.lemmas.Int.{to_z-of_z}
use Rattle.go_store.specs.Stores.{stored}
use Rattle.go_value.specs.Values.{value_of}
use Rattle.interp_state.specs.Turns.{IsMade}
use Rattle.interp_values.proofs.Made.{err_is, no_slice_of, slice_made_of}
use Rattle.interp_state.specs.Machines.{machine_of}
use Rattle.interp_state.specs.declared.machine.Machine.{Machine}
use Rattle.plan_mean.specs.Step.{with_integers}
use Rattle.ssa_mean.specs.Making.{made_slice}
use Rattle.interp_values.proofs.making.made_slice.Goals as goal

pub returns-in_err-slice : goal.returns-in_err-slice
returns-in_err-slice c =
    let m = c.args.machine.now in
    let new : Machine = record m { store = c.make_slice.new.self } in
    let len_fits : FitsSigned w128 c.in_ok-len.len = search rules in
    let cap_fits : FitsSigned w128 c.in_ok-cap.cap = search rules in
    err_is
    (λ outcome. IsMade outcome m new
    (with_integers (machine_of m) c.args.len.now c.args.cap.now
    (made_slice c.args.leaves (stored m.store) (value_of c.args.zero.now))))
    c.from_residual-in_err-slice.result c.in_err-slice.field-0.0 c.from_residual-in_err-slice.ensures.1
    (no_slice_of m new c.args.len.now c.args.cap.now c.args.leaves (value_of c.args.zero.now) c.in_ok-len.len
    c.in_ok-cap.cap _ _
    c.in_err-slice.field-0.0 (to_z-of_z w128 c.in_ok-len.len len_fits) (to_z-of_z w128 c.in_ok-cap.cap cap_fits)
    c.in_ok-len.ensures c.in_ok-cap.ensures c.in_err-slice.ensures.fault c.in_err-slice.ensures.err refl)

pub returns : goal.returns
returns c =
    let m = c.args.machine.now in
    let new : Machine = record m { store = c.make_slice.new.self } in
    let len_fits : FitsSigned w128 c.in_ok-len.len = search rules in
    let cap_fits : FitsSigned w128 c.in_ok-cap.cap = search rules in
    slice_made_of m new c.args.len.now c.args.cap.now c.args.leaves (value_of c.args.zero.now) c.in_ok-len.len
    c.in_ok-cap.cap _ _
    c.in_ok-slice.slice c.in_ok-slice-2.field-0 (to_z-of_z w128 c.in_ok-len.len len_fits)
    (to_z-of_z w128 c.in_ok-cap.cap cap_fits) c.in_ok-len.ensures c.in_ok-cap.ensures c.in_ok-slice.ensures.fault
    c.in_ok-slice.ensures.made c.in_ok-slice.ensures.ok c.in_ok-slice-2.ensures refl
