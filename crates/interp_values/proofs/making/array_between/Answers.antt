use Rattle.std.proofs.Common.{subst, sym, ap, ◌∙◌, Some, Bool}
use Rattle.std.specs.Prelude.{if◌then◌else◌}
use Rattle.go_value.specs.Values.{pointer}
use Rattle.go_value.specs.declared.address.SliceValue.{SliceValue}
use Rattle.go_value.specs.declared.faults.Fault.TheVariants.{NilPointer}
use Rattle.interp_state.specs.Turns.{IsGiven}
use Rattle.interp_values.proofs.Made.{one_is}
use Rattle.ssa_mean.specs.Comes.{faults}
use Rattle.go_store.specs.Slices.{whole_array}
use Rattle.ssa_mean.specs.Places.{Bounds, cut, part_between}
use Rattle.interp_values.proofs.making.array_between.Goals as goal

pub returns-then-is_nil : goal.returns-then-is_nil
returns-then-is_nil c =
    let bounds : Bounds = record { low = c.args.low; high = c.args.high; max = c.args.max } in
    let at = c.in_ok-address.address.now in
    one_is c.args.machine.now c.args.operand.now (pointer at) (λ whole. part_between (Some c.args.len) whole bounds)
    c.in_ok-address.ensures
    ∙ ap (λ (nil : Bool). if nil then faults NilPointer else cut (whole_array at c.args.len) bounds)
    (sym c.if-is_nil.ensures)

pub returns : goal.returns
returns c =
    let bounds : Bounds = record { low = c.args.low; high = c.args.high; max = c.args.max } in
    let at = c.in_ok-address.address.now in
    subst (IsGiven c.slice_part.result)
    (ap (λ (it : SliceValue). cut it bounds) c.in_ok-whole.ensures
    ∙ sym (one_is c.args.machine.now c.args.operand.now (pointer at)
    (λ whole. part_between (Some c.args.len) whole bounds)
    c.in_ok-address.ensures
    ∙ ap (λ (nil : Bool). if nil then faults NilPointer else cut (whole_array at c.args.len) bounds)
    (sym c.if-is_nil.ensures)))
    c.slice_part.ensures
