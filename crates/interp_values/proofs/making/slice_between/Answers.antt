use Rattle.std.proofs.Common.{subst, sym, ap, ◌∙◌, None}
use Rattle.go_value.specs.Values.{slice}
use Rattle.go_value.specs.declared.address.SliceValue.{SliceValue}
use Rattle.interp_state.specs.Turns.{IsGiven}
use Rattle.interp_values.proofs.Made.{one_is}
use Rattle.ssa_mean.specs.Places.{Bounds, cut, part_between}
use Rattle.interp_values.proofs.making.slice_between.Goals as goal

pub returns : goal.returns
returns c =
    let bounds : Bounds = record { low = c.args.low; high = c.args.high; max = c.args.max } in
    subst (IsGiven c.slice_part.result)
    (ap (λ (it : SliceValue). cut it bounds) c.in_ok-slice-2.ensures
    ∙ sym (one_is c.args.machine.now c.args.operand.now (slice c.in_ok-slice.field-0.now)
    (λ whole. part_between None whole bounds) c.in_ok-slice.ensures))
    c.slice_part.ensures
