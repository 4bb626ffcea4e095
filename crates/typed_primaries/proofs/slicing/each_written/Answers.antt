use Rattle.std.proofs.Common.{◌∙◌, sym}
use Rattle.typed_primaries.proofs.Slices.{bounds_boxed}
use Rattle.typed_primaries.proofs.slicing.each_written.Goals as goal

pub returns : goal.returns
returns c =
    let b = c.args.bounds in
    let all = bounds_boxed b.low b.high b.max c.in_ok-low.high c.in_ok-low.max c.in_ok-high.max c.in_ok-low.low c.in_ok-high.high c.in_ok-max.max
    c.in_ok-high.low c.in_ok-max.low c.in_ok-max.high c.boxed_bound.result c.boxed_bound-2.result c.boxed_bound-3.result
    c.boxed_bound.ensures (sym c.beside.ensures ∙ c.in_ok-low.was) c.boxed_bound-2.ensures (sym c.beside-2.ensures ∙ c.in_ok-high.was)
    c.boxed_bound-3.ensures (sym c.beside-3.ensures ∙ c.in_ok-max.was) in
    record { low = all.0; high = all.1; max = all.2 }
