use Rattle.std.proofs.Common.{◌∙◌, sym}
use Rattle.typed_primaries.proofs.Slices.{bounds_come}
use Rattle.typed_primaries.proofs.slicing.bounds_of.Goals as goal

pub returns : goal.returns
returns c =
    bounds_come c.args.ground.now c.bound_of.new.ground c.bound_of-2.new.ground c.bound_of-3.new.ground c.args.low c.args.high c.args.max
    c.in_ok-low.high c.in_ok-low.max c.in_ok-high.max c.in_ok-low.low c.in_ok-high.low c.in_ok-max.low c.in_ok-high.high c.in_ok-max.high
    c.in_ok-max.max c.bound_of.result c.bound_of-2.result c.bound_of-3.result c.bound_of.ensures (sym c.beside.ensures ∙ c.in_ok-low.was)
    c.bound_of-2.ensures (sym c.beside-2.ensures ∙ c.in_ok-high.was) c.bound_of-3.ensures (sym c.beside-3.ensures ∙ c.in_ok-max.was)
