use Rattle.std.proofs.Common.{sym, ap}
use Rattle.typed_primaries.specs.declared.slicing.Bound.TheVariants as bound
use Rattle.typed_primaries.specs.Slicing.{bound_at}
use Rattle.typed_primaries.proofs.Slices.{absent_bound, unsound_bound, whole_bound}
use Rattle.typed_primaries.proofs.slicing.bound_of.Goals as goal

pub returns-in_default : goal.returns-in_default
returns-in_default c = absent_bound c.args.ground.now c.args.part c.in_default.is

pub returns-in_default-one_value : goal.returns-in_default-one_value
returns-in_default-one_value c =
    unsound_bound c.args.ground.now c.one_value.new.ground c.args.part c.in-Some.part c.one_value.result c.in-Some.is
    c.one_value.ensures.answer c.one_value.ensures.broken c.in_default-one_value.is

pub returns-in-Some-2 : goal.returns-in-Some-2
returns-in-Some-2 c =
    let x = c.in-Some-one_value.given in
    whole_bound c.args.ground.now c.one_value.new.ground c.whole_index.new.ground c.args.part c.in-Some.part c.one_value.result x
    c.in_ok-expr.field-0 (bound.Sound x.at c.in-Some-2.expr) c.in-Some.is c.one_value.ensures.answer c.one_value.ensures.broken
    c.in-Some-one_value.is c.in_ok-expr.ensures (ap (bound_at x.at) (sym c.in-Some-2.is))

pub returns-in-None : goal.returns-in-None
returns-in-None c =
    let x = c.in-Some-one_value.given in
    whole_bound c.args.ground.now c.one_value.new.ground c.whole_index.new.ground c.args.part c.in-Some.part c.one_value.result x
    c.in_ok-expr.field-0 bound.Refused c.in-Some.is c.one_value.ensures.answer c.one_value.ensures.broken
    c.in-Some-one_value.is c.in_ok-expr.ensures (ap (bound_at x.at) (sym c.in-None.is))
