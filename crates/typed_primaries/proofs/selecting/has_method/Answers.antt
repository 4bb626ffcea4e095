use Rattle.typed_primaries.proofs.MethodNames.{has_by_name}
use Rattle.typed_primaries.proofs.selecting.has_method.Goals as goal

pub returns : goal.returns
returns c =
    has_by_name c.args.ground.now.types c.args.of c.args.selected c.in_ok-methods.methods c.as_slice.result.now c.is_among.result
    c.in_ok-methods.ensures.sound c.in_ok-methods.ensures.complete c.as_slice.ensures c.is_among.ensures
