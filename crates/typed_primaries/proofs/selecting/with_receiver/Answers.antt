use Rattle.std.proofs.Common.{◌∙◌, ap, sym, Some}
use Rattle.typed_primaries.proofs.Selects.{prefixed}
use Rattle.typed_primaries.proofs.selecting.with_receiver.Goals as goal

pub returns : goal.returns
returns c =
    prefixed c.args.ground.now c.hold.new.self c.args.receiver c.args.function c.in-Some-Func.signature c.in_ok-longer.longer c.hold.result
    (sym (sym (ap Some c.in-Some-Func.field-0-is) ∙ c.in-Some-Func.ensures.term)) c.in_ok-longer.ensures c.hold.ensures.named c.hold.ensures.held
