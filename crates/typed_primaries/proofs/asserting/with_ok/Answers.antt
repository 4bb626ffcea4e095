use Rattle.std.proofs.Common.{◌∙◌, sym}
use Rattle.typed_primaries.proofs.Asserts.{with_ok_comes}
use Rattle.typed_primaries.proofs.asserting.with_ok.Goals as goal

pub returns : goal.returns
returns c =
    with_ok_comes c.args.ground.now c.tuple-pair.new.self c.args.expr c.in_ok-pair.expr c.basic.result c.tuple-pair.result c.in_ok-pair.pair
    c.paired.result c.basic.ensures c.tuple-pair.ensures.named c.tuple-pair.ensures.held (sym c.beside.ensures ∙ c.in_ok-pair.was)
    c.paired.ensures
