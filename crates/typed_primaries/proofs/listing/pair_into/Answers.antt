use Rattle.std.proofs.Common.{◌∙◌, sym}
use Rattle.typed_primaries.proofs.Lists.{pair_comes}
use Rattle.typed_primaries.proofs.listing.pair_into.Goals as goal

pub returns : goal.returns
returns c =
    pair_comes c.args.ground.now c.ok_pair.new.ground c.with_ok.new.ground c.args.targets.now c.args.value c.in_ok-parts.value c.in_ok-tuple.tuple
    c.in_ok-parts.parts c.in_ok-tuple.parts c.ok_pair.result c.with_ok.result c.spread.result c.ok_pair.ensures
    (sym c.beside.ensures ∙ c.in_ok-parts.was) c.with_ok.ensures (sym c.beside-2.ensures ∙ c.in_ok-tuple.was) c.spread.ensures
