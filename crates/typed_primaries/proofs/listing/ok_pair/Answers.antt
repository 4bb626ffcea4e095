use Rattle.std.proofs.Common.{◌∙◌, refl, sym, Ok}
use Rattle.typed_primaries.proofs.Lists.{ok_pair_comes}
use Rattle.typed_primaries.proofs.listing.ok_pair.Goals as goal

pub returns : goal.returns
returns c =
    ok_pair_comes c.args.ground.now c.part_into.new.ground c.ok_into.new.ground c.args.targets.now c.args.at c.args.of c.in_ok-value.value
    c.in_ok-ok.value c.in_ok-ok.ok c.target_at.result c.target_at-2.result (Ok c.in_ok-value.value) c.ok_into.result c.pair_of.result
    c.target_at.ensures c.in_ok-value.ensures refl c.target_at-2.ensures c.ok_into.ensures (sym c.beside.ensures ∙ c.in_ok-ok.was) c.pair_of.ensures
