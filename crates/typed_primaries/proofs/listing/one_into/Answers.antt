use Rattle.std.proofs.Common.{◌∙◌, refl, sym}
use Rattle.typed_primaries.specs.Listing.{outlined}
use Rattle.typed_primaries.proofs.Lists.{one_in_parts, one_unsound}
use Rattle.typed_primaries.proofs.listing.one_into.Goals as goal

pub returns-in_default : goal.returns-in_default
returns-in_default c =
    one_unsound c.args.ground.now c.args.with_ok c.args.targets.now c.args.value c.nothing.result c.in_default.is c.nothing.ensures

pub returns-in-Some-parts_for : goal.returns-in-Some-parts_for
returns-in-Some-parts_for c =
    one_in_parts c.args.ground.now c.parts_into.new.ground c.args.with_ok c.args.targets.now c.in-Some.value c.in_ok-parts.value c.args.value
    c.several_parts.result c.in_ok-parts.parts c.parts_for.result _ c.in-Some-parts_for.parts (outlined c.parts_into.result) c.in-Some.is
    c.several_parts.ensures (sym c.beside.ensures ∙ c.in_ok-parts.was) refl c.parts_for.ensures c.in-Some-parts_for.is c.parts_into.ensures
