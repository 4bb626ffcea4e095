use Rattle.std.proofs.Common.{◌∙◌, sym, subst, List}
use Rattle.go_base.specs.declared.ids.TypeId.{TypeId}
use Rattle.typed_parts.specs.Turning.{Turns}
use Rattle.typed_primaries.specs.Listing.{AreOfParts, outlined}
use Rattle.typed_primaries.proofs.Lists.{parts_come}
use Rattle.typed_primaries.proofs.listing.parts_into.Goals as goal

pub returns : goal.returns
returns c =
    let old = c.args.ground.now in
    let mid = c.each_part-made.new.ground in
    let targets = c.args.targets.now in
    subst (λ (l : List TypeId). Turns old mid (outlined c.spread.result) (AreOfParts targets c.args.value l)) c.as_slice.ensures.value
    (parts_come old mid targets c.args.value c.in_ok-made.expr c.as_slice.result.now c.each_part-made.result c.in_ok-made.made c.spread.result
    c.each_part-made.ensures (sym c.beside.ensures ∙ c.in_ok-made.was) c.spread.ensures)
