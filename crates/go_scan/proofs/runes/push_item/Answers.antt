use Rattle.std.proofs.Common.{arith, sym, ◌∙◌, length-take-le}
use Rattle.std.proofs.lemmas.Bool.{false≢true}
use Rattle.go_scan.specs.Reading.{view_item}
use Rattle.go_scan.proofs.ItemLaws.{item-byte, item-point, item-good, point-scalar}
use Rattle.go_scan.proofs.runes.push_item.Goals as goal

pub overflow_cast-found : goal.overflow_cast-found
overflow_cast-found c = let small = item-byte c.args.rest.now (view_item c.args.found) c.requires c.if-found.true in omega (arith, small)

pub slice_bounds-extend_from_slice-end : goal.slice_bounds-extend_from_slice-end
slice_bounds-extend_from_slice-end c = let good = item-good 34 c.args.rest.now (view_item c.args.found) c.requires in sym (length-take-le c.args.found.width c.args.rest.now good.within)

pub returns-in_default : goal.returns-in_default
returns-in_default c =
    let point = item-point c.args.rest.now (view_item c.args.found) c.requires (sym c.first.ensures ∙ c.if-first-ne92.false) c.if-found.false in
    let some = c.in_default.ensures.succeeds (point-scalar c.args.found.value point) in
    absurd (false≢true some)
