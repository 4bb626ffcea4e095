use Rattle.std.proofs.Common.{◌≡◌, ap, ◌∙◌, [], ◌∷◌, ◌++◌, length, append_assoc, arith}
use Rattle.std.specs.List.{flat_map}
use Rattle.std.specs.Vec.Iter.{into_iter_items}
use Rattle.go_type.specs.Table.{Table}
use Rattle.typed_parts.specs.Judged.{reported}
use Rattle.typed_primaries.specs.Listing.{single_broken}
use Rattle.typed_primaries.proofs.Lists.{flat_more, reports_more, same_types}
use Rattle.typed_primaries.proofs.listing.ask_singles.Goals as goal

pub loop-value-preserved : goal.loop-value-preserved
loop-value-preserved c =
    let at = c.loop-value in
    let x = c.in-Some.value in
    let old = c.args.ground.now in
    let types = old.types in
    let steps : into_iter_items at.value-iterator ≡ x ∷ into_iter_items c.next.new.self = c.in-Some.ensures.steps.0 in
    let same = same_types old at.ground (flat_map (single_broken types) at.yielded) at.invariant.broken in
    record {
      rest = append_assoc at.yielded (x ∷ []) _ ∙ rw (← steps) at.invariant.rest;
      broken = reports_more old at.ground c.ask_single.new.ground (flat_map (single_broken types) at.yielded) (single_broken types x)
          (flat_map (single_broken types) (at.yielded ++ x ∷ [])) at.invariant.broken
          (c.ask_single.ensures ∙ ap (λ (t : Table). reported at.ground (single_broken t x)) same)
          (flat_more (single_broken types) at.yielded x);
      counted = let was = at.invariant.counted in let gone = c.in-Some.ensures.steps.1 in let short = ap length steps in omega arith;
    }
