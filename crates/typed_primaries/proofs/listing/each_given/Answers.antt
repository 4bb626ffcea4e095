use Rattle.std.proofs.Common.{◌≡◌, sym, ap, ◌∙◌, List, [], ◌∷◌, ◌++◌, length, append_assoc, arith, Option, map}
use Rattle.std.specs.List.{flat_map}
use Rattle.std.specs.Vec.Iter.{into_iter_items}
use Rattle.typed_parts.specs.declared.meaning.Given.{Given}
use Rattle.typed_primaries.specs.Listing.{given_broken, given_of}
use Rattle.typed_primaries.proofs.Lists.{flat_more, map_more, reports_more}
use Rattle.typed_primaries.proofs.listing.each_given.Goals as goal

pub loop-value-preserved : goal.loop-value-preserved
loop-value-preserved c =
    let at = c.loop-value in
    let x = c.in-Some.value in
    let steps : into_iter_items at.value-iterator ≡ x ∷ into_iter_items c.next.new.self = c.in-Some.ensures.steps.0 in
    record {
      rest = append_assoc at.yielded (x ∷ []) _ ∙ rw (← steps) at.invariant.rest;
      givens = c.in_ok-push.ensures.items ∙ (ap (λ (v : List (Option Given)). v ++ c.value_of.result ∷ []) at.invariant.givens
          ∙ (ap (λ (g : Option Given). map given_of at.yielded ++ g ∷ []) c.value_of.ensures.answer ∙ sym (map_more given_of at.yielded x)));
      broken = reports_more c.args.ground.now at.ground c.value_of.new.ground (flat_map given_broken at.yielded) (given_broken x)
          (flat_map given_broken (at.yielded ++ x ∷ [])) at.invariant.broken c.value_of.ensures.broken (flat_more given_broken at.yielded x);
      counted = let was = at.invariant.counted in let gone = c.in-Some.ensures.steps.1 in let short = ap length steps in omega arith;
    }
