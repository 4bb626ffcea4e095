use Rattle.std.proofs.Common.{◌≡◌, sym, ap, ◌∙◌, List, [], ◌∷◌, ◌++◌, length, append_assoc, arith, Option, map}
use Rattle.std.specs.Vec.Iter.{into_iter_items}
use Rattle.go_base.specs.declared.ids.TypeId.{TypeId}
use Rattle.go_tree.specs.declared.exprs.TypedExpr.{TypedExpr}
use Rattle.typed_parts.specs.Joining.{with_last}
use Rattle.typed_primaries.specs.Listing.{type_in}
use Rattle.typed_primaries.proofs.Lists.{all_more, map_more}
use Rattle.typed_primaries.proofs.listing.all_parts.Goals as goal

pub loop-part-preserved : goal.loop-part-preserved
loop-part-preserved c =
    let at = c.loop-part in
    let x = c.in-Some.part in
    let steps : into_iter_items at.part-iterator ≡ x ∷ into_iter_items c.next.new.self = c.in-Some.ensures.steps.0 in
    record {
      rest = append_assoc at.yielded (x ∷ []) _ ∙ rw (← steps) at.invariant.rest;
      values = c.in_ok-values.ensures ∙ (ap (λ (o : Option (List TypedExpr)). with_last o x) at.invariant.values ∙ sym (all_more at.yielded x));
      types = c.in_ok-push.ensures.items ∙ (ap (λ (v : List (Option TypeId)). v ++ c.type_in.result ∷ []) at.invariant.types
          ∙ (ap (λ (g : Option TypeId). map type_in at.yielded ++ g ∷ []) c.type_in.ensures ∙ sym (map_more type_in at.yielded x)));
      counted = let was = at.invariant.counted in let gone = c.in-Some.ensures.steps.1 in let short = ap length steps in omega arith;
    }
