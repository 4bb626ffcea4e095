use Rattle.std.proofs.Common.{◌≡◌, refl, sym, ap, ◌∙◌, subst, List, [], ◌∷◌, length, append-nil, append_assoc, Option, Some, arith, rules}
use Rattle.std.specs.Vec.Iter.{into_iter_items}
use Rattle.std.proofs.lemmas.List.{nil_from_length}
use Rattle.typed_parts.specs.declared.meaning.Given.{Given}
use Rattle.typed_parts.specs.Turning.{IsEach, Turned}
use Rattle.typed_parts.proofs.Turns.{each_none}
use Rattle.typed_primaries.specs.Listing.{IsValueInto}
use Rattle.typed_primaries.proofs.Lists.{one_longer, values_more}
use Rattle.typed_primaries.proofs.listing.each_value.Goals as goal

pub loop-value-init : goal.loop-value-init
loop-value-init c = record {
  rest = refl;
  so_far = each_none c.args.ground.now (IsValueInto c.args.targets.now) c.new-made.result.items c.new-made.ensures.items;
  many = ap length c.new-made.ensures.items;
  counted = search rules;
}

pub loop-value-preserved : goal.loop-value-preserved
loop-value-preserved c =
    let at = c.loop-value in
    let x = c.in-Some.value in
    let steps : into_iter_items at.value-iterator ≡ x ∷ into_iter_items c.next.new.self = c.in-Some.ensures.steps.0 in
    record {
      rest = append_assoc at.yielded (x ∷ []) _ ∙ rw (← steps) at.invariant.rest;
      so_far = values_more c.args.ground.now at.ground c.value_into.new.ground c.args.targets.now at.yielded x c.len.result c.target_at-target.result
          at.made.items c.push.new.self.items c.in_ok-value.value (c.len.ensures ∙ (at.made.ok.0 ∙ at.invariant.many)) c.target_at-target.ensures
          at.invariant.so_far c.in_ok-value.ensures c.in_ok-push.ensures.items;
      many = one_longer at.made.items c.push.new.self.items at.yielded c.in_ok-value.value x at.invariant.many c.in_ok-push.ensures.items;
      counted = let was = at.invariant.counted in let gone = c.in-Some.ensures.steps.1 in let short = ap length steps in omega arith;
    }

pub returns : goal.returns
returns c =
    let at = c.loop-value in
    let none = c.in-None.ensures.steps in
    let empty : into_iter_items at.value-iterator ≡ [] = nil_from_length (into_iter_items at.value-iterator) (sym at.invariant.counted ∙ none.0) in
    let all = sym (append-nil at.yielded) ∙ rw empty at at.invariant.rest ∙ c.into_iter-value-iterator.ensures.into_iter_gives.0 in
    subst (λ (l : List (Option Given)). Turned c.args.ground.now at.ground (Some at.made.items) (IsEach (IsValueInto c.args.targets.now) l)) all at.invariant.so_far
