use Rattle.std.proofs.Common.{◌≡◌, sym, ap, ◌∙◌, List, [], ◌∷◌, ◌++◌, length, append_assoc, arith, Option}
use Rattle.std.specs.Vec.Iter.{into_iter_items}
use Rattle.typed_parts.specs.declared.meaning.Given.{Given}
use Rattle.typed_parts.specs.Meanings.{value_of}
use Rattle.typed_built_ins.proofs.Makes.{reports_more}
use Rattle.typed_calls.specs.Calling.{seen_broken, seen_values}
use Rattle.typed_calls.proofs.Called.{seen_broken_more, seen_values_more}
use Rattle.typed_calls.proofs.calling.values_of.Goals as goal

pub loop-argument-preserved : goal.loop-argument-preserved
loop-argument-preserved c =
    let at = c.loop-argument in
    let x = c.in-Some.argument in
    let old = c.args.ground.now in
    let steps : into_iter_items at.argument-iterator ≡ x ∷ into_iter_items c.next.new.self = c.in-Some.ensures.steps.0 in
    record {
      rest = append_assoc at.yielded (x ∷ []) _ ∙ rw (← steps) at.invariant.rest;
      values = c.in_ok-push.ensures.items ∙ (ap (λ (v : List (Option Given)). v ++ c.value_of.result ∷ []) at.invariant.values
          ∙ (ap (λ (g : Option Given). seen_values at.yielded ++ g ∷ []) c.value_of.ensures.answer ∙ sym (seen_values_more at.yielded x)));
      broken = reports_more old at.ground c.value_of.new.ground (seen_broken at.yielded) (value_of x).broken (seen_broken (at.yielded ++ x ∷ []))
          at.invariant.broken c.value_of.ensures.broken (seen_broken_more at.yielded x);
      counted = let was = at.invariant.counted in let gone = c.in-Some.ensures.steps.1 in let short = ap length steps in omega arith;
    }
