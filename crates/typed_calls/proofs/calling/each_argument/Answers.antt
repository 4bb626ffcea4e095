use Rattle.std.proofs.Common.{◌≡◌, sym, ap, ◌∙◌, List, [], ◌∷◌, ◌++◌, length, append_assoc, arith, Option}
use Rattle.std.specs.Vec.Iter.{into_iter_items}
use Rattle.go_type.specs.Table.{Table}
use Rattle.typed_parts.specs.declared.meaning.Given.{Given}
use Rattle.typed_parts.specs.Judged.{reported}
use Rattle.typed_built_ins.proofs.Makes.{reports_more, same_types}
use Rattle.typed_calls.specs.Calling.{one_of, singles, singles_broken}
use Rattle.typed_calls.proofs.Called.{singles_broken_more, singles_more}
use Rattle.typed_calls.proofs.calling.each_argument.Goals as goal

pub loop-value-preserved : goal.loop-value-preserved
loop-value-preserved c =
    let at = c.loop-value in
    let x = c.in-Some.value in
    let old = c.args.ground.now in
    let types = old.types in
    let steps : into_iter_items at.value-iterator ≡ x ∷ into_iter_items c.next.new.self = c.in-Some.ensures.steps.0 in
    let same = same_types old at.ground (singles_broken types at.yielded) at.invariant.broken in
    let one = c.only_one.ensures.answer ∙ ap (λ (t : Table). (one_of t x).sound) same in
    record {
      rest = append_assoc at.yielded (x ∷ []) _ ∙ rw (← steps) at.invariant.rest;
      values = c.in_ok-push.ensures.items ∙ (ap (λ (v : List (Option Given)). v ++ c.only_one.result ∷ []) at.invariant.values
          ∙ (ap (λ (g : Option Given). singles types at.yielded ++ g ∷ []) one ∙ sym (singles_more types at.yielded x)));
      broken = reports_more old at.ground c.only_one.new.ground (singles_broken types at.yielded) (one_of types x).broken
          (singles_broken types (at.yielded ++ x ∷ [])) at.invariant.broken
          (c.only_one.ensures.broken ∙ ap (λ (t : Table). reported at.ground (one_of t x).broken) same) (singles_broken_more types at.yielded x);
      counted = let was = at.invariant.counted in let gone = c.in-Some.ensures.steps.1 in let short = ap length steps in omega arith;
    }
