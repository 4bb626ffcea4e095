use Rattle.std.proofs.Common.{◌≡◌, refl, sym, ap, ◌∙◌, List, [], ◌∷◌, ◌++◌, length, append_assoc, arith, Option}
use Rattle.std.specs.Vec.Iter.{into_iter_items}
use Rattle.go_type.specs.Table.{Table}
use Rattle.typed_parts.specs.declared.meaning.Given.{Given}
use Rattle.typed_parts.specs.Judged.{reported}
use Rattle.typed_parts.specs.Meanings.{one_value}
use Rattle.typed_built_ins.specs.BuiltIns.{broken_in, values_in}
use Rattle.typed_built_ins.proofs.Makes.{broken_more, reports_more, same_types, values_more}
use Rattle.typed_built_ins.proofs.built_ins.each_value.Goals as goal

pub loop-argument-preserved : goal.loop-argument-preserved
loop-argument-preserved c =
    let at = c.loop-argument in
    let x = c.in-Some.argument in
    let old = c.args.ground.now in
    let types = old.types in
    let steps : into_iter_items at.argument-iterator ≡ x ∷ into_iter_items c.next.new.self = c.in-Some.ensures.steps.0 in
    let same = same_types old at.ground (broken_in types at.yielded) at.invariant.broken in
    let one = c.one_value.ensures.answer ∙ ap (λ (t : Table). (one_value t x).sound) same in
    record {
      rest = append_assoc at.yielded (x ∷ []) _ ∙ rw (← steps) at.invariant.rest;
      values = c.in_ok-push.ensures.items ∙ (ap (λ (v : List (Option Given)). v ++ c.one_value.result ∷ []) at.invariant.values
          ∙ (ap (λ (g : Option Given). values_in types at.yielded ++ g ∷ []) one ∙ sym (values_more types at.yielded x)));
      broken = reports_more old at.ground c.one_value.new.ground (broken_in types at.yielded) (one_value types x).broken
          (broken_in types (at.yielded ++ x ∷ [])) at.invariant.broken
          (c.one_value.ensures.broken ∙ ap (λ (t : Table). reported at.ground (one_value t x).broken) same) (broken_more types at.yielded x);
      counted = let was = at.invariant.counted in let gone = c.in-Some.ensures.steps.1 in let short = ap length steps in omega arith;
    }
