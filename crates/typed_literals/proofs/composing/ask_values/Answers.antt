use Rattle.std.proofs.Common.{◌≡◌, ap, ◌∙◌, [], ◌∷◌, ◌++◌, length, append_assoc, arith}
use Rattle.std.specs.Vec.Iter.{into_iter_items}
use Rattle.go_type.specs.Table.{Table}
use Rattle.typed_parts.specs.Judged.{reported}
use Rattle.typed_parts.specs.Meanings.{one_value}
use Rattle.typed_literals.specs.declared.composing.Entry.{Entry}
use Rattle.typed_literals.specs.Composing.{values_broken}
use Rattle.typed_literals.proofs.Gathering.{flat_more, reports_more, same_types}
use Rattle.typed_literals.proofs.composing.ask_values.Goals as goal

pub loop-element-preserved : goal.loop-element-preserved
loop-element-preserved c =
    let at = c.loop-element in
    let x = c.in-Some.element in
    let old = c.args.ground.now in
    let types = old.types in
    let steps : into_iter_items at.element-iterator ≡ x ∷ into_iter_items c.next.new.self = c.in-Some.ensures.steps.0 in
    let same = same_types old at.ground (values_broken types at.yielded) at.invariant.broken in
    record {
      rest = append_assoc at.yielded (x ∷ []) _ ∙ rw (← steps) at.invariant.rest;
      broken = reports_more old at.ground c.one_value.new.ground (values_broken types at.yielded) (one_value types x.value).broken
          (values_broken types (at.yielded ++ x ∷ [])) at.invariant.broken
          (c.one_value.ensures.broken ∙ ap (λ (t : Table). reported at.ground (one_value t x.value).broken) same)
          (flat_more (λ (element : Entry). (one_value types element.value).broken) at.yielded x);
      counted = let was = at.invariant.counted in let gone = c.in-Some.ensures.steps.1 in let short = ap length steps in omega arith;
    }
