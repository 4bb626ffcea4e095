use Rattle.std.proofs.Common.{◌≡◌, sym, ap, ◌∙◌, List, [], ◌∷◌, ◌++◌, length, append_assoc, arith, Option}
use Rattle.std.specs.Vec.Iter.{into_iter_items}
use Rattle.go_type.specs.Table.{Table}
use Rattle.typed_parts.specs.declared.meaning.Given.{Given}
use Rattle.typed_parts.specs.Judged.{reported}
use Rattle.typed_parts.specs.Meanings.{one_value}
use Rattle.typed_literals.specs.declared.composing.FieldEntry.{FieldEntry}
use Rattle.typed_literals.specs.declared.structs.Element.{Element}
use Rattle.typed_literals.specs.Structs.{asked_broken, asked_element, asked_elements}
use Rattle.typed_literals.proofs.Gathering.{flat_more, map_more, reports_more, same_types}
use Rattle.typed_literals.proofs.structs.each_asked.Goals as goal

with_value : FieldEntry → Option Given → Element
with_value entry value =
    record { at = entry.at; has_key = entry.has_key; name = entry.name; «package» = entry.«package»; value = value }

pub loop-element-preserved : goal.loop-element-preserved
unfolding with_value
loop-element-preserved c =
    let at = c.loop-element in
    let x = c.in-Some.element in
    let old = c.args.ground.now in
    let types = old.types in
    let steps : into_iter_items at.element-iterator ≡ x ∷ into_iter_items c.next.new.self = c.in-Some.ensures.steps.0 in
    let same = same_types old at.ground (asked_broken types at.yielded) at.invariant.broken in
    let one : c.one_value.result ≡ (one_value types x.value).sound = c.one_value.ensures.answer ∙ ap (λ (t : Table). (one_value t x.value).sound) same in
    record {
      rest = append_assoc at.yielded (x ∷ []) _ ∙ rw (← steps) at.invariant.rest;
      asked = c.in_ok-push.ensures.items ∙ (ap (λ (v : List Element). v ++ with_value x c.one_value.result ∷ []) at.invariant.asked
          ∙ (ap (λ (g : Option Given). asked_elements types at.yielded ++ with_value x g ∷ []) one ∙ sym (map_more (asked_element types) at.yielded x)));
      broken = reports_more old at.ground c.one_value.new.ground (asked_broken types at.yielded) (one_value types x.value).broken
          (asked_broken types (at.yielded ++ x ∷ [])) at.invariant.broken
          (c.one_value.ensures.broken ∙ ap (λ (t : Table). reported at.ground (one_value t x.value).broken) same)
          (flat_more (λ (entry : FieldEntry). (one_value types entry.value).broken) at.yielded x);
      counted = let was = at.invariant.counted in let gone = c.in-Some.ensures.steps.1 in let short = ap length steps in omega arith;
    }
