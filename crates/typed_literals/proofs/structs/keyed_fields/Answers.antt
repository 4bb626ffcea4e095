use Rattle.std.proofs.Common.{◌≡◌, ℕ, refl, sym, ap, ◌∙◌, subst, List, [], ◌∷◌, ◌++◌, length, append-nil, append_assoc, arith, rules}
use Rattle.std.specs.Vec.Iter.{into_iter_items}
use Rattle.std.proofs.lemmas.List.{nil_from_length}
use Rattle.std.specs.Prelude.{nat_eq}
use Rattle.std.specs.List.{list_any}
use Rattle.go_type.specs.Table.{Table}
use Rattle.typed_parts.specs.Joining.{items_of}
use Rattle.typed_parts.specs.Turning.{IsEach, Turned}
use Rattle.typed_parts.proofs.Turns.{each_more, each_none}
use Rattle.typed_literals.specs.declared.structs.Element.{Element}
use Rattle.typed_parts.specs.Shapes.{fields_of}
use Rattle.typed_literals.specs.Structs.{AreTaken, IsKeyed}
use Rattle.typed_literals.proofs.Keys.{IsKeyedAt, keyed_at, kept_types}
use Rattle.typed_literals.proofs.structs.keyed_fields.Goals as goal

pub loop-element-init : goal.loop-element-init
loop-element-init c = record {
  rest = refl;
  so_far = each_none c.args.ground.now (IsKeyedAt c.args.of c.args.elements.items) c.new.result.items c.new.ensures.items;
  taken = λ (number : ℕ). ap (λ (keys : List ℕ). list_any (nat_eq number) keys) c.new-taken.ensures.empty;
  types = refl;
  counted = search rules;
}

pub loop-element-preserved : goal.loop-element-preserved
loop-element-preserved c =
    let at = c.loop-element in
    let x = c.in-Some.element in
    let old = c.args.ground.now in
    let new = c.keyed_field.new.ground in
    let of = c.args.of in
    let all = c.args.elements.items in
    let steps : into_iter_items at.element-iterator ≡ x ∷ into_iter_items c.next.new.self = c.in-Some.ensures.steps.0 in
    let whole : at.yielded ++ into_iter_items at.element-iterator ≡ all = at.invariant.rest ∙ c.into_iter-element-iterator.ensures.into_iter_gives.0 in
    let taken = subst (λ (types : Table). AreTaken (fields_of types of) at.yielded at.taken) (sym at.invariant.types) at.invariant.taken in
    let is = c.in_ok-field.ensures.is at.yielded taken in
    let more = c.in_ok-field.ensures.taken at.yielded taken in
    record {
      rest = append_assoc at.yielded (x ∷ []) _ ∙ rw (← steps) at.invariant.rest;
      so_far = each_more old at.ground new (IsKeyedAt of all) at.yielded x (items_of at.fields) (items_of c.in_ok-fields.fields)
          c.in_ok-field.field at.invariant.so_far
          (keyed_at at.ground new of all at.yielded (into_iter_items at.element-iterator) x c.in_ok-field.field whole is) c.in_ok-fields.ensures;
      taken = subst (λ (types : Table). AreTaken (fields_of types of) (at.yielded ++ x ∷ []) c.keyed_field.new.taken) at.invariant.types more;
      types = kept_types at.ground new c.in_ok-field.field (IsKeyed at.ground.types of at.yielded x) is ∙ at.invariant.types;
      counted = let was = at.invariant.counted in let gone = c.in-Some.ensures.steps.1 in let short = ap length steps in omega arith;
    }

pub returns : goal.returns
returns c =
    let at = c.loop-element in
    let none = c.in-None.ensures.steps in
    let empty : into_iter_items at.element-iterator ≡ [] = nil_from_length (into_iter_items at.element-iterator) (sym at.invariant.counted ∙ none.0) in
    let all = sym (append-nil at.yielded) ∙ rw empty at at.invariant.rest ∙ c.into_iter-element-iterator.ensures.into_iter_gives.0 in
    subst (λ (l : List Element). Turned c.args.ground.now at.ground (items_of at.fields) (IsEach (IsKeyedAt c.args.of c.args.elements.items) l)) all at.invariant.so_far
