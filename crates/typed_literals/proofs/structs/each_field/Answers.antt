use Rattle.std.proofs.Common.{◌≡◌, ◌+◌, ◌^◌, ◌<◌, ◌≤◌, ℕ, suc, refl, sym, ap, ◌∙◌, subst, List, [], ◌∷◌, ◌++◌, length, append-nil, append_assoc, length-append, arith, rules}
use Rattle.std.specs.Vec.Iter.{into_iter_items}
use Rattle.std.proofs.lemmas.List.{nil_from_length}
use Rattle.go_type.specs.Table.{Table}
use Rattle.typed_parts.specs.Joining.{items_of}
use Rattle.typed_parts.specs.Judged.{Outcome}
use Rattle.typed_parts.specs.Turning.{IsEach, Turned}
use Rattle.typed_parts.proofs.Turns.{each_more, each_none, keeps}
use Rattle.typed_literals.specs.declared.structs.Element.{Element}
use Rattle.typed_literals.specs.Structs.{IsListed}
use Rattle.typed_literals.proofs.Keys.{IsListedAt}
use Rattle.typed_literals.proofs.structs.each_field.Goals as goal

below_all : (number so_far left rest all len cap : ℕ) → number ≡ so_far → left ≡ suc rest → so_far + left ≡ all → all ≡ len → len ≤ cap
    → cap < 2 ^ 63 → number + 1 < 2 ^ 64
below_all number so_far left rest all len cap a b d e f g = omega arith

pub loop-element-init : goal.loop-element-init
loop-element-init c = record {
  rest = refl;
  so_far = each_none c.args.ground.now (IsListedAt c.args.of) c.new.result.items c.new.ensures.items;
  number = refl;
  counted = search rules;
}

pub overflow_add-number : goal.overflow_add-number
overflow_add-number c =
    let at = c.loop-element in
    let steps : into_iter_items at.element-iterator ≡ c.in-Some.element ∷ into_iter_items c.next.new.self = c.in-Some.ensures.steps.0 in
    let whole : at.yielded ++ into_iter_items at.element-iterator ≡ c.args.elements.items = at.invariant.rest ∙ c.into_iter-element-iterator.ensures.into_iter_gives.0 in
    let one = ap length steps in
    let all : length at.yielded + length (into_iter_items at.element-iterator) ≡ length c.args.elements.items =
    sym (length-append at.yielded (into_iter_items at.element-iterator)) ∙ ap length whole in
    let small : at.number + 1 < 2 ^ 64 = below_all at.number (length at.yielded) (length (into_iter_items at.element-iterator)) (length (into_iter_items c.next.new.self)) (length c.args.elements.items)
    c.args.elements.len c.args.elements.cap at.invariant.number one all (sym c.args.elements.ok.0) c.args.elements.ok.1 c.args.elements.small in
    omega arith

pub loop-element-preserved : goal.loop-element-preserved
loop-element-preserved c =
    let at = c.loop-element in
    let x = c.in-Some.element in
    let new = c.listed_field.new.ground in
    let of = c.args.of in
    let steps : into_iter_items at.element-iterator ≡ x ∷ into_iter_items c.next.new.self = c.in-Some.ensures.steps.0 in
    let one = subst (λ (n : ℕ). Outcome at.ground new c.in_ok-field.field (IsListed at.ground.types of n x)) at.invariant.number c.in_ok-field.ensures in
    record {
      rest = append_assoc at.yielded (x ∷ []) _ ∙ rw (← steps) at.invariant.rest;
      so_far = each_more c.args.ground.now at.ground new (IsListedAt of) at.yielded x (items_of at.fields) (items_of c.in_ok-fields.fields)
          c.in_ok-field.field at.invariant.so_far (keeps at.ground new (λ (types : Table). IsListed types of (length at.yielded) x) c.in_ok-field.field one) c.in_ok-fields.ensures;
      number = ap (λ (n : ℕ). n + 1) at.invariant.number ∙ sym (length-append at.yielded (x ∷ []));
      counted = let was = at.invariant.counted in let gone = c.in-Some.ensures.steps.1 in let short = ap length steps in omega arith;
    }

pub returns : goal.returns
returns c =
    let at = c.loop-element in
    let none = c.in-None.ensures.steps in
    let empty : into_iter_items at.element-iterator ≡ [] = nil_from_length (into_iter_items at.element-iterator) (sym at.invariant.counted ∙ none.0) in
    let all = sym (append-nil at.yielded) ∙ rw empty at at.invariant.rest ∙ c.into_iter-element-iterator.ensures.into_iter_gives.0 in
    subst (λ (l : List Element). Turned c.args.ground.now at.ground (items_of at.fields) (IsEach (IsListedAt c.args.of) l)) all at.invariant.so_far
