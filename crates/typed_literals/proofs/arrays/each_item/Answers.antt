use Rattle.std.proofs.Common.{◌≡◌, refl, sym, ap, ◌∙◌, subst, List, [], ◌∷◌, length, append-nil, append_assoc, arith, rules, Some}
use Rattle.std.specs.Vec.Iter.{into_iter_items}
use Rattle.std.proofs.lemmas.List.{nil_from_length}
use Rattle.typed_parts.specs.Joining.{items_of}
use Rattle.typed_literals.specs.declared.composing.Entry.{Entry}
use Rattle.typed_literals.proofs.Gathering.{KnownSoFar, known_none}
use Rattle.typed_literals.proofs.Items.{IsItemAt, IsRowSoFar, items_counted, items_more}
use Rattle.typed_literals.proofs.arrays.each_item.Goals as goal

pub loop-element-init : goal.loop-element-init
loop-element-init c = record {
  rest = refl;
  so_far = known_none c.args.ground.now (IsItemAt c.args.elem c.args.limit) (IsRowSoFar c.args.limit (Some c.new.result.items) c.new-row.result)
      c.new.result.items c.new.ensures.items (record { met = c.new-row.ensures.met; len = c.new-row.ensures.len });
  counted = search rules;
}

pub loop-element-preserved : goal.loop-element-preserved
loop-element-preserved c =
    let at = c.loop-element in
    let x = c.in-Some.element in
    let steps : into_iter_items at.element-iterator ≡ x ∷ into_iter_items c.next.new.self = c.in-Some.ensures.steps.0 in
    record {
      rest = append_assoc at.yielded (x ∷ []) _ ∙ rw (← steps) at.invariant.rest;
      so_far = items_more c.args.ground.now at.ground c.item_in.new.ground c.args.elem c.args.limit at.yielded x at.row c.item_in.new.row
          (items_of at.items) (items_of c.in_ok-items.items) c.in_ok-item.item at.invariant.so_far (c.in_ok-item.ensures c.args.limit) c.in_ok-items.ensures;
      counted = let was = at.invariant.counted in let gone = c.in-Some.ensures.steps.1 in let short = ap length steps in omega arith;
    }

pub returns : goal.returns
returns c =
    let at = c.loop-element in
    let none = c.in-None.ensures.steps in
    let empty : into_iter_items at.element-iterator ≡ [] = nil_from_length (into_iter_items at.element-iterator) (sym at.invariant.counted ∙ none.0) in
    let all = sym (append-nil at.yielded) ∙ rw empty at at.invariant.rest ∙ c.into_iter-element-iterator.ensures.into_iter_gives.0 in
    items_counted c.args.ground.now at.ground c.args.elem c.args.limit c.args.elements.items at.row at.items c.unwrap_or-len.result c.zip.result
    (subst (λ (l : List Entry). KnownSoFar c.args.ground.now at.ground (IsItemAt c.args.elem c.args.limit) (IsRowSoFar c.args.limit (items_of at.items) at.row) l (items_of at.items)) all at.invariant.so_far)
    c.unwrap_or-len.ensures c.zip.ensures
