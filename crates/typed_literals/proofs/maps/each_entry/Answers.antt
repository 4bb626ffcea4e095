use Rattle.std.proofs.Common.{◌≡◌, refl, sym, ap, ◌∙◌, subst, List, [], ◌∷◌, length, append-nil, append_assoc, arith, rules}
use Rattle.std.specs.Vec.Iter.{into_iter_items}
use Rattle.std.proofs.lemmas.List.{nil_from_length}
use Rattle.typed_parts.specs.Joining.{items_of}
use Rattle.typed_literals.specs.declared.composing.Entry.{Entry}
use Rattle.typed_literals.proofs.Entries.{AreKeysIn, IsEntryAt, entries_are}
use Rattle.typed_literals.proofs.Gathering.{KnownSoFar, known_more, known_none}
use Rattle.typed_literals.proofs.maps.each_entry.Goals as goal

pub loop-element-init : goal.loop-element-init
loop-element-init c = record {
  rest = refl;
  so_far = known_none c.args.ground.now (IsEntryAt c.args.key c.args.elem) (AreKeysIn c.new-keys.result) c.new.result.items c.new.ensures.items c.new-keys.ensures;
  counted = search rules;
}

pub loop-element-preserved : goal.loop-element-preserved
loop-element-preserved c =
    let at = c.loop-element in
    let x = c.in-Some.element in
    let steps : into_iter_items at.element-iterator ≡ x ∷ into_iter_items c.next.new.self = c.in-Some.ensures.steps.0 in
    record {
      rest = append_assoc at.yielded (x ∷ []) _ ∙ rw (← steps) at.invariant.rest;
      so_far = known_more c.args.ground.now at.ground c.entry_of.new.ground (IsEntryAt c.args.key c.args.elem) (AreKeysIn at.keys) (AreKeysIn c.entry_of.new.keys)
          at.yielded x (items_of at.entries) (items_of c.in_ok-entries.entries) c.in_ok-entry.entry at.invariant.so_far c.in_ok-entry.ensures c.in_ok-entries.ensures;
      counted = let was = at.invariant.counted in let gone = c.in-Some.ensures.steps.1 in let short = ap length steps in omega arith;
    }

pub returns : goal.returns
returns c =
    let at = c.loop-element in
    let none = c.in-None.ensures.steps in
    let empty : into_iter_items at.element-iterator ≡ [] = nil_from_length (into_iter_items at.element-iterator) (sym at.invariant.counted ∙ none.0) in
    let all = sym (append-nil at.yielded) ∙ rw empty at at.invariant.rest ∙ c.into_iter-element-iterator.ensures.into_iter_gives.0 in
    entries_are c.args.ground.now at.ground c.args.key c.args.elem c.args.elements.items at.keys (items_of at.entries)
    (subst (λ (l : List Entry). KnownSoFar c.args.ground.now at.ground (IsEntryAt c.args.key c.args.elem) (AreKeysIn at.keys) l (items_of at.entries)) all at.invariant.so_far)
