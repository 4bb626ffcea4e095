use Rattle.std.proofs.Common.{◌≡◌, refl, sym, ap, ◌∙◌, subst, List, [], ◌∷◌, length, append-nil, append_assoc, arith, rules}
use Rattle.std.specs.Vec.Iter.{into_iter_items}
use Rattle.std.proofs.lemmas.List.{nil_from_length}
use Rattle.go_type.specs.Table.{Table}
use Rattle.typed_parts.specs.Meanings.{one_value}
use Rattle.typed_parts.specs.declared.meaning.Seen.{Seen}
use Rattle.typed_parts.specs.Joining.{items_of}
use Rattle.typed_calls.specs.Converting.{IsOneValue}
use Rattle.typed_parts.specs.Turning.{IsEach, Turned}
use Rattle.typed_parts.proofs.Turns.{asks, each_more, each_none}
use Rattle.typed_calls.proofs.converting.single_values.Goals as goal

pub loop-argument-init : goal.loop-argument-init
loop-argument-init c = record {
  rest = refl;
  so_far = each_none c.args.ground.now IsOneValue c.new.result.items c.new.ensures.items;
  counted = search rules;
}

pub loop-argument-preserved : goal.loop-argument-preserved
loop-argument-preserved c =
    let at = c.loop-argument in
    let x = c.in-Some.argument in
    let steps : into_iter_items at.argument-iterator ≡ x ∷ into_iter_items c.next.new.self = c.in-Some.ensures.steps.0 in
    record {
      rest = append_assoc at.yielded (x ∷ []) _ ∙ rw (← steps) at.invariant.rest;
      so_far = each_more c.args.ground.now at.ground c.one_value-value.new.ground IsOneValue at.yielded x (items_of at.values) (items_of c.in_ok-values.values)
          c.one_value-value.result at.invariant.so_far (asks at.ground c.one_value-value.new.ground (λ (types : Table). one_value types x) c.one_value-value.result c.one_value-value.ensures.answer c.one_value-value.ensures.broken) c.in_ok-values.ensures;
      counted = let was = at.invariant.counted in let gone = c.in-Some.ensures.steps.1 in let short = ap length steps in omega arith;
    }

pub returns : goal.returns
returns c =
    let at = c.loop-argument in
    let none = c.in-None.ensures.steps in
    let empty : into_iter_items at.argument-iterator ≡ [] = nil_from_length (into_iter_items at.argument-iterator) (sym at.invariant.counted ∙ none.0) in
    let all = sym (append-nil at.yielded) ∙ rw empty at at.invariant.rest ∙ c.into_iter-argument-iterator.ensures.into_iter_gives.0 in
    subst (λ (l : List Seen). Turned c.args.ground.now at.ground (items_of at.values) (IsEach IsOneValue l)) all at.invariant.so_far
