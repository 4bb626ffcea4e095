use Rattle.std.proofs.Common.{◌≡◌, refl, sym, ap, ◌∙◌, subst, List, [], ◌∷◌, ◌++◌, length, append-nil, append_assoc, Option, arith, rules}
use Rattle.std.specs.Vec.Iter.{into_iter_items}
use Rattle.std.proofs.lemmas.List.{nil_from_length}
use Rattle.go_type.specs.Table.{Table}
use Rattle.typed_parts.specs.declared.meaning.Given.{Given}
use Rattle.typed_parts.specs.Joining.{items_of}
use Rattle.typed_parts.specs.Turning.{IsEach, Turned}
use Rattle.typed_parts.proofs.Turns.{each_more, each_none, keeps}
use Rattle.typed_built_ins.specs.Extremes.{IsArgument, IsOfCommon}
use Rattle.typed_built_ins.proofs.extremes.each_of_type.Goals as goal

pub loop-argument-init : goal.loop-argument-init
loop-argument-init c = record {
  rest = refl;
  so_far = each_none c.args.ground.now (IsArgument c.args.of) c.new.result.items c.new.ensures.items;
  counted = search rules;
}

pub loop-argument-preserved : goal.loop-argument-preserved
loop-argument-preserved c =
    let at = c.loop-argument in
    let x = c.in-Some.argument in
    let of = c.args.of in
    let steps : into_iter_items at.argument-iterator ≡ x ∷ into_iter_items c.next.new.self = c.in-Some.ensures.steps.0 in
    record {
      rest = append_assoc at.yielded (x ∷ []) _ ∙ rw (← steps) at.invariant.rest;
      so_far = each_more c.args.ground.now at.ground c.of_type.new.ground (IsArgument of) at.yielded x (items_of at.values) (items_of c.in_ok-values.values)
          c.in_ok-value.value at.invariant.so_far
          (keeps at.ground c.of_type.new.ground (λ (t : Table). IsOfCommon t of x) c.in_ok-value.value c.in_ok-value.ensures) c.in_ok-values.ensures;
      counted = let was = at.invariant.counted in let gone = c.in-Some.ensures.steps.1 in let short = ap length steps in omega arith;
    }

pub returns : goal.returns
returns c =
    let at = c.loop-argument in
    let none = c.in-None.ensures.steps in
    let empty : into_iter_items at.argument-iterator ≡ [] = nil_from_length (into_iter_items at.argument-iterator) (sym at.invariant.counted ∙ none.0) in
    let all = sym (append-nil at.yielded) ∙ rw empty at at.invariant.rest ∙ c.into_iter-argument-iterator.ensures.into_iter_gives.0 in
    subst (λ (l : List (Option Given)). Turned c.args.ground.now at.ground (items_of at.values) (IsEach (IsArgument c.args.of) l)) all at.invariant.so_far
