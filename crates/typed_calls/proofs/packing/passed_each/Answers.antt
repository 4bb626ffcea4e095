use Rattle.std.proofs.Common.{◌≡◌, ℕ, ◌+◌, refl, sym, ap, ◌∙◌, subst, List, [], ◌∷◌, ◌++◌, length, map, append-nil, append_assoc, Option, arith, rules}
use Rattle.std.specs.Iterator.Adapters.{enumerate_source}
use Rattle.std.specs.Vec.Iter.{into_iter_items}
use Rattle.std.proofs.lemmas.Grind.{common_steps}
use Rattle.std.proofs.lemmas.List.{nil_from_length}
use Rattle.go_base.specs.declared.ids.TypeId.{TypeId}
use Rattle.go_type.specs.Table.{Table}
use Rattle.typed_parts.specs.declared.meaning.Given.{Given}
use Rattle.typed_parts.specs.Adapting.{IsAssignedTo}
use Rattle.typed_parts.specs.Joining.{items_of}
use Rattle.typed_parts.specs.Judged.{Outcome}
use Rattle.typed_parts.specs.Turning.{Turned}
use Rattle.typed_parts.proofs.Turns.{each_more, each_none, keeps}
use Rattle.typed_calls.specs.Packing.{ArePassed, IsPassedTo}
use Rattle.typed_calls.specs.Passing.{target}
use Rattle.typed_calls.proofs.Packs.{numbered, numbered_more, one_longer}
use Rattle.typed_calls.proofs.packing.passed_each.Goals as goal

pub loop-number-init : goal.loop-number-init
loop-number-init c = record {
  rest = refl;
  so_far = each_none c.args.ground.now (IsPassedTo c.args.plan c.args.signature.now) c.new.result.items c.new.ensures.items;
  at = search rules;
  counted = search rules;
}

pub loop-number-preserved : goal.loop-number-preserved
loop-number-preserved c =
    let at = c.loop-number in
    let x = c.in-Some.value in
    let n = c.in-Some.number in
    let plan = c.args.plan in
    let signature = c.args.signature.now in
    let before = map numbered at.yielded in
    let here = enumerate_source at.number-iterator in
    let step = c.in-Some.ensures.steps in
    let steps : into_iter_items here ≡ x ∷ into_iter_items (enumerate_source c.next.new.self) = step.0.0 in
    let number : n ≡ length before = step.1 ∙ at.invariant.at in
    let all : map numbered (at.yielded ++ (n, x) ∷ []) ≡ before ++ x ∷ [] = numbered_more at.yielded (n, x) in
    let more = each_more c.args.ground.now at.ground c.assigned.new.ground (IsPassedTo plan signature) before x (items_of at.passed) (items_of c.in_ok-passed.passed)
    c.in_ok-value.value at.invariant.so_far
    (keeps at.ground c.assigned.new.ground (λ (t : Table). IsAssignedTo t x (target plan signature (length before))) c.in_ok-value.value
    (subst (λ (o : Option TypeId). Outcome at.ground c.assigned.new.ground c.in_ok-value.value (IsAssignedTo at.ground.types x o))
    (c.target-to.ensures ∙ ap (target plan signature) number) c.in_ok-value.ensures))
    c.in_ok-passed.ensures in
    record {
      rest = ap (λ (l : List (Option Given)). l ++ into_iter_items (enumerate_source c.next.new.self)) all
          ∙ (append_assoc before (x ∷ []) (into_iter_items (enumerate_source c.next.new.self)) ∙ rw (← steps) at.invariant.rest);
      so_far = subst (λ (l : List (Option Given)). Turned c.args.ground.now c.assigned.new.ground (items_of c.in_ok-passed.passed) (ArePassed plan signature l)) (sym all) more;
      at = step.2 ∙ (ap (λ (m : ℕ). m + 1) at.invariant.at ∙ (sym (one_longer before x) ∙ ap (λ (l : List (Option Given)). length l) (sym all)));
      counted = let was = at.invariant.counted in let gone = step.0.1 in let short = ap length steps in omega arith;
    }

pub returns : goal.returns
returns c =
    let at = c.loop-number in
    let none = c.in-None.ensures.steps in
    let here = enumerate_source at.number-iterator in
    let empty : into_iter_items here ≡ [] = nil_from_length (into_iter_items here) (sym at.invariant.counted ∙ none.0.0) in
    let start : into_iter_items (enumerate_source c.into_iter-number-iterator.result) ≡ c.args.values.items = first_of (cc, search rules, grind (arith, common_steps)) in
    let all : map numbered at.yielded ≡ c.args.values.items = sym (append-nil (map numbered at.yielded)) ∙ rw empty at at.invariant.rest ∙ start in
    subst (λ (l : List (Option Given)). Turned c.args.ground.now at.ground (items_of at.passed) (ArePassed c.args.plan c.args.signature.now l)) all at.invariant.so_far
