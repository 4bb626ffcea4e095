use Rattle.std.proofs.Common.{◌≡◌, refl, sym, ap, ◌∙◌, List, [], ◌∷◌, length, take, drop, append-nil, append_assoc, arith, rules}
use Rattle.std.specs.Vec.Iter.{into_iter_items}
use Rattle.go_tree.specs.declared.exprs.ItemInit.{ItemInit}
use Rattle.go_tree.specs.declared.exprs.TypedExpr.{TypedExpr}
use Rattle.std.proofs.lemmas.List.{nil_from_length}
use Rattle.typed_calls.specs.Packing.{items_from, with_fixed, with_item}
use Rattle.typed_calls.proofs.Packs.{fixed_more, item_more, none_fixed, none_left}
use Rattle.typed_calls.proofs.packing.Apart.of.Goals as goal

pub loop-value-init : goal.loop-value-init
loop-value-init c =
    let fixed = none_fixed c.args.fixed in
    let left = none_left c.args.fixed in
    record { rest = refl; first = cc; others = cc; counted = search rules }

pub loop-value-preserved : goal.loop-value-preserved
loop-value-preserved c =
    let at = c.loop-value in
    let x = c.in-Some.value in
    let n = c.args.fixed in
    let steps : into_iter_items at.value-iterator ≡ x ∷ into_iter_items c.next.new.self = c.in-Some.ensures.steps.0 in
    record {
      rest = append_assoc at.yielded (x ∷ []) _ ∙ rw (← steps) at.invariant.rest;
      first = c.in_ok-add.ensures.first ∙ (ap (λ (l : List TypedExpr). with_fixed n l x) at.invariant.first ∙ fixed_more n at.yielded x);
      others = c.in_ok-add.ensures.others ∙ (ap (λ (l : List TypedExpr). with_item n (length l) at.apart.items.items x) at.invariant.first
          ∙ (ap (λ (l : List ItemInit). with_item n (length (take n at.yielded)) l x) at.invariant.others ∙ item_more n at.yielded x));
      counted = let was = at.invariant.counted in let gone = c.in-Some.ensures.steps.1 in let short = ap length steps in omega arith;
    }

pub returns-clause-first : goal.returns-clause-first
returns-clause-first c =
    let at = c.loop-value in
    let none = c.in-None.ensures.steps in
    let empty : into_iter_items at.value-iterator ≡ [] = nil_from_length (into_iter_items at.value-iterator) (sym at.invariant.counted ∙ none.0) in
    let all = sym (append-nil at.yielded) ∙ rw empty at at.invariant.rest ∙ c.into_iter-value-iterator.ensures.into_iter_gives.0 in
    at.invariant.first ∙ ap (λ (l : List TypedExpr). take c.args.fixed l) all

pub returns-clause-others : goal.returns-clause-others
returns-clause-others c =
    let at = c.loop-value in
    let none = c.in-None.ensures.steps in
    let empty : into_iter_items at.value-iterator ≡ [] = nil_from_length (into_iter_items at.value-iterator) (sym at.invariant.counted ∙ none.0) in
    let all = sym (append-nil at.yielded) ∙ rw empty at at.invariant.rest ∙ c.into_iter-value-iterator.ensures.into_iter_gives.0 in
    at.invariant.others ∙ ap (λ (l : List TypedExpr). items_from 0 (drop c.args.fixed l)) all
