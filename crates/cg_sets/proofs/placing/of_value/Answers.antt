use Rattle.std.proofs.Common.{◌≡◌, ◌∙◌, None, Some, ap, subst, sym}
use Rattle.std.specs.Prelude.{IfOk, slice_get}
use Rattle.cg_nodes.specs.declared.nodes.Value.TheVariants as value_of
use Rattle.cg_nodes.specs.declared.nodes.Value.{Value}
use Rattle.cg_numbers.proofs.Collecting.{extends_self}
use Rattle.cg_sets.specs.Answering.{ArePlaced, IsListed, OfThis}
use Rattle.cg_sets.proofs.Standings.{class_unplaced, itself_unplaced, none_some, some_same}
use Rattle.cg_sets.proofs.placing.of_value.Goals as goal

pub returns-in-Some-Bound-clause-placed : goal.returns-in-Some-Bound-clause-placed
returns-in-Some-Bound-clause-placed c = λ v at listed.
    let p = c.args.program.now in
    let n = c.args.numbers.now in
    let l = n.likeness in
    let this = value_of.Bound c.in-Some-Bound.function in
    let there : slice_get n.values.keys c.args.number ≡ Some this = sym c.value_at.ensures ∙ (c.in-Some-Bound.is ∙ ap (λ (x : Value). Some x) c.in-Some-Bound.field-0-is) in
    let e : this ≡ v = some_same this v (slice_get n.values.keys c.args.number) there at in
    subst (λ (w : Value). IfOk c.of_bound.result (ArePlaced c.of_bound.new.numbers (OfThis p l w))) e (c.of_bound.ensures.placed there (subst (IsListed p l) (sym e) listed))

pub returns-in-Some-BoundSelector-clause-placed : goal.returns-in-Some-BoundSelector-clause-placed
returns-in-Some-BoundSelector-clause-placed c = λ v at listed.
    let p = c.args.program.now in
    let n = c.args.numbers.now in
    let l = n.likeness in
    let this = value_of.BoundSelector c.in-Some-BoundSelector.at c.in-Some-BoundSelector.selector c.in-Some-BoundSelector.signature in
    let there : slice_get n.values.keys c.args.number ≡ Some this = sym c.value_at.ensures ∙ (c.in-Some-BoundSelector.is ∙ ap (λ (x : Value). Some x) c.in-Some-BoundSelector.field-0-is) in
    let e : this ≡ v = some_same this v (slice_get n.values.keys c.args.number) there at in
    subst (λ (w : Value). IfOk c.of_chosen.result (ArePlaced c.of_chosen.new.numbers (OfThis p l w))) e (c.of_chosen.ensures.placed p there (subst (IsListed p l) (sym e) listed))

pub returns-in-Some-Unbound-clause-placed : goal.returns-in-Some-Unbound-clause-placed
returns-in-Some-Unbound-clause-placed c = λ v at listed.
    let p = c.args.program.now in
    let n = c.args.numbers.now in
    let l = n.likeness in
    let this = value_of.Unbound c.in-Some-Unbound.selector c.in-Some-Unbound.signature in
    let there : slice_get n.values.keys c.args.number ≡ Some this = sym c.value_at.ensures ∙ (c.in-Some-Unbound.is ∙ ap (λ (x : Value). Some x) c.in-Some-Unbound.field-0-is) in
    let e : this ≡ v = some_same this v (slice_get n.values.keys c.args.number) there at in
    subst (λ (w : Value). IfOk c.of_unbound.result (ArePlaced c.of_unbound.new.numbers (OfThis p l w))) e (c.of_unbound.ensures.placed there (subst (IsListed p l) (sym e) listed))

pub returns-in-Some-Class-clause-placed : goal.returns-in-Some-Class-clause-placed
returns-in-Some-Class-clause-placed c = λ v at listed.
    let p = c.args.program.now in
    let n = c.args.numbers.now in
    let l = n.likeness in
    let this = value_of.Class c.in-Some-Class.field-0-0 in
    let there : slice_get n.values.keys c.args.number ≡ Some this = sym c.value_at.ensures ∙ (c.in-Some-Class.is ∙ ap (λ (x : Value). Some x) c.in-Some-Class.field-0-is) in
    let e : this ≡ v = some_same this v (slice_get n.values.keys c.args.number) there at in
    subst (λ (w : Value). ArePlaced n (OfThis p l w) None) e (class_unplaced p n l c.in-Some-Class.field-0-0)

pub returns-in-Some-Class-clause-extends : goal.returns-in-Some-Class-clause-extends
returns-in-Some-Class-clause-extends c = extends_self c.args.numbers.now

pub returns-in-Some-Function-clause-placed : goal.returns-in-Some-Function-clause-placed
returns-in-Some-Function-clause-placed c = λ v at listed.
    let p = c.args.program.now in
    let n = c.args.numbers.now in
    let l = n.likeness in
    let this = value_of.Function c.in-Some-Function.field-0-0 in
    let there : slice_get n.values.keys c.args.number ≡ Some this = sym c.value_at.ensures ∙ (c.in-Some-Function.is ∙ ap (λ (x : Value). Some x) c.in-Some-Function.field-0-is) in
    let e : this ≡ v = some_same this v (slice_get n.values.keys c.args.number) there at in
    subst (λ (w : Value). ArePlaced n (OfThis p l w) None) e (itself_unplaced p n l c.in-Some-Function.field-0-0)

pub returns-in-Some-Function-clause-extends : goal.returns-in-Some-Function-clause-extends
returns-in-Some-Function-clause-extends c = extends_self c.args.numbers.now

pub returns-in-None-clause-placed : goal.returns-in-None-clause-placed
returns-in-None-clause-placed c = λ v at listed g s h. none_some v (slice_get c.args.numbers.now.values.keys c.args.number) (sym c.value_at.ensures ∙ c.in-None.is) at

pub returns-in-None-clause-extends : goal.returns-in-None-clause-extends
returns-in-None-clause-extends c = extends_self c.args.numbers.now
