use Rattle.std.proofs.Common.{◌≡◌, ◌+◌, ◌*◌, ◌∙◌, ap, sym, subst, IfOk, map, List, arith}
use Rattle.std.proofs.lemmas.List.{take_all}
use Rattle.go_value.specs.Falls.{heaviest}
use Rattle.go_value.specs.Values as vals
use Rattle.go_value.specs.Values.{Field, value_of, parts_of}
use Rattle.go_value.specs.declared.values.Dynamic.TheDeep.{deep-Value}
use Rattle.go_value.specs.declared.values.Value.TheVariants as values
use Rattle.go_value.proofs.ZeroOf.{zeroed_field, zeroed_fields}
use Rattle.go_value.proofs.zeros.+zero_like.Goals as goal

pub zero_of-zeros_of-requires : goal.zero_of-zeros_of-requires
zero_of-zeros_of-requires t c =
    let deep : 2 * (3 * deep-Value (values.Parts c.in-Parts.parts) + 2) + 0 ≡ t = ap (λ v. 2 * (3 * deep-Value v + 2) + 0) (sym c.in-Parts.is) ∙ c.decreases in
    let same = c.as_slice.ensures.value ∙ ap (λ v. v.items) c.deref.ensures in
    (rw same (omega (arith, deep, heaviest c.in-Parts.parts.value.items)), tt)

pub zeros_of-returns : goal.zeros_of-returns
zeros_of-returns t c =
    subst (λ w. IfOk c.parts.result (λ value. value_of value ≡ w))
    (ap (λ (fields : List Field). vals.parts (parts_of fields)) (c.loop-part.invariant ∙ ap (map zeroed_field) (take_all c.loop-part.part-index c.args.parts.now c.loop-part-test.false))
    ∙ ap vals.parts (sym (zeroed_fields c.args.parts.now)))
    c.parts.ensures
