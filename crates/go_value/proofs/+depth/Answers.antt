use Rattle.std.proofs.Common.{arith, ◌≡◌, ◌+◌, ◌*◌, ap, sym, ◌∙◌}
use Rattle.go_value.specs.Falls.{heaviest}
use Rattle.go_value.specs.declared.values.Dynamic.TheDeep.{deep-Value}
use Rattle.go_value.specs.declared.values.Value.TheVariants as values
use Rattle.go_value.proofs.+depth.Goals as goal

pub values::Value::depth-deepest-requires : goal.values::Value::depth-deepest-requires
values::Value::depth-deepest-requires t c =
    let deep : 2 * (3 * deep-Value (values.Parts c.in-Parts.parts) + 2) + 0 ≡ t = ap (λ v. 2 * (3 * deep-Value v + 2) + 0) (sym c.in-Parts.is) ∙ c.decreases in
    let same = c.as_slice.ensures.value ∙ ap (λ v. v.items) c.deref.ensures in
    (rw same (omega (arith, deep, heaviest c.in-Parts.parts.value.items)), tt)
