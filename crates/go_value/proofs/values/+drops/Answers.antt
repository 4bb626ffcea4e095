use Rattle.std.proofs.Common.{arith, rules, ◌≡◌, ◌+◌, ◌*◌, ap, sym, ◌∙◌}
use Rattle.go_value.specs.Falls.{heaviest}
use Rattle.go_value.specs.declared.values.Dynamic.TheDeep.{deep-Value}
use Rattle.go_value.specs.declared.values.Value.TheVariants as values
use Rattle.go_value.proofs.values.+drops.Goals as goal

pub Value::drop-drop-held-requires-in-Parts : goal.Value::drop-drop-held-requires-in-Parts
Value::drop-drop-held-requires-in-Parts t c κs =
    let deep : 3 * deep-Value (values.Parts c.in-Parts._held) + 2 ≡ t = ap (λ v. 3 * deep-Value v + 2) (sym c.in-Parts.is) ∙ c.decreases in
    (((omega (arith, deep, heaviest c.in-Parts._held.value.items), tt), tt), search rules)
