use Rattle.std.proofs.Common.{◌∙◌, ap, of_z, rules, sym, to_z}
use Rattle.std.specs.Int.{w128}
use Rattle.std.specs.Int.RustNames.{FitsSigned}
use Rattle.std.specs.Prelude.{option_map}
use Rattle.std.proofs.lemmas.Int.{to_z-of_z}
use Rattle.go_store.specs.Stores.{stored}
use Rattle.go_value.specs.Values.{number, value_of}
use Rattle.go_value.specs.declared.values.Value.TheVariants as values
use Rattle.int_steps.proofs.Held.{assigned_is, put_as}
use Rattle.int_steps.specs.Steps.{int_assigned, state_of}
use Rattle.int_steps.proofs.steps.put.Goals as goal

pub returns-in-Some-address-clause-does : goal.returns-in-Some-address-clause-does
returns-in-Some-address-clause-does c =
    let fits : FitsSigned w128 c.in-Some.number = search rules in
    let s = state_of c.args.regs.now c.args.store.now in
    put_as c.put_int_at.result (int_assigned c.args.function.now s c.args.at.now c.args.value.now)
    (stored c.args.store.now) (stored c.put_int_at.new.self) c.in-Some-address.at.now c.in-Some.number
    (value_of (values.Int (to_z w128 (of_z w128 c.in-Some.number))))
    (ap number (to_z-of_z w128 c.in-Some.number fits))
    (assigned_is c.args.function.now s c.args.at.now c.args.value.now c.in-Some-address.at.now c.in-Some.number
    (sym c.integer.ensures ∙ c.in-Some.is)
    (sym c.address.ensures ∙ ap (option_map (λ it. it.now)) c.in-Some-address.is))
    c.put_int_at.ensures.ok c.put_int_at.ensures.nil
