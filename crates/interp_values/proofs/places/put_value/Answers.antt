use Rattle.std.proofs.Common.{◌∙◌, ap, rules, subst, sym}
use Rattle.std.proofs.lemmas.Int.{to_z-of_z}
use Rattle.std.specs.Int.{w128}
use Rattle.std.specs.Int.RustNames.{FitsSigned}
use Rattle.go_store.specs.Stores.{stored}
use Rattle.go_value.specs.Values.{pointer, value_of}
use Rattle.go_value.specs.declared.values.Value.{Value}
use Rattle.go_value.specs.declared.values.Value.TheVariants as values
use Rattle.interp_state.specs.Turns.{IsChanged}
use Rattle.interp_values.proofs.Looked.{one_is}
use Rattle.ssa_mean.specs.Places.{assigned}
use Rattle.interp_values.proofs.places.put_value.Goals as goal

pub returns-in-Int : goal.returns-in-Int
returns-in-Int c =
    let fits : FitsSigned w128 c.in-Int.number = search rules in
    let store = stored c.args.machine.now.store in
    subst (IsChanged c.put.result c.args.machine.now c.put.new.machine)
    (ap (λ n. assigned store (pointer c.args.at.now) (value_of (values.Int n))) (to_z-of_z w128 c.in-Int.number fits)
    ∙ ap (λ (it : Value). assigned store (pointer c.args.at.now) (value_of it)) (sym c.in-Int.is)
    ∙ sym (one_is c.args.machine.now c.args.value.now (value_of c.in_ok-other.other.now)
    (assigned store (pointer c.args.at.now)) c.in_ok-other.ensures))
    c.put.ensures
