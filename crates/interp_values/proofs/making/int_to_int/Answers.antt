use Rattle.std.proofs.Common.{ap, ◌∙◌, rules, sym, refl}
use Rattle.std.specs.Int.{w128}
use Rattle.std.specs.Int.RustNames.{FitsSigned}
use Rattle.std.proofs.lemmas.Int.{to_z-of_z}
use Rattle.go_store.specs.Stores.{stored}
use Rattle.go_value.specs.Ints.{wrapped}
use Rattle.go_value.specs.Values.{Val, number}
use Rattle.interp_values.proofs.Made.{integer_is}
use Rattle.ssa_mean.specs.Comes.{to}
use Rattle.ssa_mean.specs.Conversions.{kept}
use Rattle.interp_values.proofs.making.int_to_int.Goals as goal

pub returns : goal.returns
returns c =
    let m = c.args.machine.now in
    let fits : FitsSigned w128 c.in_ok-int.field-0 = search rules in
    let made : FitsSigned w128 c.convert_int.result = search rules in (
      integer_is m c.args.operand.now c.in_ok-int.field-0
          (λ n. to (kept (stored m.store) (number (wrapped c.args.kind n))))
          c.in_ok-int.ensures
          ∙ ap (λ (v : Val). to (kept (stored m.store) v))
          (ap (λ n. number (wrapped c.args.kind n)) (sym (to_z-of_z w128 c.in_ok-int.field-0 fits))
          ∙ ap number (sym c.convert_int.ensures)
          ∙ ap number (sym (to_z-of_z w128 c.convert_int.result made))),
      refl,
    )
