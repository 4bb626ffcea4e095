use Rattle.std.proofs.Common.{◌∙◌, ap, sym, rules}
use Rattle.std.specs.Int.{w128}
use Rattle.std.specs.Int.RustNames.{FitsSigned}
use Rattle.std.proofs.lemmas.Int.{to_z-of_z}
use Rattle.go_type.specs.Kinds.{kind_of}
use Rattle.go_value.specs.Ints.{wrapped}
use Rattle.go_value.specs.Values.{number}
use Rattle.int_steps.specs.Steps.{converted}
use Rattle.ssa_mean.specs.Comes.{to, where_some}
use Rattle.int_steps.proofs.values.conversion.Goals as goal

pub returns-in-Some-int_kind : goal.returns-in-Some-int_kind
returns-in-Some-int_kind c =
    let fits : FitsSigned w128 c.convert_int.result = search rules in
    let inner : FitsSigned w128 c.in-Some.a = search rules in
    ap (where_some (converted (kind_of c.args.types.now c.args.to))) (sym c.in-Some.ensures)
    ∙ ap (λ kind. converted kind c.in-Some.a) (sym c.in-Some-int_kind.ensures)
    ∙ ap to (sym (ap number (to_z-of_z w128 c.convert_int.result fits ∙ c.convert_int.ensures
    ∙ ap (wrapped c.in-Some-int_kind.kind) (to_z-of_z w128 c.in-Some.a inner))))
