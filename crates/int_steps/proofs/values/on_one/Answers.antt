use Rattle.std.proofs.Common.{◌∙◌, ◌-ℤ◌, ap, negsuc, pos, rules, sym}
use Rattle.std.specs.Int.{w128}
use Rattle.std.specs.Int.RustNames.{FitsSigned}
use Rattle.std.proofs.lemmas.Int.{to_z-of_z}
use Rattle.go_value.specs.Ints.{wrapped}
use Rattle.go_value.specs.Values.{number}
use Rattle.ssa_mean.specs.Arithmetic.{negated}
use Rattle.ssa_mean.specs.Comes.{to}
use Rattle.int_steps.proofs.values.on_one.Goals as goal

pub returns-in-Negate : goal.returns-in-Negate
returns-in-Negate c =
    let fits : FitsSigned w128 c.negative.result = search rules in
    ap (λ op. negated op c.args.kind c.args.a) c.in-Negate.is
    ∙ ap to (sym (ap number (to_z-of_z w128 c.negative.result fits ∙ c.negative.ensures
    ∙ ap (λ n. wrapped c.args.kind (pos 0 -ℤ n)) (to_z-of_z w128 c.args.a c.ranges.a))))

pub returns-in-Complement : goal.returns-in-Complement
returns-in-Complement c =
    let fits : FitsSigned w128 c.turned.result = search rules in
    ap (λ op. negated op c.args.kind c.args.a) c.in-Complement.is
    ∙ ap to (sym (ap number (to_z-of_z w128 c.turned.result fits ∙ c.turned.ensures
    ∙ ap (λ n. wrapped c.args.kind (negsuc 0 -ℤ n)) (to_z-of_z w128 c.args.a c.ranges.a))))
