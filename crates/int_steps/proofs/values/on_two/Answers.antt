use Rattle.std.proofs.Common.{◌∙◌, ap, of_z, sym, to_z}
use Rattle.std.specs.Int.{w128}
use Rattle.std.specs.Ordering.{int_cmp}
use Rattle.std.proofs.lemmas.Int.{to_z-of_z}
use Rattle.go_value.specs.Values.{truth}
use Rattle.int_steps.specs.Steps.{on_two}
use Rattle.ssa_mean.specs.Arithmetic.{holds}
use Rattle.ssa_mean.specs.Comes.{to}
use Rattle.int_steps.proofs.values.on_two.Goals as goal

pub returns-in-Compare : goal.returns-in-Compare
returns-in-Compare c =
    ap (λ op. on_two c.args.kind op c.args.a c.args.b) c.in-Compare.is
    ∙ ap to (sym (ap truth (c.compare.ensures
    ∙ ap (λ a. holds c.in-Compare.op (int_cmp a (to_z w128 (of_z w128 c.args.b)))) (to_z-of_z w128 c.args.a c.ranges.a)
    ∙ ap (λ b. holds c.in-Compare.op (int_cmp c.args.a b)) (to_z-of_z w128 c.args.b c.ranges.b))))
