use Rattle.std.proofs.Common.{◌∙◌, ap, sym, subst, refl, IsSome, slice_set}
use Rattle.std.specs.Int.{w128}
use Rattle.std.proofs.lemmas.Int.{to_z-of_z}
use Rattle.go_value.specs.Values as vals
use Rattle.go_store.specs.Cells.{packed}
use Rattle.go_store.proofs.Reached.{number_written, number_there, empty_list}
use Rattle.go_store.proofs.parts.write_number.Goals as goal

pub returns-clause-ok : goal.returns-clause-ok
returns-clause-ok c =
    ap (λ n. packed (slice_set c.args.ints.now c.args.step n)) (to_z-of_z w128 c.args.number c.ranges.number)
    ∙ number_written (λ _. vals.number c.args.number) c.args.ints.now c.args.step c.args.rest.now c.args.number (λ old. refl) (empty_list c.args.rest.now c.is_empty.result c.is_empty.ensures c.if-not-is_empty.false) c.if-step-ints.false

pub returns-clause-there : goal.returns-clause-there
returns-clause-there c = subst (λ o. IsSome o) (sym (number_there c.args.ints.now c.args.step c.args.rest.now (empty_list c.args.rest.now c.is_empty.result c.is_empty.ensures c.if-not-is_empty.false) c.if-step-ints.false)) refl
