use Rattle.std.proofs.Common.{◌∙◌, ap, map}
use Rattle.go_value.specs.Values as vals
use Rattle.go_store.specs.Arrays.{with_elements}
use Rattle.go_store.specs.Cells.{packed}
use Rattle.go_store.proofs.Overwritten.{numbers_pushed}
use Rattle.go_store.proofs.runs.push_ints.Goals as goal

pub returns-clause-ok : goal.returns-clause-ok
returns-clause-ok c =
    ap packed c.in_ok-extend_from_slice.ensures.items
    ∙ numbers_pushed c.args.all.now.items _
    ∙ ap (λ xs. with_elements (map (λ n. vals.number n) xs) (packed c.args.all.now.items)) c.in_ok-run.ensures.items
