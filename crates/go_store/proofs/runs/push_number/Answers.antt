use Rattle.std.proofs.Common.{◌∷◌, [], ◌++◌, ◌∙◌, ap}
use Rattle.std.specs.Int.{w128}
use Rattle.std.proofs.lemmas.Int.{to_z-of_z}
use Rattle.go_store.specs.Cells.{packed}
use Rattle.go_store.proofs.Lengthened.{number_pushed}
use Rattle.go_store.proofs.runs.push_number.Goals as goal

pub returns : goal.returns
returns c =
    ap packed c.in_ok-push.ensures.items
    ∙ ap (λ n. packed (c.args.ints.now.items ++ (n ∷ []))) (to_z-of_z w128 c.args.number c.ranges.number)
    ∙ number_pushed c.args.ints.now.items c.args.number
