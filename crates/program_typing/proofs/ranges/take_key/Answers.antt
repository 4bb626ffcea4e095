use Rattle.std.proofs.Common.{◌∙◌, ap, List, None}
use Rattle.std.specs.Prelude.{◌&&◌}
use Rattle.go_tree.specs.declared.stmts.Target.{Target}
use Rattle.expr_typing.specs.Telling.{at_tests}
use Rattle.typed_trees.specs.Targets.{takes_value, take_values, listed_targets}
use Rattle.program_typing.proofs.Pairs.{first_pair, listed_is}
use Rattle.program_typing.proofs.ranges.take_key.Goals as goal

pub returns-in_ok-last-in-len1-up : goal.returns-in_ok-last-in-len1-up
returns-in_ok-last-in-len1-up c = λ told.
    let A = at_tests c.args.around told.tests in
    (λ i. c.in_ok-first-in-len1-up.ensures told i && c.in_ok-last-in-len1-up.ensures told i)
    ∙ (first_pair (takes_value A) c.args.key.now (listed_targets A None c.args.value.now) c.args.types.now (record { number = 0 }) c.in-len1-up.len_at_least
    ∙ ap (λ (ts : List Target). take_values A ts c.args.types.now) (listed_is A c.args.key.now c.args.value.now))
