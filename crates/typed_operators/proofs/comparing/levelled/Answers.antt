use Rattle.std.proofs.Common.{◌∙◌, sym, rules}
use Rattle.typed_operators.proofs.Compared.{level_left, level_right}
use Rattle.typed_operators.proofs.comparing.levelled.Goals as goal

pub returns-in_ok-left : goal.returns-in_ok-left
returns-in_ok-left c =
    level_left c.args.ground.now.types c.args.pair.left c.args.pair.right c.made.result c.in_ok-left.left c.in_ok-left.right (search rules) c.made.ensures (sym c.beside.ensures ∙ c.in_ok-left.was)

pub returns-in_ok-right : goal.returns-in_ok-right
returns-in_ok-right c =
    level_right c.args.ground.now.types c.args.pair.left c.args.pair.right c.made-else-may_pass.result c.in_ok-right.right c.in_ok-right.left (search rules) c.made-else-may_pass.ensures (sym c.beside-else-may_pass.ensures ∙ c.in_ok-right.was)
