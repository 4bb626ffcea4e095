use Rattle.std.proofs.Common.{◌∙◌}
use Rattle.go_store.proofs.Reached.{number_here, no_number_deeper, empty_list, copied_is}
use Rattle.go_store.proofs.parts.number_at.Goals as goal

pub returns-then-is_empty : goal.returns-then-is_empty
returns-then-is_empty c =
    number_here c.args.ints.now c.args.step c.args.rest.now c.copied.result (empty_list c.args.rest.now c.is_empty.result c.is_empty.ensures c.if-is_empty.true) (c.copied.ensures ∙ copied_is c.args.ints.now c.args.step c.get.result c.get.ensures.lookup)

pub returns-else-is_empty : goal.returns-else-is_empty
returns-else-is_empty c = no_number_deeper c.args.ints.now c.args.step c.args.rest.now c.is_empty.result c.is_empty.ensures c.if-is_empty.false
