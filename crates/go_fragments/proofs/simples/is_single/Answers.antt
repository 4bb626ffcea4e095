use Rattle.go_fragments.proofs.ExprNodes.{one_item, many_items}
use Rattle.go_fragments.proofs.simples.is_single.Goals as goal

pub returns-in-len1 : goal.returns-in-len1
returns-in-len1 c = one_item c.as_slice.result.now c.args.list.now.items c.item-item.result c.is_none.result c.as_slice.ensures.value c.in-len1.len_at_least c.in-len1.len_below c.item-item.is c.is_none.ensures

pub returns-in_default-2 : goal.returns-in_default-2
returns-in_default-2 c = many_items c.as_slice.result.now c.args.list.now.items c.as_slice.ensures.value c.in_default.len_at_least
