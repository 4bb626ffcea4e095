use Rattle.std.proofs.Common.{vec_len}
use Rattle.typed_calls.proofs.Packs.{slice_made}
use Rattle.typed_calls.proofs.packing.slice_node.Goals as goal

pub returns : goal.returns
returns c = λ others e.
    slice_made c.args.at c.args.slice c.args.items others (vec_len c.args.items) c.len-len.result c.is_empty.result c.node-2.result
    c.args.items.ok.0 c.is_empty.ensures c.if-is_empty.false e c.len-len.ensures c.node-2.ensures
