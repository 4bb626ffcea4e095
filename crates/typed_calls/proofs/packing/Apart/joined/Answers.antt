use Rattle.typed_calls.proofs.packing.Apart.joined.Goals as goal

pub returns : goal.returns
returns c = λ others e. (c.slice_node.result, (c.slice_node.ensures others e, c.in_ok-push.ensures.items))
