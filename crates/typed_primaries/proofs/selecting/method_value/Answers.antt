use Rattle.typed_primaries.proofs.selecting.method_value.Goals as goal

pub returns : goal.returns
returns c = (c.in_ok-receiver.receiver, (c.in_ok-receiver.ensures, c.node.ensures))
