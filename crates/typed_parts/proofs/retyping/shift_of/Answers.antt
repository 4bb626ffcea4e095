use Rattle.typed_parts.proofs.InBoxes.{shift_made, shift_not_made}
use Rattle.typed_parts.proofs.retyping.shift_of.Goals as goal

pub returns-in-Some : goal.returns-in-Some
returns-in-Some c =
    shift_made c.args.at c.args.of c.args.op c.args.left c.boxed_sound.result c.both.result _ c.args.right c.in-Some.left
    c.in-Some.right c.node.result c.boxed_sound.ensures c.both.ensures c.in_ok-left.was c.in-Some.is c.node.ensures

pub returns-in-None : goal.returns-in-None
returns-in-None c =
    shift_not_made c.args.at c.args.of c.args.op c.args.left c.boxed_sound.result c.both.result _ c.args.right
    c.boxed_sound.ensures c.both.ensures c.in_ok-left.was c.in-None.is
