use Rattle.typed_parts.proofs.InBoxes.{each_made, each_not_made}
use Rattle.typed_parts.proofs.retyping.built_in_of.Goals as goal

pub returns-in-Some : goal.returns-in-Some
returns-in-Some c =
    each_made c.args.at c.args.of c.args.builtin c.args.arguments _ c.in-Some.arguments c.node.result
    c.in_ok-arguments.was c.in-Some.is c.node.ensures

pub returns-in-None : goal.returns-in-None
returns-in-None c = each_not_made c.args.at c.args.of c.args.builtin c.args.arguments _ c.in_ok-arguments.was c.in-None.is
