use Rattle.std.proofs.Common.{sym}
use Rattle.cg_nodes.proofs.Forms.{other_parts}
use Rattle.cg_nodes.proofs.places.parts_of.Goals as goal

pub returns-in_default : goal.returns-in_default
returns-in_default c = sym (other_parts c.args.types.now c.args.tuple.now c.args.parts c.in_default.not-CallOf c.in_default.not-MapIndex c.in_default.not-Receive c.in_default.not-AssertTo)
