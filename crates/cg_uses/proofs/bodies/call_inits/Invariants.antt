use Rattle.std.proofs.Common.{◌≡◌, drop, ◌++◌}
use Rattle.cg_nodes.specs.Places.{each_from}
use Rattle.cg_uses.specs.Bodies.{init_uses}
use Rattle.cg_uses.proofs.bodies.call_inits.Given as goal

abbrev pub invariant-loop-number : goal.invariant-loop-number
invariant-loop-number l = l.out.items ++ each_from (init_uses l.«package») l.number (drop l.number l.functions) ≡ l.fn.out.items ++ each_from (init_uses l.«package») 0 l.functions
