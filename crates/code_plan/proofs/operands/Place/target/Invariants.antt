use Rattle.code_plan.specs.Forms.{LeadsOn}
use Rattle.code_plan.proofs.operands.Place.target.Given as goal

abbrev pub invariant-loop : goal.invariant-loop
invariant-loop l = LeadsOn l.self.function.now l.fn.block.number l.at.number
