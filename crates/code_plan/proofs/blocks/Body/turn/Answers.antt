use Rattle.code_plan.proofs.Going.{late_more}
use Rattle.code_plan.proofs.blocks.Body.turn.Goals as goal

pub returns-in_ok-push-in-Some : goal.returns-in_ok-push-in-Some
returns-in_ok-push-in-Some c =
    λ instrs h. late_more c.args.self.now c.args.instr.now c.in-Some.load c.args.run.now.pending.items _ _ instrs
    c.in-Some.ensures c.in_ok-push-in-Some.ensures.items h
