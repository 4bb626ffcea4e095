use Rattle.std.proofs.Common.{List, subst}
use Rattle.std.proofs.lemmas.List.{take_all}
use Rattle.cg_sets.specs.declared.candidates.Goal.TheVariants as goal_of
use Rattle.cg_sets.specs.declared.candidates.Candidate.{Candidate}
use Rattle.cg_vta.proofs.Standings.{GoalsMore, more_next, more_none}
use Rattle.cg_vta.proofs.goals.Goals.put_row.Goals as goal

pub loop-candidate-init : goal.loop-candidate-init
loop-candidate-init c = record { kept = λ k. k; goals = λ k. more_none c.args.self.now c.args.group }

pub loop-candidate-preserved : goal.loop-candidate-preserved
loop-candidate-preserved c =
    let i = c.loop-candidate.invariant in
    let d : Candidate = record { value = 0; goal = goal_of.Function (record { number = 0 }); skip = 0; base = 0; receiver = 0 } in
    record {
      kept = λ k. c.in_ok-put.ensures.kept (i.kept k);
      goals = λ k. more_next c.args.self.now c.loop-candidate.self c.put.new.self c.args.group c.args.candidates.now c.loop-candidate.candidate-index d c.loop-candidate-test.true (c.in_ok-put.ensures.goals (i.kept k)) (i.goals k);
    }

pub returns-clause-goals : goal.returns-clause-goals
returns-clause-goals c = λ kept.
    subst (λ (l : List Candidate). GoalsMore c.args.self.now c.loop-candidate.self c.args.group l) (take_all c.loop-candidate.candidate-index c.args.candidates.now c.loop-candidate-test.false) (c.loop-candidate.invariant.goals kept)
