use Rattle.std.proofs.Common.{◌≡◌, flat_map, take}
use Rattle.cg_solve.specs.Tables.{row}
use Rattle.cg_sets.specs.Asking.{question_edges}
use Rattle.cg_sets.proofs.asking.all_edges.Given as goal

abbrev pub invariant-loop-question : goal.invariant-loop-question
invariant-loop-question l = l.edges.items ≡ flat_map (question_edges (row l.given)) (take l.question-index l.questions)
