use Rattle.std.proofs.Common.{◌≡◌, flat_map, take}
use Rattle.cg_sets.specs.Asking.{answers_of}
use Rattle.cg_sets.proofs.asking.answers_in.Given as goal

abbrev pub invariant-loop-question : goal.invariant-loop-question
invariant-loop-question l = l.asked.items ≡ flat_map (λ q. answers_of q.asked) (take l.question-index l.questions)
