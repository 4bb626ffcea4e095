use Rattle.std.proofs.Common.{◌≡◌, map, take}
use Rattle.std.specs.List.{filter}
use Rattle.cg_sets.specs.Reaching.{runs_in}
use Rattle.cg_sets.specs.Rules.{question_of}
use Rattle.cg_sets.proofs.by_reach.live_questions.Given as goal

abbrev pub invariant-loop-site : goal.invariant-loop-site
invariant-loop-site l = l.questions.items ≡ map question_of (filter (runs_in l.marks) (take l.site-index l.sites))
