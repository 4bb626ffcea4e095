use Rattle.std.proofs.Common.{◌≡◌, map, take}
use Rattle.cg_sets.specs.Rules.{question_of}
use Rattle.cg_sets.proofs.by_class.all_questions.Given as goal

abbrev pub invariant-loop-site : goal.invariant-loop-site
invariant-loop-site l = l.questions.items ≡ map question_of (take l.site-index l.sites)
