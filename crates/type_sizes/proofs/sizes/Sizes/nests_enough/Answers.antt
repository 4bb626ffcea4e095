use Rattle.std.proofs.Common.{sym, ◌∙◌}
use Rattle.type_sizes.proofs.Nested.{above}
use Rattle.type_sizes.proofs.sizes.Sizes.nests_enough.Goals as goal

pub returns-clause-answer : goal.returns-clause-answer
returns-clause-answer c = above 1000 c.args.types.now c.args.id c.in_ok-has_nesting.has_nesting c.in_ok-has_nesting.ensures (sym c.in_ok-nests.ensures.answer ∙ c.if-branch.false)
