use Rattle.std.proofs.Common.{rules}
use Rattle.typed_operators.specs.Comparing.{IsCase}
use Rattle.typed_operators.proofs.comparing.case_of.Goals as goal

pub returns-in_ok-value : goal.returns-in_ok-value
returns-in_ok-value c =
    IsCase.same_tag c.in_ok-value.value (search rules) c.in_ok-value.ensures

pub returns-else-may_pass : goal.returns-else-may_pass
returns-else-may_pass c =
    IsCase.other_tag (search rules)
