use Rattle.std.proofs.Common.{◌∙◌, List, ap, sym}
use Rattle.cg_nodes.specs.declared.nodes.Value.{Value}
use Rattle.cg_numbers.proofs.Collecting.{extends_self}
use Rattle.cg_vta.specs.Choosing.{bound_at}
use Rattle.cg_vta.proofs.Choices.{puts_no, puts_one}
use Rattle.cg_vta.proofs.called.put_bound.Goals as goal

pub returns-clause-bound : goal.returns-clause-bound
returns-clause-bound c = puts_one c.bare_group.new.self _ c.in-Some.selector _ _ c.in_ok-group.group (ap (λ (l : List Value). bound_at l c.args.number) (sym c.values.ensures) ∙ (sym c.bound_at.ensures ∙ c.in-Some.is)) c.in_ok-group.ensures.ok c.in_ok-push.ensures.items

pub returns-in_default-clause-bound : goal.returns-in_default-clause-bound
returns-in_default-clause-bound c = puts_no c.args.numbers.now _ _ (ap (λ (l : List Value). bound_at l c.args.number) (sym c.values.ensures) ∙ (sym c.bound_at.ensures ∙ c.in_default.is))

pub returns-in_default-clause-extends : goal.returns-in_default-clause-extends
returns-in_default-clause-extends c = extends_self c.args.numbers.now
