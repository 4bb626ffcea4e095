use Rattle.typed_parts.specs.declared.meaning.Given.{Given}
use Rattle.std.proofs.Common.{◌∙◌, ap, Bool}
use Rattle.go_base.specs.declared.rule.Rule.TheVariants.{NotAConstant}
use Rattle.typed_parts.specs.Adapting.{IsAssigned}
use Rattle.typed_parts.specs.Joining.{asked}
use Rattle.typed_parts.specs.Judged.{reported}
use Rattle.typed_operators.specs.Stating.{has_constants}
use Rattle.go_type.specs.Table.{Table}
use Rattle.typed_operators.proofs.Operating.{exact_rest}
use Rattle.typed_operators.proofs.stating.typed_constant.Goals as goal

pub returns : goal.returns
returns c =
    exact_rest c.args.ground.now c.asked-x.new.ground c.assigned.new.ground (asked c.args.x (has_constants c.args.ground.now.types c.args.to) NotAConstant)
    (λ (types : Table). λ (x : Given). IsAssigned types x c.args.to) c.asked-x.result c.assigned.result
    (c.asked-x.ensures.answer ∙ ap (λ (b : Bool). (asked c.args.x b NotAConstant).sound) c.has_constants-may.ensures)
    (c.asked-x.ensures.broken ∙ ap (λ (b : Bool). reported c.args.ground.now (asked c.args.x b NotAConstant).broken) c.has_constants-may.ensures) c.assigned.ensures
