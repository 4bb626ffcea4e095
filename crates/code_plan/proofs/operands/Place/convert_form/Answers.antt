use Rattle.std.proofs.Common.{Some, ap, ◌∙◌}
use Rattle.ssa_mean.specs.Operands.{element_in}
use Rattle.code_plan.proofs.operands.Place.convert_form.Goals as goal

pub returns-in-Slice : goal.returns-in-Slice
returns-in-Slice c =
    c.to_text.ensures c.args.of c.args.operand.now (ap element_in (c.in_ok-elem.ensures ∙ ap Some c.in-Slice.is))

pub returns-in-Slice-2 : goal.returns-in-Slice-2
returns-in-Slice-2 c =
    c.from_text.ensures c.args.of c.args.operand.now (ap element_in (c.in_ok-elem-2.ensures ∙ ap Some c.in-Slice-2.is))
