use Rattle.std.proofs.Common.{subst, sym}
use Rattle.go_value.specs.Values.{value_of}
use Rattle.interp_state.specs.Turns.{IsGiven}
use Rattle.interp_values.proofs.Made.{one_is}
use Rattle.plan_mean.specs.Step.{held_as}
use Rattle.ssa_mean.specs.Making.{assertion}
use Rattle.interp_values.proofs.making.asserted.Goals as goal

pub returns : goal.returns
returns c = record {
  given = λ w within. subst (IsGiven c.asserted_value.result)
      (sym (one_is c.args.machine.now c.args.operand.now (value_of c.in_ok-value.value)
      (λ it. assertion c.args.comma_ok it c.args.wanted (held_as w it c.args.wanted) (value_of c.args.zero.now))
      c.in_ok-value.ensures))
      (c.asserted_value.ensures.given w within);
  unseen = c.asserted_value.ensures.unseen;
}
