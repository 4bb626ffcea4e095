use Rattle.std.proofs.Common.{subst, sym}
use Rattle.code_plan.specs.declared.steps.Step.{Step}
use Rattle.interp_state.specs.Machines.{machine_of}
use Rattle.go_value.specs.Values.{value_of}
use Rattle.go_value.specs.declared.values.Value.{Value}
use Rattle.interp_state.specs.Turns.{IsIn, IsGiven, Steps}
use Rattle.plan_mean.specs.Operands.{with_one}
use Rattle.plan_mean.specs.State.{World}
use Rattle.ssa_mean.specs.Making.{assertion}
use Rattle.interp_values.proofs.Made.{given_unseen}
use Rattle.plan_mean.specs.Step.{acts, assert_type, held_as}
use Rattle.interp_values.proofs.making.assert.Goals as goal

pub returns-in-Assert : goal.returns-in-Assert
unfolding acts
returns-in-Assert c =
    let m = c.args.machine.now in
    subst (λ (step : Step). Steps c.give.result m c.give.new.self (λ w. acts w (machine_of m) step))
    (sym c.in-Assert.is)
    (given_unseen c.in-Assert.to c.asserted-asserted.result
    (λ w. assert_type w (machine_of m) c.in-Assert.operand c.in-Assert.wanted c.in-Assert.zero c.in-Assert.comma_ok)
    c.give.result m c.asserted-asserted.new.machine c.give.new.self c.give.ensures c.asserted-asserted.ensures.unseen
    (subst (λ (zero : Value). (w : World) → IsIn w m → IsGiven c.asserted-asserted.result
    (with_one (machine_of m) c.in-Assert.operand (λ it. assertion c.in-Assert.comma_ok it c.in-Assert.wanted
    (held_as w it c.in-Assert.wanted) (value_of zero)))) c.deref.ensures c.asserted-asserted.ensures.given))
