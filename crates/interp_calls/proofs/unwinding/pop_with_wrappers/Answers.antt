use Rattle.std.proofs.Common.{◌∙◌, sym}
use Rattle.interp_calls.proofs.Unwound.{none_left, went}
use Rattle.interp_calls.proofs.unwinding.pop_with_wrappers.Goals as goal
use Rattle.interp_state.specs.Machines.{goroutine_of}

pub returns-then-not-is_wrapper_on_top-clause-gone : goal.returns-then-not-is_wrapper_on_top-clause-gone
returns-then-not-is_wrapper_on_top-clause-gone c =
    none_left (goroutine_of c.loop.machine.current) (goroutine_of c.pop.new.self)
    (went c.pop.result c.in-Some.field-0 c.loop.machine.current c.pop.new.self c.in-Some.is c.pop.ensures.left
    c.pop.ensures.popped) (sym c.is_wrapper_on_top.ensures ∙ c.if-not-is_wrapper_on_top.true) ∙ c.loop.invariant.0
