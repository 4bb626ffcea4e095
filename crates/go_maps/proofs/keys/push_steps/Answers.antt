use Rattle.std.proofs.Common.{◌++◌, ap, sym, ◌∙◌}
use Rattle.std.proofs.lemmas.List.{append-nil, drop_all}
use Rattle.go_maps.specs.Keys.{steps_code, number_code}
use Rattle.go_maps.proofs.CodesOf.{next_step}
use Rattle.go_maps.proofs.keys.push_steps.Goals as goal

pub loop-step-preserved : goal.loop-step-preserved
loop-step-preserved c =
    next_step c.args.steps.now c.loop-step.step-index c.loop-step.bytes.items c.loop-step.bytes.items _ _ c.loop-step.invariant c.loop-step-test.true
    (c.in_ok-push_number.ensures ∙ ap (λ n. c.loop-step.bytes.items ++ number_code n) c.from.ensures)

pub returns : goal.returns
returns c =
    sym (append-nil c.loop-step.bytes.items)
    ∙ ap (λ l. c.loop-step.bytes.items ++ steps_code l) (sym (drop_all c.loop-step.step-index c.args.steps.now c.loop-step-test.false))
    ∙ c.loop-step.invariant
