use Rattle.std.proofs.Common.{◌≡◌, ◌∙◌, Some, ap, arith, false, sym, true}
use Rattle.interp_builtins.proofs.Recovered.{recovers_is, recovers_not}
use Rattle.interp_builtins.proofs.recovering.recover.Goals as goal

pub returns-in-Some-true-clause-recovers : goal.returns-in-Some-true-clause-recovers
returns-in-Some-true-clause-recovers c = λ slot.
    let may : c.in-Some-true.field-0 ≡ true = grind (arith, c.in-Some-true.field-0-test) in
    recovers_is c.args.machine.now c.recover_below.new.machine slot c.recover_below.result
    (sym c.top_may_recover.ensures ∙ c.in-Some-true.is ∙ ap (λ b. Some b) may)
    c.recover_below.ensures.value c.recover_below.ensures.frames c.recover_below.ensures.others

pub returns-in-Some-false-clause-recovers : goal.returns-in-Some-false-clause-recovers
returns-in-Some-false-clause-recovers c = λ slot.
    let may : c.in-Some-false.field-0 ≡ false = grind (arith, c.in-Some-false.field-0-test) in
    recovers_not c.args.machine.now slot
    (sym c.top_may_recover.ensures ∙ c.in-Some-false.is ∙ ap (λ b. Some b) may)
