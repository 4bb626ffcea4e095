use Rattle.std.proofs.Common.{◌&&◌, ◌+◌, sym, ◌∙◌, ap, arith, drop}
use Rattle.ssa_typed.specs.Forms.{takes_cases}
use Rattle.ssa_typed.proofs.Cases.{takes-send, takes-receive, takes-none, receives-within}
use Rattle.ssa_typed.proofs.selects.takes_cases.Goals as goal
use Rattle.ssa_typed.proofs.selects.takes_cases.Goals.{in-Send+else-not-fits_send, in-Receive+else-not-receives}

pub returns-then-not-receives : goal.returns-then-not-receives
returns-then-not-receives c =
    let code = c.args.frame.code.now in
    let f = c.args.frame.function.now in
    sym (c.loop-index.invariant.rest
    ∙ takes-receive code f c.args.cases.now c.args.received.now c.loop-index.index c.loop-index.place c.index-cases-index.result _ _ (omega arith) c.index-cases-index.is c.in-Receive.is
    ∙ ap (λ b. b && takes_cases code f (drop (c.loop-index.index + 1) c.args.cases.now) (drop (c.loop-index.place + 1) c.args.received.now))
    (sym c.receives.ensures ∙ c.if-not-receives.true))

pub loop-index-preserved : goal.loop-index-preserved
loop-index-preserved c =
    let code = c.args.frame.code.now in
    let f = c.args.frame.function.now in
    elim c.match-case.branch [
      | in-Send+else-not-fits_send w ↦ record {
        within = omega arith;
        rest =
            c.loop-index.invariant.rest
            ∙ takes-send code f c.args.cases.now c.args.received.now c.loop-index.index c.loop-index.place c.index-cases-index.result _ _ _ (omega arith) c.index-cases-index.is w.in-Send.is
            ∙ ap (λ b. b && takes_cases code f (drop (c.loop-index.index + 1) c.args.cases.now) (drop c.loop-index.place c.args.received.now))
            (sym w.fits_send.ensures ∙ w.if-not-fits_send.false)
            ∙ ap (λ k. takes_cases code f (drop (c.loop-index.index + 1) c.args.cases.now) (drop k c.args.received.now)) (sym w.place-is);
      }
      | in-Receive+else-not-receives w ↦ record {
        within = let h = receives-within code f _ c.args.received.now c.loop-index.place (sym w.receives.ensures ∙ w.if-not-receives.false) in omega arith;
        rest =
            c.loop-index.invariant.rest
            ∙ takes-receive code f c.args.cases.now c.args.received.now c.loop-index.index c.loop-index.place c.index-cases-index.result _ _ (omega arith) c.index-cases-index.is w.in-Receive.is
            ∙ ap (λ b. b && takes_cases code f (drop (c.loop-index.index + 1) c.args.cases.now) (drop (c.loop-index.place + 1) c.args.received.now))
            (sym w.receives.ensures ∙ w.if-not-receives.false)
            ∙ ap (λ k. takes_cases code f (drop (c.loop-index.index + 1) c.args.cases.now) (drop k c.args.received.now)) (sym w.place-is);
      }
    ]

pub returns : goal.returns
returns c =
    sym (c.loop-index.invariant.rest ∙ takes-none c.args.frame.code.now c.args.frame.function.now c.args.cases.now c.args.received.now c.loop-index.index c.loop-index.place (omega arith) (omega arith))
