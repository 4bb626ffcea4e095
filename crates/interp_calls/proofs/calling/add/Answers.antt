use Rattle.interp_calls.proofs.Calls.{err_ok}
use Rattle.std.proofs.Common.{◌∙◌, [], ◌∷◌, ◌++◌, ap, map, refl}
use Rattle.std.proofs.lemmas.List.{map-append}
use Rattle.interp_calls.proofs.calling.add.Goals as goal
use Rattle.interp_state.specs.Machines.{goroutine_of, machine_of}

pub returns-in_err-push-clause-others : goal.returns-in_err-push-clause-others
returns-in_err-push-clause-others c = refl

pub returns-in_err-spawn-clause-others : goal.returns-in_err-spawn-clause-others
returns-in_err-spawn-clause-others c = refl

pub returns-clause-added : goal.returns-clause-added
returns-clause-added c =
    λ i. record (machine_of c.args.machine.now) {
      others = (ap (map goroutine_of) c.in_ok-push.ensures.items
          ∙ map-append goroutine_of c.args.machine.now.goroutines.items (c.new-goroutine.result ∷ [])
          ∙ ap (λ g. map goroutine_of c.args.machine.now.goroutines.items ++ g ∷ []) c.new-goroutine.ensures) i;
      sched = c.in_ok-spawn.ensures.ok i;
    }

pub returns-clause-others : goal.returns-clause-others
returns-clause-others c = refl

pub returns-in_err-push-clause-added : goal.returns-in_err-push-clause-added
returns-in_err-push-clause-added c = err_ok c.from_residual.result _ c.from_residual.ensures.0

pub returns-in_err-spawn-clause-added : goal.returns-in_err-spawn-clause-added
returns-in_err-spawn-clause-added c =
    err_ok c.from_residual-in_err-spawn.result _ c.from_residual-in_err-spawn.ensures.0
