use Rattle.std.proofs.Common.{◌∙◌, ap, refl}
use Rattle.interp_builtins.proofs.Woken.{changed_at, found_at, on_ok}
use Rattle.interp_builtins.specs.Operations.{given_of, gone_with}
use Rattle.interp_state.specs.Machines.{goroutine_of}
use Rattle.plan_mean.specs.State.{advanced, change_top}
use Rattle.interp_builtins.proofs.channels.go_on_at.Goals as goal

pub returns-in-Some-clause-gone : goal.returns-in-Some-clause-gone
returns-in-Some-clause-gone c =
    let them = c.args.machine.now.goroutines in
    let it = c.in-Some.goroutine.now in
    on_ok c.advance.result c.advance.ensures (λ is.
    changed_at them.items c.args.place it c.advance.new.goroutine (gone_with (given_of c.args.given))
    (found_at them c.args.place it (c.in-Some.ensures.variant.0 refl) c.in-Some.ensures.value)
    (is ∙ ap (λ slots. record (goroutine_of it) {
      frames = change_top advanced
          (goroutine_of it).frames;
      slots = slots;
    })
    c.put.ensures))
