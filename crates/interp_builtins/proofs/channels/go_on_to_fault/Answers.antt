use Rattle.std.proofs.Common.{Some, None, refl}
use Rattle.go_value.specs.declared.faults.Fault.TheVariants as fault
use Rattle.interp_builtins.proofs.Woken.{changed_at, found_at, on_ok}
use Rattle.interp_builtins.specs.Operations.{given_of, gone_with}
use Rattle.interp_builtins.proofs.channels.go_on_to_fault.Goals as goal

pub returns-in-Some-clause-gone : goal.returns-in-Some-clause-gone
returns-in-Some-clause-gone c =
    let them = c.args.machine.now.goroutines in
    let it = c.in-Some.goroutine.now in
    on_ok c.advance.result c.advance.ensures (λ is.
    changed_at them.items c.args.place it c.advance.new.goroutine
    (λ g. record (gone_with (given_of None) g) { fault = Some fault.SendOnClosed })
    (found_at them c.args.place it (c.in-Some.ensures.variant.0 refl) c.in-Some.ensures.value) is)
