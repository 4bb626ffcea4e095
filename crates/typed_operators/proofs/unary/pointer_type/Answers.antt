use Rattle.go_type.specs.declared.term.TypeTerm.TheVariants.{Pointer}
use Rattle.typed_parts.proofs.Turns.{held}
use Rattle.typed_operators.proofs.Addresses.{pointer_made}
use Rattle.typed_operators.proofs.unary.pointer_type.Goals as goal

pub returns : goal.returns
returns c =
    pointer_made c.args.ground.now c.hold.new.self c.within_limits.new.self c.args.at c.args.of c.in_ok-pointer.pointer c.in_ok-fits.fits c.then_some.result
    (held c.args.ground.now c.hold.new.self (Pointer c.args.of) c.hold.result c.in_ok-pointer.pointer c.in_ok-pointer.was c.hold.ensures.named c.hold.ensures.held)
    c.in_ok-fits.ensures c.then_some.ensures
