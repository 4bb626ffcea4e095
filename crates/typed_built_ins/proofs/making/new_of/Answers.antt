use Rattle.go_type.specs.declared.term.TypeTerm.TheVariants.{Pointer}
use Rattle.typed_parts.proofs.Turns.{held}
use Rattle.typed_built_ins.proofs.Makes.{new_made, new_refused}
use Rattle.typed_built_ins.proofs.making.new_of.Goals as goal

pub returns-then-not-fits : goal.returns-then-not-fits
returns-then-not-fits c =
    new_refused c.args.ground.now c.hold.new.self c.within_limits.new.self c.args.call c.args.form c.in_ok-pointer.pointer c.in_ok-fits.fits
    (held c.args.ground.now c.hold.new.self (Pointer c.args.form) c.hold.result c.in_ok-pointer.pointer c.in_ok-pointer.was c.hold.ensures.named c.hold.ensures.held)
    c.in_ok-fits.ensures c.if-not-fits.true

pub returns : goal.returns
returns c =
    new_made c.args.ground.now c.hold.new.self c.within_limits.new.self c.args.call c.args.form c.in_ok-pointer.pointer c.in_ok-fits.fits c.new-none.result c.node.result
    (held c.args.ground.now c.hold.new.self (Pointer c.args.form) c.hold.result c.in_ok-pointer.pointer c.in_ok-pointer.was c.hold.ensures.named c.hold.ensures.held)
    c.in_ok-fits.ensures c.if-not-fits.false c.new-none.ensures.items c.node.ensures
