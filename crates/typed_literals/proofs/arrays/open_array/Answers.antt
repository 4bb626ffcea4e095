use Rattle.go_type.specs.declared.term.TypeTerm.TheVariants.{Array}
use Rattle.typed_parts.proofs.Turns.{held}
use Rattle.typed_literals.proofs.Rows.{array_made}
use Rattle.typed_literals.proofs.arrays.open_array.Goals as goal

pub returns : goal.returns
returns c =
    array_made c.args.ground.now c.hold.new.self c.within_limits.new.self c.args.at c.args.elem c.args.len c.in_ok-array.array c.in_ok-fits.fits c.then_some.result
    (held c.args.ground.now c.hold.new.self (Array c.args.len c.args.elem) c.hold.result c.in_ok-array.array c.in_ok-array.was c.hold.ensures.named c.hold.ensures.held)
    c.in_ok-fits.ensures c.then_some.ensures
