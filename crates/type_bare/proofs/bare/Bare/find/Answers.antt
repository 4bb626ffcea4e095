use Rattle.type_bare.proofs.Known.{grows_held, definitions_held}
use Rattle.type_bare.proofs.bare.Bare.find.Goals as goal

pub returns-clause-grows : goal.returns-clause-grows
returns-clause-grows c = grows_held c.args.types.now c.hold.new.self c.in_ok-bare.bare c.hold.result c.hold.ensures.held c.hold.ensures.err

pub returns-clause-definitions : goal.returns-clause-definitions
returns-clause-definitions c = definitions_held c.args.types.now c.hold.new.self c.in_ok-bare.bare c.hold.result c.hold.ensures.held c.hold.ensures.err
