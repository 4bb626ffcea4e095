use Rattle.go_type.specs.declared.term.TypeTerm.TheVariants.{Pointer}
use Rattle.type_bare.proofs.Known.{grows_held, definitions_held}
use Rattle.cg_numbers.proofs.likeness.hold_pointer.Goals as goal

pub returns-clause-grows : goal.returns-clause-grows
returns-clause-grows c = grows_held c.args.types.now c.hold.new.self (Pointer c.at.result) c.hold.result c.hold.ensures.held c.hold.ensures.err

pub returns-clause-definitions : goal.returns-clause-definitions
returns-clause-definitions c = definitions_held c.args.types.now c.hold.new.self (Pointer c.at.result) c.hold.result c.hold.ensures.held c.hold.ensures.err
