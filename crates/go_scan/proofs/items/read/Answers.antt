use Rattle.go_scan.specs.declared.items.Reading.TheVariants.{Plain, Quoted}
use Rattle.go_scan.proofs.ItemLaws.{view-good}
use Rattle.go_scan.proofs.items.read.Goals as goal

pub returns-in-Plain-clause-within : goal.returns-in-Plain-clause-within
returns-in-Plain-clause-within c = view-good Plain c.args.text.now c.character.result c.character.ensures

pub returns-in-Quoted-clause-within : goal.returns-in-Quoted-clause-within
returns-in-Quoted-clause-within c = view-good (Quoted c.in-Quoted.quote) c.args.text.now c.quoted_item.result c.quoted_item.ensures
