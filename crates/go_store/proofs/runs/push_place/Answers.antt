use Rattle.std.proofs.Common.{◌∙◌, ap}
use Rattle.go_store.specs.Cells.{spread}
use Rattle.go_store.proofs.Lengthened.{place_pushed}
use Rattle.go_store.proofs.runs.push_place.Goals as goal

pub returns : goal.returns
returns c = ap spread c.in_ok-push.ensures.items ∙ place_pushed c.args.places.now.items c.args.cell
