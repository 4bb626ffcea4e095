use Rattle.std.proofs.Common.{sym}
use Rattle.go_maps.proofs.Shown.{shown_at}
use Rattle.go_maps.proofs.equality.is_comparable.Goals as goal

pub returns-in-Some-shown_by : goal.returns-in-Some-shown_by
returns-in-Some-shown_by c = shown_at c.args.types.now c.args.of c.in-Some.term.now c.in-Some-shown_by.shown (sym c.in-Some.ensures.term) (sym c.in-Some-shown_by.ensures)
