-- What the counts of the code show.
use Rattle.std.specs.Prelude.{◌≡◌, reverse, sum}
use Rattle.go_parse.specs.declared.reach.Counts as code
use Rattle.go_syntax.specs.Reach.{Counts}

abbrev pub view_counts : code.Counts → Counts
view_counts c = record { top = c.top; below = reverse c.below.items }

abbrev pub IsSummed : code.Counts → Type 0
IsSummed c = c.below_sum ≡ sum c.below.items
