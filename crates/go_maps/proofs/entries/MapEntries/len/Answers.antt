use Rattle.std.proofs.Common.{ap, ◌∙◌}
use Rattle.go_maps.specs.Entries.{entries_of, count_in}
use Rattle.go_maps.proofs.entries.MapEntries.len.Goals as goal

pub returns : goal.returns
returns c = c.self.invariant.live ∙ ap (λ slots. count_in (entries_of slots)) c.self.view_is
