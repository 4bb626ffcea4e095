use Rattle.std.proofs.Common.{ap, ◌∙◌}
use Rattle.go_maps.specs.Entries.{entries_of, entry_at}
use Rattle.go_maps.proofs.entries.MapEntries.slot.Goals as goal

pub returns : goal.returns
returns c = c.slot_at.ensures ∙ ap (λ slots. entry_at (entries_of slots) c.args.number) (c.as_slice.ensures.value ∙ c.self.view_is)
