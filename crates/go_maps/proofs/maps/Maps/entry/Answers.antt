use Rattle.std.proofs.Common.{Some, ap, sym, ◌∙◌, option_map}
use Rattle.go_maps.specs.Entries.{entry_at, numbered}
use Rattle.go_maps.specs.Maps.{maps_of, entry_in, or_none}
use Rattle.go_maps.proofs.maps.Maps.entry.Goals as goal

pub returns-in_ok-copy-in-Some-slot : goal.returns-in_ok-copy-in-Some-slot
returns-in_ok-copy-in-Some-slot c =
    ap Some c.in_ok-copy-in-Some-slot.ensures
    ∙ ap (option_map (numbered c.args.number))
    (c.in-Some-slot.ensures ∙ ap (λ m. entry_at (or_none m) c.args.number) (sym c.in_ok-map.ensures)
    ∙ ap (λ i. entry_in (maps_of c.args.self.now) i c.args.number) (sym c.in-Some.is))

pub returns-in-None : goal.returns-in-None
returns-in-None c =
    ap (option_map (numbered c.args.number))
    (c.in-None.ensures ∙ ap (λ m. entry_at (or_none m) c.args.number) (sym c.in_ok-map.ensures)
    ∙ ap (λ i. entry_in (maps_of c.args.self.now) i c.args.number) (sym c.in-Some.is))
