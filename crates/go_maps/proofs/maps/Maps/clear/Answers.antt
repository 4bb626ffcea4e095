use Rattle.std.proofs.Common.{ap, sym, ◌∙◌}
use Rattle.go_maps.specs.Entries.{cleared}
use Rattle.go_maps.specs.Maps.{maps_of, with_map}
use Rattle.go_maps.proofs.InMaps.{map_changed, map_past}
use Rattle.go_maps.proofs.maps.Maps.clear.Goals as goal

pub returns-in-Some-get_mut : goal.returns-in-Some-get_mut
returns-in-Some-get_mut c =
    map_changed cleared c.args.self.now.maps.items c.in-Some.map c.in-Some-get_mut.entries.now c.clear.new.self c.in-Some-get_mut.ensures.item.3.0 c.in-Some-get_mut.ensures.item.1 c.clear.ensures
    ∙ ap (with_map cleared (maps_of c.args.self.now)) (sym c.in-Some.is)

pub returns-in_default-get_mut : goal.returns-in_default-get_mut
returns-in_default-get_mut c =
    map_past cleared c.args.self.now.maps.items c.in-Some.map c.in_default-get_mut.ensures.item.3
    ∙ ap (with_map cleared (maps_of c.args.self.now)) (sym c.in-Some.is)
