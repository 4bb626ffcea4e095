use Rattle.std.proofs.Common.{ap, sym, ◌∙◌}
use Rattle.go_value.specs.Values.{value_of}
use Rattle.go_maps.specs.Entries.{entries_of, without_key}
use Rattle.go_maps.specs.Maps.{maps_of, with_map}
use Rattle.go_maps.specs.Places.{looked_up}
use Rattle.go_maps.proofs.InMaps.{map_changed, without_code}
use Rattle.go_maps.proofs.maps.Maps.remove.Goals as goal

pub returns-in-Some-get_mut-clause-ok : goal.returns-in-Some-get_mut-clause-ok
returns-in-Some-get_mut-clause-ok c =
    let key = value_of c.args.key.now in
    let same = without_code (looked_up c.in_ok-look.look) key (entries_of c.in-Some-get_mut.entries.now) c.in_ok-look.ensures.code in
    map_changed (without_key key) c.args.self.now.maps.items c.in-Some.map c.in-Some-get_mut.entries.now c.remove.new.self c.in-Some-get_mut.ensures.item.3.0 c.in-Some-get_mut.ensures.item.1 (c.remove.ensures ∙ same)
    ∙ ap (with_map (without_key key) (maps_of c.args.self.now)) (sym c.in-Some.is)
