use Rattle.std.proofs.Common.{ap, sym, ◌∙◌}
use Rattle.go_value.specs.Values.{value_of}
use Rattle.go_maps.specs.Entries.{with_pair}
use Rattle.go_maps.specs.Maps.{maps_of, with_map}
use Rattle.go_maps.proofs.InMaps.{map_changed}
use Rattle.go_maps.proofs.maps.Maps.put.Goals as goal

pub returns-in_ok-put-in-Some-get_mut-clause-ok : goal.returns-in_ok-put-in-Some-get_mut-clause-ok
returns-in_ok-put-in-Some-get_mut-clause-ok c =
    let put = with_pair (value_of c.args.key) (value_of c.args.value) in
    map_changed put c.args.self.now.maps.items c.in-Some.map c.in-Some-get_mut.entries.now c.put.new.self c.in-Some-get_mut.ensures.item.3.0 c.in-Some-get_mut.ensures.item.1 c.in_ok-put-in-Some-get_mut.ensures.ok
    ∙ ap (with_map put (maps_of c.args.self.now)) (sym c.in-Some.is)
