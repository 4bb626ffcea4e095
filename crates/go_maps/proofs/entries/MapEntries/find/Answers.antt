use Rattle.std.proofs.Common.{ap, ◌∙◌}
use Rattle.go_maps.specs.Entries.{entries_of, place_of_code}
use Rattle.go_maps.specs.Places.{place_in, looked_up}
use Rattle.go_maps.proofs.Standing.{found_is}
use Rattle.go_maps.proofs.entries.MapEntries.find.Goals as goal

pub returns : goal.returns
returns c =
    let code = looked_up c.args.look.now in
    c.find.ensures
    ∙ found_is (place_in c.self.inside.places) (entries_of c.self.inside.slots.items) c.self.invariant.found code
    ∙ ap (λ slots. place_of_code code (entries_of slots)) c.self.view_is
