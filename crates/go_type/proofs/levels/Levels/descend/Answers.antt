use Rattle.std.proofs.Common.{◌+◌, ◌++◌, ◌∷◌, [], List, map, reverse, sym, ap, subst, ◌∙◌}
use Rattle.go_type.specs.declared.members.Spot.{Spot}
use Rattle.go_type.specs.Levels.{StandFor, SeenIn, path_at, place_in, place_at}
use Rattle.go_type.specs.Selector.{flat_map_from, embedded_in}
use Rattle.go_type.proofs.Spots.{next_stands}
use Rattle.go_type.proofs.levels.Levels.descend.Goals as goal

pub returns : goal.returns
returns c = λ a n stand.
    subst (λ (l : List Spot). StandFor c.args.types.now a (n + 1) (map (place_in (reverse c.push.new.self.items)) l) c.see.new.seen.keys) (sym (ap (λ v. v.items) c.replace-spots.ensures.after))
    (next_stands c.args.types.now a n c.args.self.now.above.items c.push.new.self.items c.args.self.now.spots.items c.in_ok-next.next.items c.in_ok-kept.kept.items c.args.self.now.seen.keys c.see.new.seen.keys stand
    (subst (λ (l : List Spot). SeenIn (map (place_in (reverse c.args.self.now.above.items)) l) c.args.self.now.seen.keys c.see.new.seen.keys) c.as_slice.ensures.value (c.in_ok-see.ensures (reverse c.args.self.now.above.items)))
    (c.in_ok-next.ensures (path_at (reverse c.args.self.now.above.items) c.args.self.now.spots.items)
    ∙ ap (flat_map_from (λ i spot. embedded_in c.args.types.now (place_at (path_at (reverse c.args.self.now.above.items) c.args.self.now.spots.items) i spot)) 0) c.as_slice-2.ensures.value)
    (c.in_ok-kept.ensures c.args.types.now (path_at (reverse c.args.self.now.above.items) c.args.self.now.spots.items))
    (c.in_ok-push.ensures.items ∙ ap (λ l. c.args.self.now.above.items ++ l ∷ []) (c.from_spots.ensures ∙ ap (λ v. v.items) c.replace-spots.ensures.value)))
