use Rattle.std.proofs.Common.{List, map, take}
use Rattle.go_type.specs.declared.members.Spot.{Spot}
use Rattle.go_type.specs.Levels.{SeenIn, place_in}
use Rattle.go_type.proofs.levels.see.Given as goal

abbrev pub invariant-loop-spot : goal.invariant-loop-spot
invariant-loop-spot l = (above : List (List Spot)) → SeenIn (map (place_in above) (take l.spot-index l.spots)) l.fn.seen.keys l.seen.keys
