use Rattle.std.proofs.Common.{ℕ, ◌+◌, ◌<◌, ◌≤◌, List, length, map, reverse, ap, subst, arith}
use Rattle.go_type.specs.declared.members.Found.{Found}
use Rattle.go_type.specs.Levels.{places_of, found_of, place_in}
use Rattle.go_type.specs.Selector.{IsFirst}
use Rattle.go_type.proofs.Selections.{none_more, none_at_all, no_items}
use Rattle.go_type.proofs.Spots.{found_all}
use Rattle.go_type.proofs.Stands.{found_first, none_found, none_without_places}
use Rattle.go_type.proofs.selectors.find_member.Goals as goal

deeper : (k n m : ℕ) → k < n → n ≤ m → k < m
deeper k n m h g = omega arith

pub returns-then-not-is_empty : goal.returns-then-not-is_empty
returns-then-not-is_empty c =
    let here = found_all c.args.types.now c.args.wanted (reverse c.depths.levels.above.items) c.depths.levels.spots.items c.as_slice.result.now c.in-Ok-members_in.found.items c.as_slice.ensures.value c.in-Ok-members_in.ensures in
    found_first c.args.types.now c.args.wanted c.args.a c.depths.depth (places_of c.depths.levels) c.depths.levels.seen.keys (map (found_of c.depths.levels) c.in-Ok-members_in.found.items) c.first_of.result
    c.depths.invariant.stand c.depths.invariant.none here
    (subst (λ (l : List Found). IsFirst (map (found_of c.depths.levels) l) c.first_of.result) c.as_slice-then-not-is_empty.ensures.value c.first_of.ensures)

pub depths-preserved : goal.depths-preserved
depths-preserved c =
    let empty = no_items c.in-Ok-members_in.found.items c.in-Ok-members_in.found.len c.is_empty.result c.in-Ok-members_in.found.ok.0 c.is_empty.ensures c.if-not-is_empty.false in
    let all = found_all c.args.types.now c.args.wanted (reverse c.depths.levels.above.items) c.depths.levels.spots.items c.as_slice.result.now c.in-Ok-members_in.found.items c.as_slice.ensures.value c.in-Ok-members_in.ensures in
    let here = none_found c.args.types.now c.args.wanted c.args.a c.depths.depth (places_of c.depths.levels) c.depths.levels.seen.keys (map (found_of c.depths.levels) c.in-Ok-members_in.found.items)
    c.depths.invariant.stand c.depths.invariant.none all (ap (map (found_of c.depths.levels)) empty) in
    record {
      stand = c.in-Ok-descend.ensures c.args.a c.depths.depth c.depths.invariant.stand;
      none = none_more c.args.types.now c.args.wanted c.args.a c.depths.depth c.depths.invariant.none here;
    }

pub returns-then-is_empty : goal.returns-then-is_empty
returns-then-is_empty c =
    let empty = no_items c.in-Ok-members_in.found.items c.in-Ok-members_in.found.len c.is_empty.result c.in-Ok-members_in.found.ok.0 c.is_empty.ensures c.if-not-is_empty.false in
    let all = found_all c.args.types.now c.args.wanted (reverse c.depths.levels.above.items) c.depths.levels.spots.items c.as_slice.result.now c.in-Ok-members_in.found.items c.as_slice.ensures.value c.in-Ok-members_in.ensures in
    let here = none_found c.args.types.now c.args.wanted c.args.a c.depths.depth (places_of c.depths.levels) c.depths.levels.seen.keys (map (found_of c.depths.levels) c.in-Ok-members_in.found.items)
    c.depths.invariant.stand c.depths.invariant.none all (ap (map (found_of c.depths.levels)) empty) in
    let gone = no_items c.descend.new.self.spots.items c.descend.new.self.spots.len c.is_empty-in-depths.result c.descend.new.self.spots.ok.0 c.is_empty-in-depths.ensures c.if-is_empty.true in
    none_without_places c.args.types.now c.args.wanted c.args.a (c.depths.depth + 1) (places_of c.descend.new.self) c.descend.new.self.seen.keys (ap (map (place_in (reverse c.descend.new.self.above.items))) gone)
    (c.in-Ok-descend.ensures c.args.a c.depths.depth c.depths.invariant.stand) (none_more c.args.types.now c.args.wanted c.args.a c.depths.depth c.depths.invariant.none here)

pub returns : goal.returns
returns c =
    let all : length c.args.types.now.terms ≤ c.depths.depth = omega (arith, c.len-depth-end.ensures.value) in
    none_at_all c.args.types.now c.len-depth-end.ensures.counts c.args.wanted c.args.a (λ k less. c.depths.invariant.none k (deeper k _ _ less all))
