use Rattle.std.proofs.Common.{◌≡◌, ◌∷◌, [], List, map, length, sym, ap, subst, ◌∙◌, append_assoc, append-nil, arith}
use Rattle.std.specs.Vec.Iter.{into_iter_items}
use Rattle.std.proofs.lemmas.List.{nil_from_length, map-append}
use Rattle.go_type.specs.declared.members.Spot.{Spot}
use Rattle.go_type.specs.Selector.{Place}
use Rattle.go_type.specs.Levels.{Thins, ThinFor, place_by}
use Rattle.go_type.proofs.levels.thinned.Goals as goal

pub loop-spot-preserved : goal.loop-spot-preserved
loop-spot-preserved c =
    let at = c.loop-spot in
    let x = c.in-Some.spot in
    let steps : into_iter_items at.spot-iterator ≡ x ∷ into_iter_items c.next.new.self = c.in-Some.ensures.steps.0 in (
      append_assoc at.yielded (x ∷ []) _ ∙ rw (← steps) at.invariant.0,
      λ types paths. subst (λ (l : List Place). ThinFor types c.args.seen.now.keys paths l c.add.new.self) (sym (map-append (place_by paths) at.yielded (x ∷ [])))
          (c.in_ok-add.ensures types paths (map (place_by paths) at.yielded) (at.invariant.1 types paths)),
      let was = at.invariant.2 in
          let gone = c.in-Some.ensures.steps.1 in
          let short = ap length steps in
          omega arith,
    )

pub returns : goal.returns
returns c = λ types paths.
    let at = c.loop-spot in
    let none = c.in-None.ensures.steps in
    let empty : into_iter_items at.spot-iterator ≡ [] = nil_from_length (into_iter_items at.spot-iterator) (sym at.invariant.2 ∙ none.0) in
    let all = sym (append-nil at.yielded) ∙ rw empty at at.invariant.0 ∙ c.into_iter-spot-iterator.ensures.into_iter_gives.0 in
    subst (λ (l : List Spot). Thins types c.args.seen.now.keys (map (place_by paths) l) (map (place_by paths) at.thinning.kept.items)) all (at.invariant.1 types paths).thins
