use Rattle.std.proofs.Common.{◌++◌, ap, ◌∙◌, of_z}
use Rattle.std.specs.Int.{to_le_bytes, w128}
use Rattle.std.proofs.lemmas.Int.{to_z-of_z}
use Rattle.go_maps.proofs.keys.push_int.Goals as goal

pub returns : goal.returns
returns c =
    c.in_ok-extend_from_slice.ensures.items ∙ ap (λ l. c.args.bytes.now.items ++ l) c.to_le_bytes.ensures
    ∙ ap (λ z. c.args.bytes.now.items ++ to_le_bytes w128 (of_z w128 z)) (to_z-of_z w128 c.args.number c.ranges.number)
