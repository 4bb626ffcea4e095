use Rattle.std.proofs.Common.{◌≡◌, ◌+◌, ◌*◌, min, take}
use Rattle.std.specs.List.{sum_by}
use Rattle.go_type.specs.Sizes.{leaves_to}
use Rattle.type_sizes.specs.Known.{AreSizes}
use Rattle.type_sizes.proofs.sizes.Sizes.+leaves.Given as goal

abbrev pub decreases-leaves : goal.decreases-leaves
decreases-leaves l = l.depth * 3 + 1

abbrev pub decreases-leaves_anew : goal.decreases-leaves_anew
decreases-leaves_anew l = l.depth * 3

abbrev pub decreases-leaves_of_fields : goal.decreases-leaves_of_fields
decreases-leaves_of_fields l = l.depth * 3 + 2

abbrev pub invariant-leaves_of_fields-loop-field : goal.invariant-leaves_of_fields-loop-field
invariant-leaves_of_fields-loop-field l = record {
  sum : l.sum ≡ min 1048577 (sum_by (λ field. leaves_to l.depth l.types field.of) (take l.field-index l.fields));
  kept : AreSizes l.types l.self;
}
