use Rattle.std.proofs.Common.{◌≡◌, ◌<◌, ◌+◌, ◌*◌, take}
use Rattle.std.specs.List.{sum_by}
use Rattle.go_type.specs.Sizes.{leaves_to}
use Rattle.go_type.proofs.sizes.+leaves.Given as goal

abbrev pub decreases-leaves_up_to : goal.decreases-leaves_up_to
decreases-leaves_up_to l = l.depth * 2

abbrev pub decreases-leaves_of_fields : goal.decreases-leaves_of_fields
decreases-leaves_of_fields l = l.depth * 2 + 1

abbrev pub invariant-leaves_of_fields-loop-field : goal.invariant-leaves_of_fields-loop-field
invariant-leaves_of_fields-loop-field l = record {
  sum : l.sum ≡ sum_by (λ field. leaves_to l.depth l.types field.of) (take l.field-index l.fields);
  below : l.sum < l.limit;
}
