use Rattle.std.proofs.Common.{◌≡◌, ◌+◌, ◌*◌, true, take}
use Rattle.std.specs.List.{list_all}
use Rattle.go_type.specs.Sizes.{nests_within, nests_as_part}
use Rattle.type_sizes.specs.Known.{AreSizes}
use Rattle.type_sizes.proofs.sizes.Sizes.+nests.Given as goal

abbrev pub decreases-fields_nest : goal.decreases-fields_nest
decreases-fields_nest l = l.limit * 4 + 2

abbrev pub decreases-methods_nest : goal.decreases-methods_nest
decreases-methods_nest l = l.limit * 4 + 3

abbrev pub decreases-nests : goal.decreases-nests
decreases-nests l = l.limit * 4 + 1

abbrev pub decreases-nests_anew : goal.decreases-nests_anew
decreases-nests_anew l = l.limit * 4

abbrev pub decreases-part_nests : goal.decreases-part_nests
decreases-part_nests l = l.limit * 4 + 2

abbrev pub decreases-pair_nests : goal.decreases-pair_nests
decreases-pair_nests l = l.limit * 4 + 3

abbrev pub decreases-parts_nest : goal.decreases-parts_nest
decreases-parts_nest l = l.limit * 4 + 3

abbrev pub invariant-fields_nest-loop-field : goal.invariant-fields_nest-loop-field
invariant-fields_nest-loop-field l = record {
  so_far : list_all (λ field. nests_within l.limit l.types field.of) (take l.field-index l.fields) ≡ true;
  kept : AreSizes l.types l.self;
}

abbrev pub invariant-methods_nest-loop-method : goal.invariant-methods_nest-loop-method
invariant-methods_nest-loop-method l = record {
  so_far : list_all (λ method. nests_as_part l.limit (nests_within l.limit l.types) l.types method.of) (take l.method-index l.methods) ≡ true;
  kept : AreSizes l.types l.self;
}

abbrev pub invariant-parts_nest-loop-id : goal.invariant-parts_nest-loop-id
invariant-parts_nest-loop-id l = record {
  so_far : list_all (nests_as_part l.limit (nests_within l.limit l.types) l.types) (take l.id-index l.ids) ≡ true;
  kept : AreSizes l.types l.self;
}
