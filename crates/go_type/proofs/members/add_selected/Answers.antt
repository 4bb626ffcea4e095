use Rattle.std.proofs.Common.{◌∙◌, map, Some, sym, ap}
use Rattle.go_type.specs.declared.term.TypeTerm.TheVariants.{Struct, Interface}
use Rattle.go_type.specs.Levels.{member_by, place_at}
use Rattle.go_type.specs.Selector.{fields_named, signature_named}
use Rattle.std.specs.List.{flat_map}
use Rattle.go_type.proofs.Spots.{both_added}
use Rattle.go_type.proofs.members.add_selected.Goals as goal

pub returns-in-Some-Struct : goal.returns-in-Some-Struct
returns-in-Some-Struct c = λ paths.
    both_added c.add_fields.result c.args.types.now c.args.wanted (place_at paths c.args.from c.args.spot) (map (member_by paths) c.args.found.now.items) (map (member_by paths) c.add_methods.new.found.items)
    (map (member_by paths) c.add_fields.new.found.items) (fields_named c.args.wanted (paths c.args.from) c.args.spot.indirect c.as_slice.result.now) c.methods.result.now (Some (Struct c.in-Some-Struct.fields))
    c.methods.ensures (c.in_ok-add_methods.ensures paths) (sym (ap Some c.in-Some-Struct.field-0-is) ∙ c.in-Some-Struct.ensures.term)
    (ap (fields_named c.args.wanted (paths c.args.from) c.args.spot.indirect) c.as_slice.ensures) (c.add_fields.ensures paths)

pub returns-in-Some-Interface : goal.returns-in-Some-Interface
returns-in-Some-Interface c = λ paths.
    both_added c.add_signatures.result c.args.types.now c.args.wanted (place_at paths c.args.from c.args.spot) (map (member_by paths) c.args.found.now.items) (map (member_by paths) c.add_methods.new.found.items)
    (map (member_by paths) c.add_signatures.new.found.items) (flat_map (signature_named c.args.wanted (paths c.args.from) c.args.spot.indirect) c.as_slice-in-Some-Interface.result.now) c.methods.result.now (Some (Interface c.in-Some-Interface.methods))
    c.methods.ensures (c.in_ok-add_methods.ensures paths) (sym (ap Some c.in-Some-Interface.field-0-is) ∙ c.in-Some-Interface.ensures.term)
    (ap (flat_map (signature_named c.args.wanted (paths c.args.from) c.args.spot.indirect)) c.as_slice-in-Some-Interface.ensures) (c.add_signatures.ensures paths)
