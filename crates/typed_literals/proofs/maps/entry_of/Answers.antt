use Rattle.std.proofs.Common.{◌∙◌, sym, ap, None}
use Rattle.std.specs.Option.{option_map}
use Rattle.typed_literals.proofs.Entries.{entry_came, entry_in}
use Rattle.typed_literals.proofs.maps.entry_of.Goals as goal

pub returns-in-Some : goal.returns-in-Some
returns-in-Some c = λ before are.
    entry_came c.args.ground.now c.entry_key-key.new.ground c.part_value-value.new.ground c.args.element c.args.key_type c.args.elem before c.entry_key-key.new.keys
    c.entry_key-key.result c.part_value-value.result c.in_ok-key.field-0 _ (c.entry_key-key.ensures before are) c.part_value-value.ensures
    (sym c.both.ensures ∙ c.in_ok-key.was) (ap (option_map entry_in) (sym c.in-Some.is))

pub returns-in-None : goal.returns-in-None
returns-in-None c = λ before are.
    entry_came c.args.ground.now c.entry_key-key.new.ground c.part_value-value.new.ground c.args.element c.args.key_type c.args.elem before c.entry_key-key.new.keys
    c.entry_key-key.result c.part_value-value.result c.in_ok-key.field-0 None (c.entry_key-key.ensures before are) c.part_value-value.ensures
    (sym c.both.ensures ∙ c.in_ok-key.was) (ap (option_map entry_in) (sym c.in-None.is))
