use Rattle.std.proofs.Common.{◌∙◌, sym}
use Rattle.typed_literals.proofs.Entries.{key_came, no_key}
use Rattle.typed_literals.proofs.maps.entry_key.Goals as goal

pub returns-in_default : goal.returns-in_default
returns-in_default c = λ before are.
    no_key c.args.ground.now c.report.new.self c.args.at c.args.key c.args.of before c.args.keys.now c.in_default.is are c.report.ensures

pub returns : goal.returns
returns c = λ before are.
    key_came c.args.ground.now c.part_value.new.ground c.ask_at-is_new.new.ground c.args.at c.args.key c.in-Some.key c.args.of before
    c.in_ok-key.key c.in_ok-is_new.key c.only.result c.add_written.new.self c.is_constant-is_constant.result c.add_written.result c.in_ok-is_new.is_new c.ask_at-is_new.result
    c.in-Some.is c.in_ok-key.ensures c.is_constant-is_constant.ensures (c.add_written.ensures before are)
    (sym c.beside.ensures ∙ c.in_ok-is_new.was) c.ask_at-is_new.ensures.told c.ask_at-is_new.ensures.broken c.only.ensures
