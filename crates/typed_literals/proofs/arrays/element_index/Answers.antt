use Rattle.typed_literals.proofs.Items.{key_index, key_unsound, next_index}
use Rattle.typed_literals.proofs.arrays.element_index.Goals as goal

pub returns-in_default : goal.returns-in_default
returns-in_default c = next_index c.args.ground.now c.args.key c.args.next c.in_default.is

pub returns-in-Some-2 : goal.returns-in-Some-2
returns-in-Some-2 c =
    key_index c.args.ground.now c.index_key.new.ground c.args.key c.in-Some.key c.args.next c.in_ok-key.field-0 c.in-Some-2.key c.index_of-index.result
    c.in-Some.is c.in_ok-key.ensures c.in-Some-2.is c.index_of-index.ensures

pub returns-in-None : goal.returns-in-None
returns-in-None c =
    key_unsound c.args.ground.now c.index_key.new.ground c.args.key c.in-Some.key c.args.next c.in_ok-key.field-0
    c.in-Some.is c.in_ok-key.ensures c.in-None.is
