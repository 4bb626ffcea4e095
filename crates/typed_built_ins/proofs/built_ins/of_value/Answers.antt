use Rattle.go_type.specs.declared.operators.Builtin.TheVariants as builtin
use Rattle.typed_built_ins.specs.BuiltIns.{IsPanic}
use Rattle.typed_built_ins.specs.Dispatch.{IsOfOne}
use Rattle.typed_built_ins.specs.Moving.{IsClear, IsClose}
use Rattle.typed_built_ins.proofs.Dispatches.{one_by, one_else}
use Rattle.typed_parts.proofs.Turns.{weaker}
use Rattle.typed_built_ins.proofs.built_ins.of_value.Goals as goal

pub returns-in-Clear : goal.returns-in-Clear
returns-in-Clear c =
    let old = c.args.ground.now in
    let new = c.cleared.new.ground in
    one_by old new c.args.call c.args.x builtin.Clear c.cleared.result c.in-Clear.is
    (weaker old new (IsClear c.args.call c.args.x) (IsOfOne builtin.Clear c.args.call c.args.x) c.cleared.result (λ one is. is) c.cleared.ensures)

pub returns-in-Close : goal.returns-in-Close
returns-in-Close c =
    let old = c.args.ground.now in
    let new = c.closed.new.ground in
    one_by old new c.args.call c.args.x builtin.Close c.closed.result c.in-Close.is
    (weaker old new (IsClose c.args.call c.args.x) (IsOfOne builtin.Close c.args.call c.args.x) c.closed.result (λ one is. is) c.closed.ensures)

pub returns-in-Panic : goal.returns-in-Panic
returns-in-Panic c =
    let old = c.args.ground.now in
    let new = c.panicked.new.ground in
    one_by old new c.args.call c.args.x builtin.Panic c.panicked.result c.in-Panic.is
    (weaker old new (IsPanic c.args.call c.args.x) (IsOfOne builtin.Panic c.args.call c.args.x) c.panicked.result (λ one is. is) c.panicked.ensures)

pub returns-in_default : goal.returns-in_default
returns-in_default c =
    one_else c.args.ground.now c.length_of.new.ground c.args.call c.args.x c.args.call.builtin c.length_of.result c.in_default.not-Clear c.in_default.not-Close c.in_default.not-Panic c.length_of.ensures
