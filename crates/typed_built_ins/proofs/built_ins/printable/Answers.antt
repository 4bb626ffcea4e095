use Rattle.go_tree.specs.declared.exprs.TypedExpr.{TypedExpr}
use Rattle.std.proofs.Common.{Some}
use Rattle.go_type.specs.Table.{Table}
use Rattle.typed_parts.specs.Adapting.{IsDefaultFor}
use Rattle.typed_built_ins.specs.BuiltIns.{IsPrinted, print_asked}
use Rattle.typed_parts.specs.Turning.{Asks, Keeps}
use Rattle.typed_parts.proofs.Turns.{asks, came, keeps, nothing, nothing_came, something, then_nothing, then_soundly}
use Rattle.typed_built_ins.proofs.built_ins.printable.Goals as goal

pub returns-in_default : goal.returns-in_default
returns-in_default c = λ number. nothing c.args.ground.now IsPrinted c.args.x c.in_default.is

pub returns-in-Some-2 : goal.returns-in-Some-2
returns-in-Some-2 c = λ number.
    let old = c.args.ground.now in
    let mid = c.by_default.new.ground in
    let x = c.in-Some.x in
    something old c.ask_printed.new.ground IsPrinted c.args.x x (came c.ask_printed.result) c.in-Some.is
    (then_soundly old mid c.ask_printed.new.ground (Keeps (λ (types : Table). IsDefaultFor types (Some x)))
    (λ (value : TypedExpr). Asks (λ (types : Table). print_asked types x.at value)) c.in_ok-value.field-0 c.in-Some-2.value (came c.ask_printed.result) c.in-Some-2.is
    (keeps old mid (λ (types : Table). IsDefaultFor types (Some x)) c.in_ok-value.field-0 c.in_ok-value.ensures)
    (asks mid c.ask_printed.new.ground (λ (types : Table). print_asked types x.at c.in-Some-2.value) c.ask_printed.result c.ask_printed.ensures.answer c.ask_printed.ensures.broken))

pub returns-in-None : goal.returns-in-None
returns-in-None c = λ number.
    let old = c.args.ground.now in
    let mid = c.by_default.new.ground in
    let x = c.in-Some.x in
    something old mid IsPrinted c.args.x x (nothing_came {A = TypedExpr}) c.in-Some.is
    (then_nothing old mid (Keeps (λ (types : Table). IsDefaultFor types (Some x)))
    (λ (value : TypedExpr). Asks (λ (types : Table). print_asked types x.at value)) c.in_ok-value.field-0 c.in-None.is
    (keeps old mid (λ (types : Table). IsDefaultFor types (Some x)) c.in_ok-value.field-0 c.in_ok-value.ensures))
