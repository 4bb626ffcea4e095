use Rattle.std.proofs.Common.{sym, ap, ◌∙◌, Option, Some, None}
use Rattle.std.specs.Option.{option_map}
use Rattle.go_type.specs.Table.{Table}
use Rattle.typed_parts.specs.declared.meaning.Meaning.TheVariants as meaning
use Rattle.typed_parts.specs.declared.meaning.Seen.{Seen}
use Rattle.typed_parts.specs.Turning.{Keeps}
use Rattle.typed_parts.proofs.Turns.{keeps}
use Rattle.typed_operators.specs.Addressing.{IsPointerType}
use Rattle.typed_operators.specs.Unary.{IsDereference}
use Rattle.typed_operators.proofs.Addresses.{indirection_by, meant, type_meant, value_meant}
use Rattle.typed_operators.proofs.unary.indirection.Goals as goal

pub returns-in-Some-clause-is : goal.returns-in-Some-clause-is
returns-in-Some-clause-is c =
    let old = c.args.ground.now in
    let new = c.pointer_type.new.ground in
    let o = c.in_ok-pointer.pointer in
    indirection_by old new c.args.at c.args.x (Some c.in-Some.of) (option_map meaning.Type o) c.of_type.result.meaning (sym c.in-Some.is ∙ c.seen_type.ensures)
    (type_meant o ∙ sym (ap (λ (s : Seen). s.meaning) c.of_type.ensures)) (meant old new (IsPointerType c.args.at c.in-Some.of) meaning.Type o c.in_ok-pointer.ensures)

pub returns-clause-is : goal.returns-clause-is
returns-clause-is c =
    let old = c.args.ground.now in
    let new = c.dereference.new.ground in
    let o = c.in_ok-expr.expr in
    indirection_by old new c.args.at c.args.x None (option_map meaning.Value o) c.value.result.meaning (sym c.in_default.is ∙ c.seen_type.ensures)
    (value_meant o ∙ sym (ap (λ (s : Seen). s.meaning) c.value.ensures))
    (meant old new (Keeps (λ (types : Table). IsDereference types c.args.at c.args.x)) meaning.Value o
    (keeps old new (λ (types : Table). IsDereference types c.args.at c.args.x) o c.in_ok-expr.ensures))
