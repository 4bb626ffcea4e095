use Rattle.go_tree.specs.declared.exprs.TypedExpr.{TypedExpr}
use Rattle.typed_parts.specs.declared.meaning.Meaning.TheVariants as meaning
use Rattle.typed_parts.proofs.Turns.{nothing_came}
use Rattle.typed_primaries.specs.declared.selecting.Selected.{Selected}
use Rattle.typed_primaries.proofs.Selects.{of_builtin, of_meaning, of_no_meaning, of_several, of_value}
use Rattle.typed_primaries.proofs.selecting.selector.Goals as goal

pub returns-in-None : goal.returns-in-None
returns-in-None c =
    let it : Selected = record { at = c.args.name_at; name = c.args.name; «package» = c.args.«package» } in
    of_no_meaning c.args.ground.now c.args.x.at c.args.x.meaning it c.in-None.is

pub returns-in-Some-Type : goal.returns-in-Some-Type
returns-in-Some-Type c =
    let it : Selected = record { at = c.args.name_at; name = c.args.name; «package» = c.args.«package» } in
    of_meaning c.args.ground.now c.method_expression.new.ground c.args.x.at c.args.x.meaning c.in-Some-Type.field-0 (meaning.Type c.in-Some-Type.of) it
    c.method_expression.result c.in-Some-Type.is c.in-Some-Type.field-0-is c.method_expression.ensures

pub returns-in-Some-Builtin : goal.returns-in-Some-Builtin
returns-in-Some-Builtin c =
    let it : Selected = record { at = c.args.name_at; name = c.args.name; «package» = c.args.«package» } in
    of_meaning c.args.ground.now c.report.new.self c.args.x.at c.args.x.meaning c.in-Some-Builtin.field-0 (meaning.Builtin c.in-Some-Builtin.field-0-0) it
    (nothing_came {A = TypedExpr}) c.in-Some-Builtin.is c.in-Some-Builtin.field-0-is (of_builtin c.args.ground.now c.report.new.self c.args.x.at c.report.ensures)

pub returns-in-Some : goal.returns-in-Some
returns-in-Some c =
    let it : Selected = record { at = c.args.name_at; name = c.args.name; «package» = c.args.«package» } in
    let expr = c.in-Some-Value.expr in
    of_meaning c.args.ground.now c.field_or_method.new.ground c.args.x.at c.args.x.meaning c.in-Some-Value.field-0 (meaning.Value expr) it
    c.field_or_method.result c.in-Some-Value.is c.in-Some-Value.field-0-is
    (of_value c.args.ground.now c.single.new.ground c.field_or_method.new.ground it (record { at = c.args.x.at; expr = expr }) c.in-Some.x
    c.single.result c.field_or_method.result c.single.ensures.answer c.single.ensures.broken c.in-Some.is c.field_or_method.ensures)

pub returns-in-None-single : goal.returns-in-None-single
returns-in-None-single c =
    let it : Selected = record { at = c.args.name_at; name = c.args.name; «package» = c.args.«package» } in
    let expr = c.in-Some-Value.expr in
    of_meaning c.args.ground.now c.single.new.ground c.args.x.at c.args.x.meaning c.in-Some-Value.field-0 (meaning.Value expr) it
    (nothing_came {A = TypedExpr}) c.in-Some-Value.is c.in-Some-Value.field-0-is
    (of_several c.args.ground.now c.single.new.ground it (record { at = c.args.x.at; expr = expr }) c.single.result
    c.single.ensures.answer c.single.ensures.broken c.in-None-single.is)
