use Rattle.std.proofs.Common.{◌∙◌, sym, Some, None}
use Rattle.typed_parts.proofs.Wholes.{no_text, other_stays, text_typed}
use Rattle.typed_parts.proofs.numbers.with_text_type.Goals as goal

pub returns-in_default : goal.returns-in_default
returns-in_default c =
    no_text c.args.ground.now c.args.x c.in_default.is

pub returns-then-not-is_untyped_text : goal.returns-then-not-is_untyped_text
returns-then-not-is_untyped_text c =
    other_stays c.args.ground.now c.args.x c.in-Some.x c.in-Some.is (sym c.is_untyped_text.ensures ∙ c.if-not-is_untyped_text.true)

pub returns-in-Some-2 : goal.returns-in-Some-2
returns-in-Some-2 c =
    text_typed c.args.ground.now c.retyped.new.ground c.args.x c.in-Some.x c.basic.result c.in_ok-expr.field-0 (Some (record { at = c.in-Some.x.at; expr = c.in-Some-2.expr })) c.in-Some.is
    (sym c.is_untyped_text.ensures ∙ c.if-not-is_untyped_text.false) c.basic.ensures c.in_ok-expr.ensures (cc)

pub returns-in-None : goal.returns-in-None
returns-in-None c =
    text_typed c.args.ground.now c.retyped.new.ground c.args.x c.in-Some.x c.basic.result c.in_ok-expr.field-0 None c.in-Some.is
    (sym c.is_untyped_text.ensures ∙ c.if-not-is_untyped_text.false) c.basic.ensures c.in_ok-expr.ensures (cc)
