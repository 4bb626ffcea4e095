use Rattle.std.proofs.Common.{◌≡◌, sym, ◌∙◌, subst, Ok, false, true}
use Rattle.std.specs.Prelude.{IsTrue, ◌↔◌, Bool}
use Rattle.go_tree.specs.declared.exprs.TypedExpr.{TypedExpr}
use Rattle.typed_parts.specs.Joining.{beside}
use Rattle.typed_calls.specs.Converting.{MayConvert}
use Rattle.typed_calls.specs.Converting.{IsTypedConverted}
use Rattle.typed_parts.specs.Turning.{Turns}
use Rattle.typed_built_ins.proofs.Asks.{if_came}
use Rattle.typed_calls.proofs.Converts.{typed_made, typed_refused}
use Rattle.typed_calls.proofs.converting.converted_typed.Goals as goal
use Rattle.typed_parts.proofs.Turns.{first_came, second_stays}

pub returns-then-may : goal.returns-then-may
returns-then-may c =
    let old = c.args.ground.now in
    let new = c.may_convert-may.new.ground in
    let may = c.in_ok-may.may in
    let x = c.in_ok-may.expr in
    let whole : beside c.may_convert-may.result c.args.expr ≡ Ok (may, x) = sym c.beside.ensures ∙ c.in_ok-may.was in
    let same : c.args.expr ≡ x = second_stays may x c.may_convert-may.result c.args.expr whole in
    let decides : IsTrue may ↔ MayConvert old.types new.types c.args.expr.of c.args.to =
    if_came c.may_convert-may.result (λ (m : Bool). IsTrue m ↔ MayConvert old.types new.types c.args.expr.of c.args.to) may (first_came may x c.may_convert-may.result c.args.expr whole) c.may_convert-may.ensures.may in
    let P : TypedExpr → Type 0 = λ e. Turns old new c.sound.result (IsTypedConverted c.args.at e c.args.to) in
    let can : MayConvert old.types new.types x.of c.args.to = subst (λ (e : TypedExpr). MayConvert old.types new.types e.of c.args.to) same (decides.0 c.if-may.true) in
    subst P (sym same)
    (typed_made old new c.args.at c.args.to x c.explicit.result c.sound.result c.may_convert-may.ensures.grows c.may_convert-may.ensures.definitions c.may_convert-may.ensures.keeps
    can c.explicit.ensures c.sound.ensures)

pub returns : goal.returns
returns c =
    let old = c.args.ground.now in
    let mid = c.may_convert-may.new.ground in
    let may = c.in_ok-may.may in
    let x = c.in_ok-may.expr in
    let whole : beside c.may_convert-may.result c.args.expr ≡ Ok (may, x) = sym c.beside.ensures ∙ c.in_ok-may.was in
    let decides : IsTrue may ↔ MayConvert old.types mid.types c.args.expr.of c.args.to =
    if_came c.may_convert-may.result (λ (m : Bool). IsTrue m ↔ MayConvert old.types mid.types c.args.expr.of c.args.to) may (first_came may x c.may_convert-may.result c.args.expr whole) c.may_convert-may.ensures.may in
    let no : MayConvert old.types mid.types c.args.expr.of c.args.to → ⊥ = λ may_be. let e : may ≡ true = decides.1 may_be in let f : may ≡ false = c.if-may.false in cc in
    typed_refused old mid c.refused.new.ground c.args.at c.args.to c.args.expr c.refused.result c.may_convert-may.ensures.grows c.may_convert-may.ensures.definitions c.may_convert-may.ensures.keeps
    no c.refused.ensures.answer c.refused.ensures.broken
