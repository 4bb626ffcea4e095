use Rattle.std.proofs.Common.{◌≡◌, sym, ◌∙◌, subst, Ok, Option}
use Rattle.std.specs.Prelude.{IfOk}
use Rattle.std.specs.Global.{Vec}
use Rattle.go_tree.specs.declared.exprs.TypedExpr.{TypedExpr}
use Rattle.typed_parts.specs.Joining.{beside, items_of}
use Rattle.typed_parts.specs.Turning.{Soundly, Turned}
use Rattle.typed_parts.proofs.Turns.{first_came, second_stays}
use Rattle.typed_calls.specs.Packing.{ArePartsTo, IsPacked, IsSpreadAs}
use Rattle.typed_calls.proofs.Packs.{spread_all, spread_nothing, turned_list}
use Rattle.typed_calls.proofs.packing.spread.Goals as goal

pub returns-in-Some : goal.returns-in-Some
returns-in-Some c =
    let old = c.args.ground.now in
    let mid = c.passed_parts-passed.new.ground in
    let new = c.packed_sound-packed.new.ground in
    let plan = c.args.plan in
    let tuple = c.args.tuple in
    let o = c.in_ok-passed.passed in
    let p = c.in_ok-packed.packed in
    let whole : beside c.passed_parts-passed.result tuple.expr ≡ Ok (o, c.in_ok-passed.expr) = sym c.beside.ensures ∙ c.in_ok-passed.was in
    let next : beside c.packed_sound-packed.result c.in_ok-passed.expr ≡ Ok (p, c.in_ok-packed.expr) = sym c.beside-2.ensures ∙ c.in_ok-packed.was in
    let same = second_stays o c.in_ok-passed.expr c.passed_parts-passed.result tuple.expr whole ∙ second_stays p c.in_ok-packed.expr c.packed_sound-packed.result c.in_ok-passed.expr next in
    let is = turned_list mid new (Soundly (IsPacked plan) (items_of o)) c.packed_sound-packed.result p
    (first_came p c.in_ok-packed.expr c.packed_sound-packed.result c.in_ok-passed.expr next) c.packed_sound-packed.ensures in
    spread_all old mid new plan c.args.signature.now tuple c.args.parts.items o c.in-Some.parts c.spread_values.result c.sound.result
    (turned_list old mid (ArePartsTo tuple.at plan c.args.signature.now c.args.parts.items) c.passed_parts-passed.result o
    (first_came o c.in_ok-passed.expr c.passed_parts-passed.result tuple.expr whole) c.passed_parts-passed.ensures)
    (subst (λ (w : Option (Vec TypedExpr)). Turned mid new (items_of w) (Soundly (IsPacked plan) (items_of o))) c.in-Some.is is)
    (subst (λ (e : TypedExpr). IfOk c.spread_values.result (IsSpreadAs e c.in-Some.parts.items)) (sym same) c.spread_values.ensures) c.sound.ensures

pub returns-in-None : goal.returns-in-None
returns-in-None c =
    let old = c.args.ground.now in
    let mid = c.passed_parts-passed.new.ground in
    let new = c.packed_sound-packed.new.ground in
    let plan = c.args.plan in
    let tuple = c.args.tuple in
    let o = c.in_ok-passed.passed in
    let p = c.in_ok-packed.packed in
    let whole : beside c.passed_parts-passed.result tuple.expr ≡ Ok (o, c.in_ok-passed.expr) = sym c.beside.ensures ∙ c.in_ok-passed.was in
    let next : beside c.packed_sound-packed.result c.in_ok-passed.expr ≡ Ok (p, c.in_ok-packed.expr) = sym c.beside-2.ensures ∙ c.in_ok-packed.was in
    let is = turned_list mid new (Soundly (IsPacked plan) (items_of o)) c.packed_sound-packed.result p
    (first_came p c.in_ok-packed.expr c.packed_sound-packed.result c.in_ok-passed.expr next) c.packed_sound-packed.ensures in
    spread_nothing old mid new plan c.args.signature.now tuple c.args.parts.items o
    (turned_list old mid (ArePartsTo tuple.at plan c.args.signature.now c.args.parts.items) c.passed_parts-passed.result o
    (first_came o c.in_ok-passed.expr c.passed_parts-passed.result tuple.expr whole) c.passed_parts-passed.ensures)
    (subst (λ (w : Option (Vec TypedExpr)). Turned mid new (items_of w) (Soundly (IsPacked plan) (items_of o))) c.in-None.is is)
