use Rattle.std.proofs.Common.{◌≡◌, refl, sym, ap, ◌∙◌, List, Option, Some}
use Rattle.go_tree.specs.declared.exprs.TypedExpr.{TypedExpr}
use Rattle.go_type.specs.Table.{Table}
use Rattle.typed_parts.specs.declared.meaning.Given.{Given}
use Rattle.typed_parts.specs.Judged.{reported}
use Rattle.typed_parts.specs.Turning.{Asks, IsThenSoundly}
use Rattle.typed_parts.proofs.Turns.{asks, nothing_came, then_soundly}
use Rattle.typed_built_ins.specs.BuiltIns.{each_value, number_asked, number_broken, takes_call}
use Rattle.typed_built_ins.specs.Dispatch.{IsPlain}
use Rattle.typed_built_ins.proofs.Grows.{kept_list, no_list}
use Rattle.typed_built_ins.proofs.built_ins.of_values.Goals as goal

pub returns-in-Some : goal.returns-in-Some
returns-in-Some c =
    let old = c.args.ground.now in
    let mid = c.each_value.new.ground in
    let last = c.ask_number-takes.new.ground in
    let new = c.plain.new.ground in
    let call = c.args.call in
    let parts = c.args.arguments.items in
    let v = c.in_ok-arguments.arguments in
    then_soundly old mid new (Asks (λ (types : Table). each_value types parts))
    (λ (values : List (Option Given)). IsThenSoundly (Asks (λ (types : Table). number_asked call values)) (IsPlain call.builtin call))
    (Some v.items) v.items c.plain.result refl
    (asks old mid (λ (types : Table). each_value types parts) (Some v.items) (ap (λ (l : List (Option Given)). Some l) c.in_ok-arguments.ensures.values) c.in_ok-arguments.ensures.broken)
    (kept_list mid last new v c.in-Some.arguments (takes_call call v.items) c.ask_number-takes.result (number_broken call v.items) (IsPlain call.builtin call) c.plain.result
    (c.ask_number-takes.ensures.takes ∙ ap (takes_call call) c.as_slice.ensures.value) (sym c.only.ensures ∙ c.in-Some.is) (c.ask_number-takes.ensures.broken ∙ ap (λ (l : List (Option Given)). reported mid (number_broken call l)) c.as_slice.ensures.value) c.plain.ensures)

pub returns-in-None : goal.returns-in-None
returns-in-None c =
    let old = c.args.ground.now in
    let mid = c.each_value.new.ground in
    let last = c.ask_number-takes.new.ground in
    let call = c.args.call in
    let parts = c.args.arguments.items in
    let v = c.in_ok-arguments.arguments in
    then_soundly old mid last (Asks (λ (types : Table). each_value types parts))
    (λ (values : List (Option Given)). IsThenSoundly (Asks (λ (types : Table). number_asked call values)) (IsPlain call.builtin call))
    (Some v.items) v.items (nothing_came {A = TypedExpr}) refl
    (asks old mid (λ (types : Table). each_value types parts) (Some v.items) (ap (λ (l : List (Option Given)). Some l) c.in_ok-arguments.ensures.values) c.in_ok-arguments.ensures.broken)
    (no_list mid last v (takes_call call v.items) c.ask_number-takes.result (number_broken call v.items) (IsPlain call.builtin call)
    (c.ask_number-takes.ensures.takes ∙ ap (takes_call call) c.as_slice.ensures.value) (sym c.only.ensures ∙ c.in-None.is) (c.ask_number-takes.ensures.broken ∙ ap (λ (l : List (Option Given)). reported mid (number_broken call l)) c.as_slice.ensures.value))
