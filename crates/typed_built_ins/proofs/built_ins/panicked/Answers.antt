use Rattle.std.proofs.Common.{◌≡◌, refl, sym, ap, ◌∙◌, subst, [], ◌∷◌, Some, Ok}
use Rattle.go_base.specs.declared.ids.TypeId.{TypeId}
use Rattle.go_tree.specs.declared.exprs.TypedExpr.{TypedExpr}
use Rattle.go_type.specs.declared.term.TypeTerm.TheVariants.{Interface}
use Rattle.go_type.specs.Table.{Table}
use Rattle.typed_parts.specs.declared.meaning.Given.{Given}
use Rattle.typed_parts.specs.Adapting.{IsAssignedTo}
use Rattle.typed_parts.specs.Joining.{beside, items_of}
use Rattle.typed_parts.specs.Judged.{Outcome}
use Rattle.typed_built_ins.specs.BuiltIns.{IsAction, IsPanicOf}
use Rattle.typed_parts.specs.Turning.{IsHeld, Keeps, Soundly}
use Rattle.typed_built_ins.proofs.Asks.{one_listed}
use Rattle.typed_parts.proofs.Turns.{first_came, followed, held, keeps, second_stays, then_soundly}
use Rattle.typed_built_ins.proofs.built_ins.panicked.Goals as goal

pub returns : goal.returns
returns c =
    let old = c.args.ground.now in
    let mid = c.any_type.new.self in
    let last = c.assigned.new.ground in
    let new = c.action.new.ground in
    let any = c.in_ok-any.any in
    let x = c.in_ok-any.x in
    let whole : beside c.any_type.result c.args.x ≡ Ok (any, x) = sym c.beside.ensures ∙ c.in_ok-any.was in
    let same : c.args.x ≡ x = second_stays any x c.any_type.result c.args.x whole in
    let came_of = subst (λ (y : Given). Outcome mid last c.in_ok-value.value (IsAssignedTo mid.types (Some y) (Some any))) (sym same) c.in_ok-value.ensures in
    then_soundly old mid new (IsHeld (Interface [])) (IsPanicOf c.args.call c.args.x) (Some any) any c.action.result refl
    (held old mid (Interface []) c.any_type.result any (first_came any x c.any_type.result c.args.x whole) c.any_type.ensures.named c.any_type.ensures.held)
    (followed mid last new (Keeps (λ (types : Table). IsAssignedTo types (Some c.args.x) (Some any)))
    (Soundly (λ (value : TypedExpr). IsAction c.args.call (value ∷ []))) c.in_ok-value.value c.action.result
    (keeps mid last (λ (types : Table). IsAssignedTo types (Some c.args.x) (Some any)) c.in_ok-value.value came_of)
    (one_listed last new (IsAction c.args.call) (items_of c.in_ok-arguments.arguments) c.in_ok-value.value c.action.result c.in_ok-arguments.ensures c.action.ensures))
