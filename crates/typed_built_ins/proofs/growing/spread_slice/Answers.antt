use Rattle.std.proofs.Common.{◌≡◌, refl, sym, ◌∙◌, subst, Some, Ok}
use Rattle.go_base.specs.declared.ids.TypeId.{TypeId}
use Rattle.go_type.specs.declared.term.TypeTerm.TheVariants.{Slice}
use Rattle.go_type.specs.Table.{Table}
use Rattle.typed_parts.specs.declared.meaning.Given.{Given}
use Rattle.typed_parts.specs.Joining.{beside}
use Rattle.typed_parts.specs.Judged.{Comes}
use Rattle.typed_built_ins.specs.Growing.{IsSpreadAs}
use Rattle.typed_parts.specs.Turning.{IsHeld, Keeps}
use Rattle.typed_parts.proofs.Turns.{first_came, held, keeps_comes, second_stays, then_soundly}
use Rattle.typed_built_ins.proofs.growing.spread_slice.Goals as goal

pub returns : goal.returns
returns c =
    let mid = c.hold.new.self in
    let new = c.spread_as.new.ground in
    let slice = c.in_ok-slice.slice in
    let x = c.in_ok-slice.x in
    let whole : beside c.hold.result c.args.x ≡ Ok (slice, x) = sym c.beside.ensures ∙ c.in_ok-slice.was in
    let same : c.args.x ≡ x = second_stays slice x c.hold.result c.args.x whole in
    let comes = subst (λ (y : Given). Comes mid new c.spread_as.result (IsSpreadAs mid.types y slice)) (sym same) c.spread_as.ensures in
    then_soundly c.args.ground.now mid new (IsHeld (Slice c.args.elem)) (λ (id : TypeId). Keeps (λ (types : Table). IsSpreadAs types c.args.x id)) (Some slice) slice c.spread_as.result refl
    (held c.args.ground.now mid (Slice c.args.elem) c.hold.result slice (first_came slice x c.hold.result c.args.x whole) c.hold.ensures.named c.hold.ensures.held)
    (keeps_comes mid new (λ (types : Table). IsSpreadAs types c.args.x slice) c.spread_as.result comes)
