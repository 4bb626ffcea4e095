use Rattle.std.proofs.Common.{◌≡◌, refl, sym, ◌∙◌, subst, true, false}
use Rattle.std.proofs.lemmas.Bool.{false≢true}
use Rattle.go_base.specs.declared.ids.TypeId.{TypeId}
use Rattle.go_type.specs.declared.term.Basic.TheVariants as basic
use Rattle.go_type.specs.Table.{basic_id}
use Rattle.typed_parts.specs.Adapting.{IsAssigned}
use Rattle.typed_parts.specs.Judged.{Comes, fine}
use Rattle.typed_parts.specs.Retyping.{IsGiven}
use Rattle.typed_parts.proofs.Steps.{weaker}
use Rattle.typed_built_ins.specs.Growing.{IsBytes, IsSpreadAs}
use Rattle.typed_built_ins.proofs.Grows.{neither}
use Rattle.typed_parts.specs.Shapes.{is_untyped_text}
use Rattle.go_rules.specs.Untyped.{is_text_type}
use Rattle.typed_built_ins.proofs.growing.spread_as.Goals as goal

pub returns-then-not-is_bytes : goal.returns-then-not-is_bytes
returns-then-not-is_bytes c =
    let types = c.args.ground.now.types in
    weaker c.args.ground.now c.assigned.new.ground (IsAssigned types c.args.x c.args.slice) (IsSpreadAs types c.args.x c.args.slice) c.assigned.result
    (λ one is. IsSpreadAs.no_bytes one (λ (b : IsBytes types c.args.slice). false≢true (sym c.if-not-is_bytes.true ∙ c.is_bytes.ensures.1 b)) is) c.assigned.ensures

pub returns-then-is_untyped_text : goal.returns-then-is_untyped_text
returns-then-is_untyped_text c =
    let types = c.args.ground.now.types in
    weaker c.args.ground.now c.retyped.new.ground (IsGiven types (basic_id basic.Text) c.args.x.expr) (IsSpreadAs types c.args.x c.args.slice) c.retyped.result
    (λ one is. IsSpreadAs.untyped_text one (c.is_bytes.ensures.0 c.if-not-is_bytes.false) (sym c.is_untyped_text.ensures ∙ c.if-is_untyped_text.true) is)
    (subst (λ (to : TypeId). Comes c.args.ground.now c.retyped.new.ground c.retyped.result (IsGiven types to c.args.x.expr)) c.basic.ensures c.retyped.ensures)

pub returns-then-is_text : goal.returns-then-is_text
returns-then-is_text c = record {
  judged = fine c.args.x.expr;
  is = IsSpreadAs.text (c.is_bytes.ensures.0 c.if-not-is_bytes.false) (sym c.is_untyped_text.ensures ∙ c.if-is_untyped_text.false)
      (sym c.is_text.ensures ∙ c.if-is_text.true);
  answers = refl;
  reports = refl;
}

pub returns : goal.returns
returns c =
    let types = c.args.ground.now.types in
    weaker c.args.ground.now c.assigned-2.new.ground (IsAssigned types c.args.x c.args.slice) (IsSpreadAs types c.args.x c.args.slice) c.assigned-2.result
    (λ one is. IsSpreadAs.no_text one
    (neither (is_untyped_text types c.args.x.expr.of) (is_text_type types c.args.x.expr.of) (sym c.is_untyped_text.ensures ∙ c.if-is_untyped_text.false) (sym c.is_text.ensures ∙ c.if-is_text.false)) is) c.assigned-2.ensures
