-- What becomes of operands, of what becomes of their parts.
use Rattle.std.proofs.Common.{refl, ap, ◌∙◌, subst, ◌++◌, Option, Result, Ok, Err}
use Rattle.std.specs.Global.{Box}
use Rattle.std.specs.Option.{option_zip}
use Rattle.go_base.specs.declared.ids.TypeId.{TypeId}
use Rattle.go_base.specs.declared.memory.NoMemory.{NoMemory}
use Rattle.go_base.specs.declared.place.Pos.{Pos}
use Rattle.go_tree.specs.declared.exprs.ExprKind.{ExprKind}
use Rattle.go_tree.specs.declared.exprs.TypedExpr.{TypedExpr}
use Rattle.go_type.specs.Table.{Table}
use Rattle.typed_parts.specs.declared.ground.Ground.{Ground}
use Rattle.typed_parts.specs.Joining.{both}
use Rattle.typed_parts.specs.Judged.{Comes, Judged, reported}
use Rattle.typed_parts.specs.Retyping.{IsOfOne, IsOfTwo, IsGiven, Makes}
use Rattle.typed_parts.proofs.Reports.{reported_after}

pub of_one : (old new : Ground) (at : Pos) (to : TypeId) (form : Box TypedExpr → ExprKind)
    (IsFirst Is : Judged TypedExpr → Type 0)
    → ((one : Judged TypedExpr) (result : Option TypedExpr) → IsFirst one → IsOfOne at to form one.sound result
    → Is (record { sound = result; broken = one.broken }))
    → (operand result : Result (Option TypedExpr) NoMemory)
    → Comes old new operand IsFirst → Makes (IsOfOne at to form) operand result → Comes old new result Is
of_one old new at to form IsFirst Is build operand (Err error) h m = tt
of_one old new at to form IsFirst Is build (Err error) (Ok result) h m = absurd m
of_one old new at to form IsFirst Is build (Ok operand) (Ok result) h m =
    record {
      judged = record { sound = result; broken = h.judged.broken };
      is = build h.judged result h.is (subst (λ (s : Option TypedExpr). IsOfOne at to form s result) h.answers m);
      answers = refl;
      reports = h.reports;
    }

pub of_two : (old mid new : Ground) (at : Pos) (to : TypeId) (form : Box TypedExpr → Box TypedExpr → ExprKind)
    (x y : TypedExpr) (Is : Judged TypedExpr → Type 0)
    → ((one other : Judged TypedExpr) (result : Option TypedExpr)
    → IsGiven old.types to x one → IsGiven old.types to y other
    → IsOfTwo at to form (option_zip one.sound other.sound) result
    → Is (record { sound = result; broken = one.broken ++ other.broken }))
    → (left right result : Result (Option TypedExpr) NoMemory)
    → Comes old mid left (IsGiven old.types to x) → Comes mid new right (IsGiven mid.types to y)
    → Makes (IsOfTwo at to form) (both left right) result → Comes old new result Is
of_two old mid new at to form x y Is build left right (Err error) h k m = tt
of_two old mid new at to form x y Is build (Err error) right (Ok result) h k m = absurd m
of_two old mid new at to form x y Is build (Ok left) (Err error) (Ok result) h k m = absurd m
of_two old mid new at to form x y Is build (Ok left) (Ok right) (Ok result) h k m =
    let second = subst (λ (types : Table). IsGiven types to y k.judged) (ap (λ (g : Ground). g.types) h.reports) k.is in
    let first_made = subst (λ (s : Option TypedExpr). IsOfTwo at to form (option_zip s right) result) h.answers m in
    let made = subst (λ (s : Option TypedExpr). IsOfTwo at to form (option_zip h.judged.sound s) result) k.answers first_made in
    record {
      judged = record { sound = result; broken = h.judged.broken ++ k.judged.broken };
      is = build h.judged k.judged result h.is second made;
      answers = refl;
      reports = k.reports ∙ (ap (λ (g : Ground). reported g k.judged.broken) h.reports ∙ reported_after old h.judged.broken k.judged.broken);
    }
