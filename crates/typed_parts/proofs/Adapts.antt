-- What becomes of values that are assigned.
use Rattle.std.proofs.Common.{◌≡◌, refl, sym, subst, [], ◌∷◌, true, false, ◌⊎◌}
use Rattle.std.proofs.Common.{Option, Some, None, Result}
use Rattle.std.specs.Global.{Box}
use Rattle.std.specs.Option.{option_map}
use Rattle.go_base.specs.declared.ids.TypeId.{TypeId}
use Rattle.go_base.specs.declared.memory.NoMemory.{NoMemory}
use Rattle.go_base.specs.declared.place.Pos.{Pos}
use Rattle.go_base.specs.declared.rule.Rule.TheVariants.{NotAssignable}
use Rattle.go_rules.specs.declared.untyped.Untyped.{Untyped}
use Rattle.go_rules.specs.Untyped.{default_of, fits_type, kind_at}
use Rattle.go_tree.specs.declared.exprs.ExprKind.TheVariants as kinds
use Rattle.go_tree.specs.declared.exprs.TypedExpr.{TypedExpr}
use Rattle.go_type.specs.declared.term.Basic.{Basic}
use Rattle.go_type.specs.Assignable.{Implements}
use Rattle.go_type.specs.Identity.{Identical}
use Rattle.go_type.specs.Table.{Table, basic_id}
use Rattle.typed_parts.proofs.Steps.{broke, came, nothing, weaker}
use Rattle.typed_parts.specs.declared.ground.Ground.{Ground}
use Rattle.typed_parts.specs.declared.meaning.Given.{Given}
use Rattle.typed_parts.specs.Adapting.{IsAssigned, IsAssignedTo, IsByDefault, IsDefaultFor, IsMade}
use Rattle.typed_parts.specs.Adapting.{IsThroughDefault}
use Rattle.typed_parts.specs.Judged.{Comes, reported}
use Rattle.typed_parts.specs.Nodes.{node}
use Rattle.typed_parts.specs.Shapes.{is_interface}

pub made_interface : (types : Table) (expr made : TypedExpr) (to : TypeId) (b : Box TypedExpr)
    → (Identical types expr.of to → ⊥) → Implements types expr.of to → b.value ≡ expr
    → made ≡ node expr.at to (kinds.ToInterface b) → IsMade types expr to made
made_interface types expr made to b other becomes e m =
    subst (λ (x : TypedExpr). IsMade types expr to x) (sym m) (IsMade.interface other becomes b e)

pub made_converted : (types : Table) (expr made : TypedExpr) (to : TypeId) (b : Box TypedExpr)
    → (Identical types expr.of to → ⊥) → (Implements types expr.of to → ⊥) → b.value ≡ expr
    → made ≡ node expr.at to (kinds.ConvertTo b) → IsMade types expr to made
made_converted types expr made to b other none e m =
    subst (λ (x : TypedExpr). IsMade types expr to x) (sym m) (IsMade.converted other none b e)

boxed_by : (old new : Ground) (at : Pos) (expr : TypedExpr) (kind : Untyped) (of to : TypeId) (plain : Option Basic)
    (result : Result (Option TypedExpr) NoMemory)
    → kind_at old.types expr.of ≡ Some kind → fits_type old.types kind to ≡ false → is_interface old.types to ≡ true
    → default_of kind ≡ plain → Some of ≡ option_map basic_id plain
    → Comes old new result (IsThroughDefault old.types at expr of to)
    → Comes old new result (IsAssigned old.types (record { at = at; expr = expr }) to)
boxed_by old new at expr kind of to None result k misfits i d e h = cc
boxed_by old new at expr kind of to (Some plain) result k misfits i d e h =
    let same : of ≡ basic_id plain = cc in
    weaker old new (IsThroughDefault old.types at expr (basic_id plain) to)
    (IsAssigned old.types (record { at = at; expr = expr }) to) result
    (λ one is. IsAssigned.boxed kind plain one k misfits i d is)
    (subst (λ (o : TypeId). Comes old new result (IsThroughDefault old.types at expr o to)) same h)

pub boxed_comes : (old new : Ground) (at : Pos) (expr : TypedExpr) (kind : Untyped) (of to : TypeId)
    (result : Result (Option TypedExpr) NoMemory)
    → kind_at old.types expr.of ≡ Some kind → fits_type old.types kind to ≡ false → is_interface old.types to ≡ true
    → Some of ≡ option_map basic_id (default_of kind)
    → Comes old new result (IsThroughDefault old.types at expr of to)
    → Comes old new result (IsAssigned old.types (record { at = at; expr = expr }) to)
boxed_comes old new at expr kind of to result k misfits i e h =
    boxed_by old new at expr kind of to (default_of kind) result k misfits i refl e h

no_basic : (plain : Option Basic) → None ≡ option_map basic_id plain → plain ≡ None
no_basic None e = refl
no_basic (Some plain) e = cc

pub no_default : (kind : Untyped) → None ≡ option_map basic_id (default_of kind) → default_of kind ≡ None
no_default kind e = no_basic (default_of kind) e

pub untyped_refused : (old new : Ground) (at : Pos) (expr : TypedExpr) (kind : Untyped) (to : TypeId)
    → kind_at old.types expr.of ≡ Some kind → fits_type old.types kind to ≡ false
    → ((is_interface old.types to ≡ false) ⊎ (default_of kind ≡ None))
    → new ≡ reported old (record { at = at; rule = NotAssignable } ∷ [])
    → Comes old new (came None) (IsAssigned old.types (record { at = at; expr = expr }) to)
untyped_refused old new at expr kind to k misfits why r =
    broke old new (IsAssigned old.types (record { at = at; expr = expr }) to) at NotAssignable
    (IsAssigned.refused kind k misfits why) r

pub assigned_comes : (old new : Ground) (x : Option Given) (to : Option TypeId) (given : Given) (of : TypeId)
    (result : Result (Option TypedExpr) NoMemory) → x ≡ Some given → to ≡ Some of
    → Comes old new result (IsAssigned old.types given of) → Comes old new result (IsAssignedTo old.types x to)
assigned_comes old new x to given of result e f h =
    subst (λ (y : Option Given). Comes old new result (IsAssignedTo old.types y to)) (sym e)
    (subst (λ (o : Option TypeId). Comes old new result (IsAssignedTo old.types (Some given) o)) (sym f) h)

pub no_value_assigned : (old : Ground) (x : Option Given) (to : Option TypeId) → x ≡ None
    → Comes old old (came None) (IsAssignedTo old.types x to)
no_value_assigned old x to e =
    subst (λ (y : Option Given). Comes old old (came None) (IsAssignedTo old.types y to)) (sym e)
    (nothing old (IsAssignedTo old.types None to) refl)

pub no_type_assigned : (old : Ground) (x : Option Given) (to : Option TypeId) (given : Given) → x ≡ Some given → to ≡ None
    → Comes old old (came None) (IsAssignedTo old.types x to)
no_type_assigned old x to given e f =
    subst (λ (y : Option Given). Comes old old (came None) (IsAssignedTo old.types y to)) (sym e)
    (subst (λ (o : Option TypeId). Comes old old (came None) (IsAssignedTo old.types (Some given) o)) (sym f)
    (nothing old (IsAssignedTo old.types (Some given) None) refl))

pub default_comes : (old new : Ground) (x : Option Given) (given : Given) (result : Result (Option TypedExpr) NoMemory)
    → x ≡ Some given → Comes old new result (IsByDefault old.types given) → Comes old new result (IsDefaultFor old.types x)
default_comes old new x given result e h =
    subst (λ (y : Option Given). Comes old new result (IsDefaultFor old.types y)) (sym e) h

pub no_value_by_default : (old : Ground) (x : Option Given) → x ≡ None
    → Comes old old (came None) (IsDefaultFor old.types x)
no_value_by_default old x e =
    subst (λ (y : Option Given). Comes old old (came None) (IsDefaultFor old.types y)) (sym e)
    (nothing old (IsDefaultFor old.types None) refl)
