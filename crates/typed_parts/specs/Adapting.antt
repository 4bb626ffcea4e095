-- Values made ones of the types that they are assigned to. Go specification, "Assignability" and "Variables".
use Rattle.std.specs.Prelude.{◌≡◌, ◌||◌, true, false, IsTrue, ◌⊎◌, Option, Some, None}
use Rattle.std.specs.Global.{Box}
use Rattle.go_base.specs.declared.ids.TypeId.{TypeId}
use Rattle.go_base.specs.declared.place.Pos.{Pos}
use Rattle.go_base.specs.declared.rule.Rule.TheVariants.{NotAssignable, UseOfUntypedNil}
use Rattle.go_rules.specs.declared.untyped.Untyped.{Untyped}
use Rattle.go_rules.specs.declared.untyped.Untyped.TheVariants as kind
use Rattle.go_rules.specs.Matching.{is_empty_interface}
use Rattle.go_rules.specs.Untyped.{default_of, fits_type, kind_at}
use Rattle.go_tree.specs.declared.exprs.ExprKind.TheVariants.{ConvertTo, ToInterface, PartOf}
use Rattle.go_tree.specs.declared.exprs.TypedExpr.{TypedExpr}
use Rattle.go_type.specs.declared.term.Basic.{Basic}
use Rattle.go_type.specs.declared.term.Basic.TheVariants as basic
use Rattle.go_type.specs.Assignable.{Assignable, Implements}
use Rattle.go_type.specs.Identity.{Identical}
use Rattle.go_type.specs.Table.{Table, basic_id}
use Rattle.typed_parts.specs.declared.meaning.Given.{Given}
use Rattle.typed_parts.specs.Judged.{IsRest, IsThen, Judged, breaks, fine}
use Rattle.typed_parts.specs.Nodes.{node}
use Rattle.typed_parts.specs.Retyping.{IsDefaulted, IsGiven}
use Rattle.typed_parts.specs.Shapes.{is_interface, is_nil}

-- a value as one of a type, to which it may be assigned or converted: the type changes without a trace only to an
-- identical one
pub data IsMade (types : Table) (expr : TypedExpr) (to : TypeId) : TypedExpr → Type 0 where
  same : Identical types expr.of to → IsMade types expr to expr
  interface : (Identical types expr.of to → ⊥) → Implements types expr.of to
      → (b : Box TypedExpr) → b.value ≡ expr → IsMade types expr to (node expr.at to (ToInterface b))
  converted : (Identical types expr.of to → ⊥) → (Implements types expr.of to → ⊥)
      → (b : Box TypedExpr) → b.value ≡ expr → IsMade types expr to (node expr.at to (ConvertTo b))

-- a typed value is assigned to a type
pub data IsPassed (types : Table) (at : Pos) (expr : TypedExpr) (to : TypeId) : Judged TypedExpr → Type 0 where
  passes : (made : TypedExpr) → Assignable types expr.of to → IsMade types expr to made
      → IsPassed types at expr to (fine made)
  refused : (Assignable types expr.of to → ⊥) → IsPassed types at expr to (breaks at NotAssignable)

-- an operand given a default type is assigned to an interface
abbrev pub IsThroughDefault : Table → Pos → TypedExpr → TypeId → TypeId → Judged TypedExpr → Type 0
IsThroughDefault types at expr of to result = IsThen (IsGiven types of expr) (λ x. IsPassed types at x to) result

-- a value is assigned to a type: an untyped operand takes it where it fits its kind, or by its default type goes into
-- an interface
pub data IsAssigned (types : Table) (x : Given) (to : TypeId) : Judged TypedExpr → Type 0 where
  typed : (result : Judged TypedExpr) → kind_at types x.expr.of ≡ None
      → IsPassed types x.at x.expr to result → IsAssigned types x to result
  takes : (kind : Untyped) (result : Judged TypedExpr) → kind_at types x.expr.of ≡ Some kind
      → fits_type types kind to ≡ true → IsGiven types to x.expr result → IsAssigned types x to result
  boxed : (kind : Untyped) (plain : Basic) (result : Judged TypedExpr) → kind_at types x.expr.of ≡ Some kind
      → fits_type types kind to ≡ false → is_interface types to ≡ true → default_of kind ≡ Some plain
      → IsThroughDefault types x.at x.expr (basic_id plain) to result → IsAssigned types x to result
  refused : (kind : Untyped) → kind_at types x.expr.of ≡ Some kind → fits_type types kind to ≡ false
      → ((is_interface types to ≡ false) ⊎ (default_of kind ≡ None))
      → IsAssigned types x to (breaks x.at NotAssignable)

-- the value is given, and the type; nothing comes of what is unsound
abbrev pub IsAssignedTo : Table → Option Given → Option TypeId → Judged TypedExpr → Type 0
IsAssignedTo types x to result = IsRest x (λ given. IsRest to (IsAssigned types given)) result

-- a value takes its default type; nil has none
pub data IsByDefault (types : Table) (x : Given) : Judged TypedExpr → Type 0 where
  given : (result : Judged TypedExpr) → is_nil types x.expr.of ≡ false → IsDefaulted types x.expr result
      → IsByDefault types x result
  nil : is_nil types x.expr.of ≡ true → IsByDefault types x (breaks x.at UseOfUntypedNil)

abbrev pub IsDefaultFor : Table → Option Given → Judged TypedExpr → Type 0
IsDefaultFor types x result = IsRest x (IsByDefault types) result

-- a value with the type that the context has, or else its default type
abbrev pub IsSettled : Table → Option Given → Option TypeId → Judged TypedExpr → Type 0
IsSettled types x (Some to) result = IsAssignedTo types x (Some to) result
IsSettled types x None result = IsDefaultFor types x result

abbrev pub ok_part : Pos → TypedExpr
ok_part at = node at (basic_id basic.Bool) (PartOf 1)

-- the second part of a comma-ok form, an untyped boolean, is assigned to a boolean type, or as a `bool` to an interface
-- without methods
pub data IsOkAssigned (types : Table) (at : Pos) (to : TypeId) : Judged TypedExpr → Type 0 where
  passes : (made : TypedExpr) → IsTrue (fits_type types kind.Bool to || is_empty_interface types to)
      → IsMade types (ok_part at) to made → IsOkAssigned types at to (fine made)
  refused : (fits_type types kind.Bool to || is_empty_interface types to) ≡ false
      → IsOkAssigned types at to (breaks at NotAssignable)
