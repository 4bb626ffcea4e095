-- Steps along fields and pointers, as implicit nodes, which have the place of the operand. Go specification,
-- "Selectors", "Struct types", "Method values" and "Calls".
use Rattle.std.specs.Prelude.{◌≡◌, ℕ, List, [], ◌∷◌, ◌++◌, Option, Some, None, slice_get}
use Rattle.std.specs.Global.{Box}
use Rattle.std.specs.Option.{option_map}
use Rattle.go_base.specs.declared.ids.TypeId.{TypeId}
use Rattle.go_tree.specs.declared.exprs.ExprKind.{ExprKind}
use Rattle.go_tree.specs.declared.exprs.ExprKind.TheVariants.{AddressOf, Deref, FieldOf}
use Rattle.go_tree.specs.declared.exprs.TypedExpr.{TypedExpr}
use Rattle.go_type.specs.declared.term.Field.{Field}
use Rattle.go_type.specs.declared.term.TypeTerm.TheVariants.{Pointer}
use Rattle.go_type.specs.Table.{Table}
use Rattle.typed_parts.specs.Judged.{IsFine, Judged, fine}
use Rattle.typed_parts.specs.Shapes.{fields_of, pointed}
use Rattle.typed_parts.specs.Made.{IsOnOne}
use Rattle.typed_parts.specs.Limits.{Basis}
use Rattle.typed_parts.specs.Turning.{Asks, IsHeld, IsThenSoundly, Keeps}

abbrev pub type_of_field : Field → TypeId
type_of_field field = field.of

-- the type of a field, by its number
abbrev pub field_type : Table → TypeId → ℕ → Option TypeId
field_type types of number = option_map type_of_field (slice_get (fields_of types of) number)

abbrev pub IsBehind : Option TypeId → TypedExpr → TypedExpr → Type 0
IsBehind (Some base) x made = IsOnOne x.at base Deref x made
IsBehind None x made = made ≡ x

-- "will automatically dereference that pointer": what a pointer points to, and any other value as it is
abbrev pub IsDereferenced : Table → TypedExpr → TypedExpr → Type 0
IsDereferenced types x made = IsBehind (pointed types x.of) x made

abbrev pub field_form : ℕ → Box TypedExpr → ExprKind
field_form number operand = FieldOf operand number

-- "If x is a pointer to a struct, x.y is shorthand for (*x).y"
pub record IsFieldOf (types : Table) (x : TypedExpr) (number : ℕ) (made : TypedExpr) : Type 0 where
  pub whole : TypedExpr
  pub of : TypeId
  pub behind : IsDereferenced types x whole
  pub typed : field_type types whole.of number ≡ Some of
  pub is : IsOnOne whole.at of (field_form number) whole made

-- what the numbers of fields lead to, one after another: "x.y.z" for "(*(*x).y).z"
pub data IsAlong (types : Table) (x : TypedExpr) : List ℕ → TypedExpr → Type 0 where
  here : IsAlong types x [] x
  further : (path : List ℕ) (number : ℕ) (whole made : TypedExpr) → IsAlong types x path whole
      → IsFieldOf types whole number made → IsAlong types x (path ++ number ∷ []) made

-- the address of a place, whose type is held
abbrev pub IsAddressOf : TypedExpr → TypeId → Basis → Basis → Judged TypedExpr → Type 0
IsAddressOf x pointer before after result =
    Keeps (λ types. IsFine (IsOnOne x.at pointer AddressOf x)) before after result

abbrev pub IsAddress : TypedExpr → Basis → Basis → Judged TypedExpr → Type 0
IsAddress x before after result = IsThenSoundly (IsHeld (Pointer x.of)) (IsAddressOf x) before after result

abbrev pub IsPointerTo : Option TypeId → TypedExpr → Basis → Basis → Judged TypedExpr → Type 0
IsPointerTo (Some base) x before after result = Asks (λ types. fine x) before after result
IsPointerTo None x before after result = IsAddress x before after result

-- "will automatically take the address of that value": a pointer as it is, and the address of any other value
abbrev pub IsAddressed : TypedExpr → Basis → Basis → Judged TypedExpr → Type 0
IsAddressed x before after result = IsPointerTo (pointed before.types x.of) x before after result
