-- Index expressions. Go specification, "Index expressions".
use Rattle.std.specs.Prelude.{◌≡◌, ℤ, pos, int_lt, Bool, true, false, if◌then◌else◌, Option, Some, None}
use Rattle.std.specs.Global.{Box}
use Rattle.go_base.specs.declared.ids.TypeId.{TypeId}
use Rattle.go_base.specs.declared.place.Pos.{Pos}
use Rattle.go_base.specs.declared.rule.Rule.TheVariants.{BadIndex}
use Rattle.go_tree.specs.declared.exprs.ExprKind.{ExprKind}
use Rattle.go_tree.specs.declared.exprs.ExprKind.TheVariants.{IndexOf, MapIndex}
use Rattle.go_tree.specs.declared.exprs.IndexBase.{IndexBase}
use Rattle.go_tree.specs.declared.exprs.IndexBase.TheVariants as base_of
use Rattle.go_tree.specs.declared.exprs.TypedExpr.{TypedExpr}
use Rattle.go_type.specs.declared.term.Basic.TheVariants as basic
use Rattle.go_type.specs.Table.{Table, basic_id}
use Rattle.typed_parts.specs.declared.meaning.Given.{Given}
use Rattle.typed_parts.specs.declared.meaning.Seen.{Seen}
use Rattle.typed_parts.specs.declared.shapes.Shape.{Shape}
use Rattle.typed_parts.specs.declared.shapes.Shape.TheVariants as shape
use Rattle.typed_parts.specs.Adapting.{IsAssignedTo}
use Rattle.typed_parts.specs.Judged.{IsFine, Judged, breaks, fine}
use Rattle.typed_parts.specs.Limits.{Basis}
use Rattle.typed_parts.specs.Meanings.{one_value}
use Rattle.typed_parts.specs.Numbers.{integer_of, text_length}
use Rattle.typed_parts.specs.Shapes.{shape_of}
use Rattle.typed_parts.specs.Turning.{Asks, IsFollowed, IsThenSoundly, Keeps, Soundly}
use Rattle.typed_parts.specs.Wholes.{IsTextTyped, IsWhole}
use Rattle.typed_parts.specs.Made.{IsOnTwo}
use Rattle.typed_primaries.specs.Steps.{IsDereferenced}

-- how many elements are known: those of an array, of what a pointer to one points to, and of a constant string
abbrev pub known_length : Shape → TypedExpr → Option ℤ
known_length (shape.Array len elem) expr = Some (pos len)
known_length (shape.ArrayPointer array len elem) expr = Some (pos len)
known_length shape.Text expr = text_length expr
known_length _ expr = None

-- "a[x]" is for strings, arrays, pointers to arrays, slices and maps
abbrev pub shape_asked : Pos → Option Shape → Judged Shape
shape_asked at None = breaks at BadIndex
shape_asked at (Some (shape.Chan dir elem)) = breaks at BadIndex
shape_asked at (Some other) = fine other

abbrev pub indexed : Table → Given → Judged Shape
indexed types x = shape_asked x.at (shape_of types x.expr.of)

-- ---- maps

abbrev pub map_form : Box TypedExpr → Box TypedExpr → ExprKind
map_form table key = MapIndex table key false

abbrev pub IsMapElement : Given → TypeId → TypedExpr → Basis → Basis → Judged TypedExpr → Type 0
IsMapElement x elem key before after result =
    Keeps (λ types. IsFine (IsOnTwo x.at elem map_form x.expr key)) before after result

-- "x's type must be assignable to the key type"; the element is of the element type
abbrev pub IsOfMap : Given → TypeId → TypeId → Given → Basis → Basis → Judged TypedExpr → Type 0
IsOfMap x key elem i before after result =
    IsThenSoundly (Keeps (λ types. IsAssignedTo types (Some i) (Some key))) (IsMapElement x elem) before after result

-- ---- elements by their number

abbrev pub below : Option ℤ → Option ℤ → Bool
below (Some number) (Some len) = int_lt number len
below _ _ = true

-- "a constant index must be in range"
abbrev pub index_below : Pos → Option ℤ → TypedExpr → Judged TypedExpr
index_below at len index = if below (integer_of index) len then fine index else breaks at BadIndex

-- "the index x must be an untyped constant or its core type must be an integer"
abbrev pub IsIndex : Option ℤ → Given → Basis → Basis → Judged TypedExpr → Type 0
IsIndex len i before after result =
    IsThenSoundly (Keeps (λ types. IsWhole types (Some i) BadIndex))
    (λ (index : TypedExpr). Asks (λ types. index_below i.at len index)) before after result

-- what has elements by their number, and their type: "a non-constant byte value", or the element type
abbrev pub numbered : Shape → Option (IndexBase × TypeId)
numbered shape.Text = Some (base_of.Text, basic_id basic.Uint8)
numbered (shape.Array len elem) = Some (base_of.Array, elem)
numbered (shape.ArrayPointer array len elem) = Some (base_of.Array, elem)
numbered (shape.Slice elem) = Some (base_of.Slice, elem)
numbered _ = None

abbrev pub index_form : IndexBase → Box TypedExpr → Box TypedExpr → ExprKind
index_form base operand index = IndexOf base operand index

-- "a[x] is shorthand for (*a)[x]" where a is a pointer
pub record IsElementOf (types : Table) (x : Given) (of : Shape) (index made : TypedExpr) : Type 0 where
  pub base : IndexBase
  pub elem : TypeId
  pub operand : TypedExpr
  pub has : numbered of ≡ Some (base, elem)
  pub behind : IsDereferenced types x.expr operand
  pub is : IsOnTwo x.at elem (index_form base) operand index made

abbrev pub IsElement : Given → Shape → TypedExpr → Basis → Basis → Judged TypedExpr → Type 0
IsElement x of index before after result = Keeps (λ types. IsFine (IsElementOf types x of index)) before after result

abbrev pub IsNumbered : Given → Shape → Given → Basis → Basis → Judged TypedExpr → Type 0
IsNumbered x of i before after result =
    IsThenSoundly (IsIndex (known_length of x.expr) i) (IsElement x of) before after result

-- ---- all

-- the types of the keys and the elements of a map
abbrev pub map_types : Shape → Option (TypeId × TypeId)
map_types (shape.Map key elem) = Some (key, elem)
map_types _ = None

abbrev pub IsElementBy : Option (TypeId × TypeId) → Given → Shape → Given → Basis → Basis → Judged TypedExpr → Type 0
IsElementBy (Some (key, elem)) x of i before after result = IsOfMap x key elem i before after result
IsElementBy None x of i before after result = IsNumbered x of i before after result

abbrev pub IsElementAt : Given → Shape → Given → Basis → Basis → Judged TypedExpr → Type 0
IsElementAt x of i before after result = IsElementBy (map_types of) x of i before after result

abbrev pub IsAt : Option Given → Given → Shape → Basis → Basis → Judged TypedExpr → Type 0
IsAt i x of before after result = Soundly (IsElementAt x of) i before after result

abbrev pub IsIndexed : Option Given → Given → Basis → Basis → Judged TypedExpr → Type 0
IsIndexed i x before after result = IsThenSoundly (Asks (λ types. indexed types x)) (IsAt i x) before after result

-- an untyped string is one of type `string` first
abbrev pub IsIndexedBy : Option Given → Option Given → Basis → Basis → Judged TypedExpr → Type 0
IsIndexedBy x i before after result =
    IsThenSoundly (Keeps (λ types. IsTextTyped types x)) (IsIndexed i) before after result

abbrev pub IsIndexedAfter : Seen → Option Given → Basis → Basis → Judged TypedExpr → Type 0
IsIndexedAfter i x before after result =
    IsFollowed (Asks (λ types. one_value types i)) (IsIndexedBy x) before after result

-- "a[x]": both are single values
abbrev pub IsIndexExpression : Seen → Seen → Basis → Basis → Judged TypedExpr → Type 0
IsIndexExpression x i before after result =
    IsFollowed (Asks (λ types. one_value types x)) (IsIndexedAfter i) before after result
