-- What the underlying type of an operand is, for those who look at its elements. Go specification, "Types", "Index
-- expressions", "Slice expressions" and "Length and capacity".
use Rattle.std.specs.Prelude.{Bool, true, false, List, [], Option, Some, None}
use Rattle.go_base.specs.declared.ids.TypeId.{TypeId}
use Rattle.go_rules.specs.declared.untyped.Untyped.{Untyped}
use Rattle.go_rules.specs.declared.untyped.Untyped.TheVariants as kind
use Rattle.go_rules.specs.Untyped.{kind_at}
use Rattle.go_type.specs.declared.term.Basic.TheVariants as basic
use Rattle.go_type.specs.declared.term.Field.{Field}
use Rattle.go_type.specs.declared.term.TypeTerm.{TypeTerm}
use Rattle.go_type.specs.declared.term.TypeTerm.TheVariants.{Basic as Plain, Pointer, Slice, Array, Map, Chan}
use Rattle.go_type.specs.declared.term.TypeTerm.TheVariants.{Interface, Struct}
use Rattle.go_type.specs.Assignable.{underlying_term_of}
use Rattle.go_type.specs.Table.{Table}
use Rattle.typed_parts.specs.declared.shapes.Shape.{Shape}
use Rattle.typed_parts.specs.declared.shapes.Shape.TheVariants as shape

abbrev pub pointed_term : Option TypeTerm → Option TypeId
pointed_term (Some (Pointer base)) = Some base
pointed_term _ = None

-- what a pointer type points to
abbrev pub pointed : Table → TypeId → Option TypeId
pointed types of = pointed_term (underlying_term_of types of)

abbrev pub array_behind : TypeId → Option TypeTerm → Option Shape
array_behind array (Some (Array len elem)) = Some (shape.ArrayPointer array len elem)
array_behind array _ = None

abbrev pub term_shape : Option TypeTerm → Option Shape
term_shape (Some (Plain basic.Text)) = Some shape.Text
term_shape (Some (Plain basic.UntypedText)) = Some shape.Text
term_shape (Some (Array len elem)) = Some (shape.Array len elem)
term_shape (Some (Slice elem)) = Some (shape.Slice elem)
term_shape (Some (Map key elem)) = Some (shape.Map key elem)
term_shape (Some (Chan dir elem)) = Some (shape.Chan dir elem)
term_shape _ = None

abbrev pub shape_through : Table → TypeId → Option TypeId → Option Shape
shape_through types of (Some base) = array_behind base (underlying_term_of types base)
shape_through types of None = term_shape (underlying_term_of types of)

-- the shape of a type, by its underlying type; that of a pointer is the array that it points to
abbrev pub shape_of : Table → TypeId → Option Shape
shape_of types of = shape_through types of (pointed types of)

abbrev pub text_kind : Option Untyped → Bool
text_kind (Some kind.Text) = true
text_kind _ = false

abbrev pub nil_kind : Option Untyped → Bool
nil_kind (Some kind.Nil) = true
nil_kind _ = false

abbrev pub is_untyped_text : Table → TypeId → Bool
is_untyped_text types of = text_kind (kind_at types of)

abbrev pub is_nil : Table → TypeId → Bool
is_nil types of = nil_kind (kind_at types of)

abbrev pub slice_term : Option TypeTerm → Option TypeId
slice_term (Some (Slice elem)) = Some elem
slice_term _ = None

abbrev pub elem_of : Table → TypeId → Option TypeId
elem_of types of = slice_term (underlying_term_of types of)

abbrev pub interface_term : Option TypeTerm → Bool
interface_term (Some (Interface methods)) = true
interface_term _ = false

-- by the underlying type
abbrev pub is_interface : Table → TypeId → Bool
is_interface types of = interface_term (underlying_term_of types of)

abbrev pub fields_in : Option TypeTerm → List Field
fields_in (Some (Struct fields)) = fields
fields_in _ = []

-- the fields of a struct type, and none of another
abbrev pub fields_of : Table → TypeId → List Field
fields_of types of = fields_in (underlying_term_of types of)
