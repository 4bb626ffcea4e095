-- The texts of types: those of the source, with labels before names.
use Rattle.std.specs.Prelude.{ℕ, zero, suc, ◌==◌, Bool, true, false, ◌&&◌, List, [], ◌∷◌, ◌++◌, if◌then◌else◌, codes}
use Rattle.std.specs.Prelude.{length, decimal, Option, Some, None}
use Rattle.go_base.specs.declared.ids.NameId.{NameId}
use Rattle.go_base.specs.declared.ids.TypeId.{TypeId}
use Rattle.go_type.specs.declared.term.Basic.{Basic}
use Rattle.go_type.specs.declared.term.Basic.TheVariants as basic
use Rattle.go_type.specs.declared.term.Dir.{Dir}
use Rattle.go_type.specs.declared.term.Dir.TheVariants.{Both, Send, Receive}
use Rattle.go_type.specs.declared.term.Field.{Field}
use Rattle.go_type.specs.declared.term.MethodType.{MethodType}
use Rattle.go_type.specs.declared.term.Signature.{Signature}
use Rattle.go_type.specs.declared.term.TypeTerm.{TypeTerm}
use Rattle.go_type.specs.declared.term.TypeTerm.TheVariants.{Basic as Plain, Declared, Pointer, Slice, Array, Map}
use Rattle.go_type.specs.declared.term.TypeTerm.TheVariants.{Chan, Func, Struct, Interface, Tuple, Iter}
use Rattle.go_type.specs.Table.{Table, term_at, exported}
use Rattle.go_text.specs.Joined.{joined}
use Rattle.go_text.specs.Naming.{Naming, declared_text, member_text}
use Rattle.go_text.specs.Quoted.{quoted_text}
use Rattle.go_text.specs.Sorting.{sorted_methods}

abbrev pub basic_text : Basic → List ℕ
basic_text basic.Bool = codes "bool"
basic_text basic.Int = codes "int"
basic_text basic.Int8 = codes "int8"
basic_text basic.Int16 = codes "int16"
basic_text basic.Int32 = codes "int32"
basic_text basic.Int64 = codes "int64"
basic_text basic.Uint = codes "uint"
basic_text basic.Uint8 = codes "uint8"
basic_text basic.Uint16 = codes "uint16"
basic_text basic.Uint32 = codes "uint32"
basic_text basic.Uint64 = codes "uint64"
basic_text basic.Text = codes "string"
basic_text basic.UntypedBool = codes "untyped bool"
basic_text basic.UntypedInt = codes "untyped int"
basic_text basic.UntypedRune = codes "untyped rune"
basic_text basic.UntypedText = codes "untyped string"
basic_text basic.UntypedNil = codes "untyped nil"

-- ---- a term, with the texts of its parts

-- whether it is a channel type of receiving alone
abbrev pub is_receiving : Option TypeTerm → Bool
is_receiving (Some (Chan Receive elem)) = true
is_receiving _ = false

abbrev pub chan_text : Naming → (TypeId → List ℕ) → Dir → TypeId → List ℕ
chan_text n part Send elem = codes "chan<- " ++ part elem
chan_text n part Receive elem = codes "<-chan " ++ part elem
chan_text n part Both elem =
    if is_receiving (term_at n.types elem) then codes "chan (" ++ (part elem ++ codes ")")
    else codes "chan " ++ part elem

-- the last parameter of a variadic function has the type of a slice
abbrev pub slice_element : TypeId → Option TypeTerm → TypeId
slice_element id (Some (Slice elem)) = elem
slice_element id _ = id

abbrev pub last_param_text : Naming → (TypeId → List ℕ) → TypeId → List ℕ
last_param_text n part id = codes "..." ++ part (slice_element id (term_at n.types id))

abbrev pub variadic_text : Naming → (TypeId → List ℕ) → List TypeId → List ℕ
variadic_text n part [] = []
variadic_text n part (p ∷ []) = last_param_text n part p
variadic_text n part (p ∷ (q ∷ rest)) = part p ++ (codes ", " ++ variadic_text n part (q ∷ rest))

abbrev pub tuple_text : (TypeId → List ℕ) → List TypeId → List ℕ
tuple_text part ids = codes "(" ++ (joined (codes ", ") part ids ++ codes ")")

-- nothing, a type, or types in parentheses
abbrev pub results_text : (TypeId → List ℕ) → List TypeId → List ℕ
results_text part [] = []
results_text part (one ∷ []) = codes " " ++ part one
results_text part (one ∷ (two ∷ rest)) = codes " " ++ tuple_text part (one ∷ (two ∷ rest))

abbrev pub signature_text : Naming → (TypeId → List ℕ) → Signature → List ℕ
signature_text n part s =
    codes "("
    ++ ((if s.variadic then variadic_text n part s.params else joined (codes ", ") part s.params)
    ++ (codes ")" ++ results_text part s.results))

-- whether a term is a declared type of the name
abbrev pub is_called : NameId → Option TypeTerm → Bool
is_called name (Some (Declared declared)) = declared.name.number == name.number
is_called name _ = false

abbrev pub is_called_below : Naming → NameId → Option TypeTerm → Bool
is_called_below n name (Some (Pointer base)) = is_called name (term_at n.types base)
is_called_below n name term = is_called name term

-- an embedded field that is exported and called as its type, or for a pointer as what that points to
abbrev pub is_bare : Naming → Field → Bool
is_bare n field =
    field.embedded && ((field.«package» == exported) && is_called_below n field.name (term_at n.types field.of))

abbrev pub field_name_text : Naming → Field → List ℕ
field_name_text n field =
    if is_bare n field then []
    else member_text n.names n.labels field.name field.«package» ++ (if field.embedded then codes "=" else codes " ")

abbrev pub tag_text : List ℕ → List ℕ
tag_text [] = []
tag_text (byte ∷ bytes) = codes " " ++ quoted_text (byte ∷ bytes)

abbrev pub field_text : Naming → (TypeId → List ℕ) → Field → List ℕ
field_text n part field = field_name_text n field ++ (part field.of ++ tag_text field.tag)

abbrev pub struct_text : Naming → (TypeId → List ℕ) → List Field → List ℕ
struct_text n part fields = codes "struct{" ++ (joined (codes "; ") (field_text n part) fields ++ codes "}")

-- the type of a method, a function type, without the word `func`
abbrev pub method_type_text : Naming → (TypeId → List ℕ) → TypeId → Option TypeTerm → List ℕ
method_type_text n part id (Some (Func s)) = signature_text n part s
method_type_text n part id _ = codes " " ++ part id

abbrev pub method_text : Naming → (TypeId → List ℕ) → MethodType → List ℕ
method_text n part m =
    member_text n.names n.labels m.name m.«package» ++ method_type_text n part m.of (term_at n.types m.of)

abbrev pub interface_text : Naming → (TypeId → List ℕ) → List MethodType → List ℕ
interface_text n part methods =
    codes "interface{" ++ (joined (codes "; ") (method_text n part) (sorted_methods n methods) ++ codes "}")

unfoldable pub term_text : Naming → (TypeId → List ℕ) → TypeTerm → List ℕ
term_text n part (Plain kind) = basic_text kind
term_text n part (Declared name) = declared_text n.names n.labels name
term_text n part (Pointer elem) = codes "*" ++ part elem
term_text n part (Slice elem) = codes "[]" ++ part elem
term_text n part (Array len elem) = codes "[" ++ (decimal len ++ (codes "]" ++ part elem))
term_text n part (Map key elem) = codes "map[" ++ (part key ++ (codes "]" ++ part elem))
term_text n part (Chan dir elem) = chan_text n part dir elem
term_text n part (Func signature) = codes "func" ++ signature_text n part signature
term_text n part (Struct fields) = struct_text n part fields
term_text n part (Interface methods) = interface_text n part methods
term_text n part (Tuple parts) = tuple_text part parts
term_text n part (Iter over) = codes "iter " ++ part over

-- ---- a type

abbrev pub text_of_term : Naming → (TypeId → List ℕ) → Option TypeTerm → List ℕ
text_of_term n part None = []
text_of_term n part (Some term) = term_text n part term

-- the text of a type, down to a depth
unfoldable pub type_text_to : ℕ → Naming → TypeId → List ℕ
type_text_to zero n id = []
type_text_to (suc depth) n id = text_of_term n (type_text_to depth n) (term_at n.types id)

-- the text of a type: no type is nested deeper than there are types
abbrev pub type_text_of : Naming → TypeId → List ℕ
type_text_of n id = type_text_to (length n.types.terms) n id
