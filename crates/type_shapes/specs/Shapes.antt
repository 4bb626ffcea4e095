-- What types are, by their terms or by those of their underlying types.
use Rattle.std.specs.Prelude.{ℕ, ◌==◌, Bool, true, false, ◌&&◌, List, [], ◌∷◌, length, Option, Some, None}
use Rattle.std.specs.Prelude.{if◌then◌else◌, slice_get}
use Rattle.go_base.specs.declared.ids.TypeId.{TypeId}
use Rattle.go_type.specs.Assignable.{underlying_term_of}
use Rattle.go_type.specs.Same.{same_id}
use Rattle.go_type.specs.Table.{Table, basic_id}
use Rattle.go_type.specs.declared.term.Basic.TheVariants as basic
use Rattle.go_type.specs.declared.term.Dir.{Dir}
use Rattle.go_type.specs.declared.term.Dir.TheVariants as dir
use Rattle.go_type.specs.declared.term.Field.{Field}
use Rattle.go_type.specs.declared.term.TypeTerm.{TypeTerm}
use Rattle.go_type.specs.declared.term.TypeTerm.TheVariants.{Basic as Plain, Declared, Pointer, Slice, Array, Map}
use Rattle.go_type.specs.declared.term.TypeTerm.TheVariants.{Chan, Func, Struct, Interface, Tuple, Iter}

-- ---- what a term is; none where no type is held

abbrev pub is_text : Option TypeTerm → Bool
is_text (Some (Plain basic.Text)) = true
is_text _ = false

abbrev pub is_truth : Option TypeTerm → Bool
is_truth (Some (Plain basic.Bool)) = true
is_truth _ = false

abbrev pub is_interface : Option TypeTerm → Bool
is_interface (Some (Interface methods)) = true
is_interface _ = false

abbrev pub is_map : Option TypeTerm → Bool
is_map (Some (Map key elem)) = true
is_map _ = false

abbrev pub is_chan : Option TypeTerm → Bool
is_chan (Some (Chan way elem)) = true
is_chan _ = false

abbrev pub is_slice : Option TypeTerm → Bool
is_slice (Some (Slice elem)) = true
is_slice _ = false

-- `interface{}`
abbrev pub is_any : Option TypeTerm → Bool
is_any (Some (Interface methods)) = length methods == 0
is_any _ = false

abbrev pub is_byte : Option TypeTerm → Bool
is_byte (Some (Plain basic.Uint8)) = true
is_byte _ = false

abbrev pub is_character : Option TypeTerm → Bool
is_character (Some (Plain basic.Uint8)) = true
is_character (Some (Plain basic.Int32)) = true
is_character _ = false

-- a slice of bytes or runes
abbrev pub is_characters : Table → Option TypeTerm → Bool
is_characters types (Some (Slice elem)) = is_character (underlying_term_of types elem)
is_characters types _ = false

-- a tuple or the state of a range
abbrev pub is_state : Option TypeTerm → Bool
is_state (Some (Tuple parts)) = true
is_state (Some (Iter over)) = true
is_state _ = false

abbrev pub is_value_type : Option TypeTerm → Bool
is_value_type None = false
is_value_type (Some (Tuple parts)) = false
is_value_type (Some (Iter over)) = false
is_value_type (Some _) = true

-- the types that have the constant `nil`
abbrev pub has_nil : Option TypeTerm → Bool
has_nil (Some (Pointer base)) = true
has_nil (Some (Func signature)) = true
has_nil (Some (Slice elem)) = true
has_nil (Some (Map key elem)) = true
has_nil (Some (Chan way elem)) = true
has_nil (Some (Interface methods)) = true
has_nil _ = false

-- the types that have the constant `zero`: all that are defined but tuples and the states of ranges
abbrev pub has_zero : Option TypeTerm → Bool
has_zero None = false
has_zero (Some (Tuple parts)) = false
has_zero (Some (Iter over)) = false
has_zero (Some (Declared name)) = false
has_zero (Some _) = true

-- ---- what a term is made of

abbrev pub is_pointer_to : Option TypeTerm → TypeId → Bool
is_pointer_to (Some (Pointer to)) base = same_id to base
is_pointer_to _ base = false

abbrev pub is_slice_of : Option TypeTerm → TypeId → Bool
is_slice_of (Some (Slice other)) elem = same_id other elem
is_slice_of _ elem = false

abbrev pub parts_of : Option TypeTerm → Option (List TypeId)
parts_of (Some (Tuple parts)) = Some parts
parts_of _ = None

-- the parts are a type and `bool`
abbrev pub is_with_ok : TypeId → Option (List TypeId) → Bool
is_with_ok first (Some (one ∷ two ∷ [])) = same_id one first && same_id two (basic_id basic.Bool)
is_with_ok first _ = false

abbrev pub base_of : Option TypeTerm → Option TypeId
base_of (Some (Pointer base)) = Some base
base_of _ = None

abbrev pub array_elem : Option TypeTerm → Option TypeId
array_elem (Some (Array len elem)) = Some elem
array_elem _ = None

abbrev pub type_of_field : Option Field → Option TypeId
type_of_field None = None
type_of_field (Some field) = Some field.of

abbrev pub field_of : ℕ → Option TypeTerm → Option TypeId
field_of number (Some (Struct fields)) = type_of_field (slice_get fields number)
field_of number _ = None

abbrev pub may_send : Dir → Bool
may_send dir.Receive = false
may_send _ = true

abbrev pub may_receive : Dir → Bool
may_receive dir.Send = false
may_receive _ = true

-- the elements of a channel that may be sent to
abbrev pub sent_elem : Option TypeTerm → Option TypeId
sent_elem (Some (Chan way elem)) = if may_send way then Some elem else None
sent_elem _ = None

-- the elements of a channel that may be received from
abbrev pub received_elem : Option TypeTerm → Option TypeId
received_elem (Some (Chan way elem)) = if may_receive way then Some elem else None
received_elem _ = None

-- the type that is wanted, where there is one
abbrev pub is_id : Option TypeId → TypeId → Bool
is_id None of = false
is_id (Some id) of = same_id id of
