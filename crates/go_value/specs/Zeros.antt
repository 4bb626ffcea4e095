-- Zero values. Go specification, "The zero value".
use Rattle.std.specs.Prelude.{ℕ, zero, suc, pos, List, [], ◌∷◌, Bool, false, Option, None, Some, option_map, replicate}
use Rattle.go_base.specs.declared.ids.NameId.{NameId}
use Rattle.go_base.specs.declared.ids.TypeId.{TypeId}
use Rattle.go_type.specs.Assignable.{underlying_term_of}
use Rattle.go_type.specs.Table.{Table, is_name}
use Rattle.go_type.specs.declared.term.Basic.{Basic}
use Rattle.go_type.specs.declared.term.Basic.TheVariants.{Bool as Boolean, Text, UntypedBool, UntypedText, UntypedNil}
use Rattle.go_type.specs.declared.term.TypeTerm.{TypeTerm}
use Rattle.go_type.specs.declared.term.TypeTerm.TheVariants as term
use Rattle.go_value.specs.Address.{nil_pointer, nil_slice}
use Rattle.go_value.specs.Values.{Val, Parts, none, part, truth, number, text, pointer, slice, map_number, chan_number}
use Rattle.go_value.specs.Values.{nil_function, closure, bound, expression, nil_interface, dynamic, parts, text_range}
use Rattle.go_value.specs.Values.{map_range, Field, parts_of}

-- ---- of a type: false for booleans, 0 for numbers, "" for strings, and nil for pointers, functions, interfaces,
-- slices, channels and maps. The untyped nil and the state of a range have none.

abbrev pub zero_of_basic : Basic → Option Val
zero_of_basic Boolean = Some (truth false)
zero_of_basic UntypedBool = Some (truth false)
zero_of_basic Text = Some (text [])
zero_of_basic UntypedText = Some (text [])
zero_of_basic UntypedNil = None
zero_of_basic kind = Some (number (pos 0))

-- where each item has a value: the parts of these values, those marked that a test marks
abbrev pub with_part : Option Val → Bool → Option (List Field) → Option (List Field)
with_part (Some it) blank (Some rest) = Some (record { value = it; blank = blank } ∷ rest)
with_part it blank rest = None

abbrev pub parts_by : {A : Type 0} → (A → Option Val) → (A → Bool) → List A → Option (List Field)
parts_by value blank [] = Some []
parts_by value blank (item ∷ items) = with_part (value item) (blank item) (parts_by value blank items)

abbrev pub all_parts : Option (List Field) → Option Val
all_parts = option_map (λ fields. parts (parts_of fields))

abbrev pub plain : Val → Field
plain it = record { value = it; blank = false }

abbrev pub array_of : ℕ → Val → Val
array_of len it = parts (parts_of (replicate len (plain it)))

-- each element of an array and each field of a struct is set to the zero value of its type; `zero_part` gives those
abbrev pub zero_of_term : (TypeId → Option Val) → Option NameId → Option TypeTerm → Option Val
zero_of_term zero_part blank (Some (term.Basic kind)) = zero_of_basic kind
zero_of_term zero_part blank (Some (term.Pointer elem)) = Some (pointer nil_pointer)
zero_of_term zero_part blank (Some (term.Slice elem)) = Some (slice nil_slice)
zero_of_term zero_part blank (Some (term.Array zero elem)) = Some (parts none)
zero_of_term zero_part blank (Some (term.Array (suc len) elem)) = option_map (array_of (suc len)) (zero_part elem)
zero_of_term zero_part blank (Some (term.Map key elem)) = Some (map_number None)
zero_of_term zero_part blank (Some (term.Chan dir elem)) = Some (chan_number None)
zero_of_term zero_part blank (Some (term.Func signature)) = Some nil_function
zero_of_term zero_part blank (Some (term.Struct fields)) =
    all_parts (parts_by (λ field. zero_part field.of) (λ field. is_name blank field.name) fields)
zero_of_term zero_part blank (Some (term.Interface methods)) = Some nil_interface
zero_of_term zero_part blank (Some (term.Tuple ids)) = all_parts (parts_by zero_part (λ id. false) ids)
zero_of_term zero_part blank it = None

-- the zero value of a type, none where elements and fields are deeper than n steps
abbrev pub zero_to : ℕ → Table → Option NameId → TypeId → Option Val
zero_to zero types blank of = None
zero_to (suc n) types blank of = zero_of_term (zero_to n types blank) blank (underlying_term_of types of)

-- ---- of the type of a value

abbrev mutual
  -- the zero value of the type of a value
  pub zeroed : Val → Val
  zeroed (truth it) = truth false
  zeroed (number it) = number (pos 0)
  zeroed (text it) = text []
  zeroed (pointer it) = pointer nil_pointer
  zeroed (slice it) = slice nil_slice
  zeroed (map_number it) = map_number None
  zeroed (chan_number it) = chan_number None
  zeroed nil_function = nil_function
  zeroed (closure function captured) = nil_function
  zeroed (bound target receiver) = nil_function
  zeroed (expression receiver name package_number) = nil_function
  zeroed nil_interface = nil_interface
  zeroed (dynamic of it) = nil_interface
  zeroed (parts it) = parts (zeroed_parts it)
  zeroed (text_range bytes next) = text_range bytes next
  zeroed (map_range of left) = map_range of left

  pub zeroed_parts : Parts → Parts
  zeroed_parts none = none
  zeroed_parts (part it blank rest) = part (zeroed it) blank (zeroed_parts rest)
