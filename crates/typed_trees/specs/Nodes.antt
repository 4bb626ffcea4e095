-- Which types the parts of an expression have. Go specification, "Expressions".
use Rattle.std.specs.Prelude.{ℕ, ◌==◌, Bool, true, false, not, ◌&&◌, ◌||◌, List, [], ◌∷◌, Option, Some, None}
use Rattle.std.specs.Prelude.{if◌then◌else◌, is_none, map, nat_lt}
use Rattle.std.specs.Bool.{beq}
use Rattle.std.specs.List.{list_all, list_any}
use Rattle.std.specs.Option.{option_and_then, option_map_or}
use Rattle.go_base.specs.declared.ids.NameId.{NameId}
use Rattle.go_base.specs.declared.ids.TypeId.{TypeId}
use Rattle.go_tree.specs.declared.exprs.IndexBase.{IndexBase}
use Rattle.go_tree.specs.declared.exprs.IndexBase.TheVariants as indexed
use Rattle.go_tree.specs.declared.exprs.Method.{Method}
use Rattle.go_tree.specs.declared.exprs.Method.TheVariants as method
use Rattle.go_tree.specs.declared.exprs.SliceBase.{SliceBase}
use Rattle.go_tree.specs.declared.exprs.SliceBase.TheVariants as sliced
use Rattle.go_type.specs.Operators.{shift_of}
use Rattle.go_type.specs.Representable.{representable}
use Rattle.go_type.specs.Same.{same_id, same_ids}
use Rattle.go_type.specs.Table.{basic_id}
use Rattle.go_type.specs.declared.constants.Const.{Const}
use Rattle.go_type.specs.declared.operators.BinaryOp.{BinaryOp}
use Rattle.go_type.specs.declared.operators.BinaryOp.TheVariants as binary
use Rattle.go_type.specs.declared.operators.CompareOp.{CompareOp}
use Rattle.go_type.specs.declared.operators.CompareOp.TheVariants as comparison
use Rattle.go_type.specs.declared.operators.UnaryOp.{UnaryOp}
use Rattle.go_type.specs.declared.operators.UnaryOp.TheVariants as unary
use Rattle.go_type.specs.declared.term.Basic.TheVariants as basic
use Rattle.go_type.specs.declared.term.MethodType.{MethodType}
use Rattle.go_type.specs.declared.term.Signature.{Signature}
use Rattle.go_type.specs.declared.term.TypeTerm.{TypeTerm}
use Rattle.go_type.specs.declared.term.TypeTerm.TheVariants.{Basic as Plain, Slice, Array, Map, Struct}
use Rattle.go_type.specs.declared.term.TypeTerm.TheVariants.{Interface}
use Rattle.type_shapes.specs.Shapes.{is_interface, is_pointer_to, is_slice_of, has_nil, parts_of, is_with_ok}
use Rattle.type_shapes.specs.Shapes.{base_of, array_elem, field_of, received_elem, is_id}
use Rattle.typed_trees.specs.Around.{Around, term, under, has_integers, has_texts, has_truths, is_ordered}
use Rattle.typed_trees.specs.Around.{signature_in, method_type_of}
use Rattle.typed_trees.specs.declared.forms.Form.{Form}
use Rattle.typed_trees.specs.declared.forms.Form.TheVariants as forms

-- an expression: its type, what it is, whether the types in it fit, and whether they fit where it is made of the parts
-- of several values of types
pub record Seen : Type 0 where
  pub of : TypeId
  pub form : Form
  pub fits : Bool
  pub fits_part : List TypeId → Bool

-- one that is made of no parts
abbrev pub whole : TypeId → Form → Bool → Seen
whole of form fits = record { of = of; form = form; fits = fits; fits_part = λ parts. false }

-- `nil`, which stands for a slice of no parts too
abbrev pub nil_of : TypeId → Bool → Seen
nil_of of fits = record { of = of; form = forms.Nothing; fits = fits; fits_part = λ parts. fits }

-- one with one operand, of which it is a part where that is
abbrev pub around_one : TypeId → Bool → Seen → Seen
around_one of fits x = record {
  of = of;
  form = forms.Other;
  fits = fits && x.fits;
  fits_part = λ parts. fits && x.fits_part parts;
}

abbrev pub is_place : Form → Bool
is_place forms.Place = true
is_place _ = false

-- what has an address: a place or a composite literal
abbrev pub has_address : Form → Bool
has_address forms.Place = true
has_address forms.Composite = true
has_address _ = false

abbrev pub is_nothing : Form → Bool
is_nothing forms.Nothing = true
is_nothing _ = false

abbrev pub is_call : Form → Bool
is_call forms.Call = true
is_call _ = false

-- what can be assigned to
abbrev pub can_be_set : Form → Bool
can_be_set forms.Place = true
can_be_set forms.Entry = true
can_be_set _ = false

abbrev pub place_if : Bool → Form
place_if true = forms.Place
place_if false = forms.Other

-- ---- lists of types

abbrev pub same_lists : List TypeId → List TypeId → Bool
same_lists types others = same_ids types others

-- the type of several values
abbrev pub is_tuple : List TypeId → Option (List TypeId) → Bool
is_tuple types None = false
is_tuple types (Some parts) = same_lists parts types

-- a value and whether there is one: the value alone, or both
abbrev pub is_value_or_both : Option (List TypeId) → Bool → TypeId → TypeId → Bool
is_value_or_both parts false value of = same_id of value
is_value_or_both parts true value of = is_with_ok value parts

module _ (around : Around) where
  -- "Constants": one of a type that is no untyped one
  abbrev pub is_typed_basic : Option TypeTerm → Bool
  is_typed_basic (Some (Plain basic.UntypedBool)) = false
  is_typed_basic (Some (Plain basic.UntypedInt)) = false
  is_typed_basic (Some (Plain basic.UntypedRune)) = false
  is_typed_basic (Some (Plain basic.UntypedText)) = false
  is_typed_basic (Some (Plain basic.UntypedNil)) = false
  is_typed_basic _ = true

  abbrev pub fits_constant : Const → TypeId → Bool
  fits_constant value of = is_typed_basic (term around of) && representable around.program.types value of

  abbrev pub fits_nil : TypeId → Bool
  fits_nil of = has_nil (under around of)

  -- ---- "Method values" and "Method expressions"

  -- the type of a method of an interface
  abbrev pub method_named : NameId → ℕ → List MethodType → Option TypeId
  method_named name owner [] = None
  method_named name owner (first ∷ others) =
      if (first.name.number == name.number) && (first.«package» == owner) then Some first.of
      else method_named name owner others

  abbrev pub interface_method : NameId → ℕ → Option TypeTerm → Option TypeId
  interface_method name owner (Some (Interface methods)) = method_named name owner methods
  interface_method name owner _ = None

  abbrev pub fits_method : Method → TypeId → TypeId → Bool
  fits_method (method.Concrete function) receiver of = is_id (method_type_of around function receiver) of
  fits_method (method.Interface name owner) receiver of = is_id (interface_method name owner (under around receiver)) of

  -- a method expression has the receiver as its first parameter
  abbrev pub is_method_expression : TypeId → TypeId → Option Signature → Option Signature → Bool
  is_method_expression receiver of (Some method) (Some signature) =
      same_lists signature.params (receiver ∷ method.params)
      && (same_lists signature.results method.results && beq signature.variadic method.variadic)
  is_method_expression receiver of _ _ = false

  abbrev pub fits_method_expression : TypeId → NameId → ℕ → TypeId → Bool
  fits_method_expression receiver name owner of =
      is_method_expression receiver of
      (option_and_then (λ method. signature_in (term around method)) (around.tests.method_of receiver name owner))
      (signature_in (term around of))

  -- ---- "Selectors", "Index expressions" and "Slice expressions"

  abbrev pub fits_field : ℕ → TypeId → TypeId → Bool
  fits_field field operand of = is_id (field_of field (under around operand)) of

  abbrev pub slice_elem : Option TypeTerm → Option TypeId
  slice_elem (Some (Slice elem)) = Some elem
  slice_elem _ = None

  abbrev pub fits_element : IndexBase → TypeId → TypeId → Bool
  fits_element indexed.Array operand of = is_id (array_elem (under around operand)) of
  fits_element indexed.Slice operand of = is_id (slice_elem (under around operand)) of
  fits_element indexed.Text operand of = has_texts around operand && same_id of (basic_id basic.Uint8)

  abbrev pub fits_index : IndexBase → Seen → Seen → TypeId → Bool
  fits_index base operand index of = fits_element base operand.of of && has_integers around index.of

  -- an element of a slice is a place, and one of an array that is one
  abbrev pub index_form : IndexBase → Form → Form
  index_form indexed.Slice it = forms.Place
  index_form indexed.Array it = place_if (is_place it)
  index_form indexed.Text it = forms.Other

  abbrev pub fits_entry_of : Option TypeTerm → Bool → TypeId → TypeId → Bool
  fits_entry_of (Some (Map key elem)) comma_ok by of =
      same_id by key && is_value_or_both (parts_of (term around of)) comma_ok elem of
  fits_entry_of _ comma_ok by of = false

  abbrev pub fits_map_index : TypeId → TypeId → Bool → TypeId → Bool
  fits_map_index table by comma_ok of = fits_entry_of (under around table) comma_ok by of

  abbrev pub entry_form : Bool → Form
  entry_form false = forms.Entry
  entry_form true = forms.Other

  -- a slice of an array has the elements of the array
  abbrev pub is_slice_of_array : Option TypeId → TypeId → Bool
  is_slice_of_array None of = false
  is_slice_of_array (Some elem) of = is_slice_of (term around of) elem

  abbrev pub fits_sliced : SliceBase → TypeId → TypeId → Bool
  fits_sliced sliced.ArrayPointer operand of =
      is_slice_of_array (option_and_then (λ base. array_elem (under around base)) (base_of (under around operand))) of
  fits_sliced sliced.Slice operand of =
      option_map_or (λ elem. true) (slice_elem (under around operand)) false && same_id of operand
  fits_sliced sliced.Text operand of = has_texts around operand && same_id of operand

  abbrev pub is_text_base : SliceBase → Bool
  is_text_base sliced.Text = true
  is_text_base _ = false

  -- a place in a slice expression, where it is not left out
  abbrev pub fits_bound : Option Seen → Bool
  fits_bound None = true
  fits_bound (Some x) = has_integers around x.of && x.fits

  abbrev pub fits_slice : SliceBase → Seen → Option Seen → Option Seen → Option Seen → TypeId → Bool
  fits_slice base operand low high max of =
      fits_sliced base operand.of of && (operand.fits && (fits_bound low && (fits_bound high
      && (fits_bound max && (not (is_text_base base) || is_none max)))))

  -- ---- "Address operators"

  abbrev pub fits_deref : TypeId → TypeId → Bool
  fits_deref operand of = is_id (base_of (under around operand)) of

  abbrev pub fits_address : Seen → TypeId → Bool
  fits_address x of = has_address x.form && is_pointer_to (term around of) x.of

  -- ---- "Operators"

  abbrev pub takes_unary : UnaryOp → TypeId → Bool
  takes_unary unary.Not of = has_truths around of
  takes_unary _ of = has_integers around of

  abbrev pub fits_unary : UnaryOp → TypeId → TypeId → Bool
  fits_unary op operand of = takes_unary op of && same_id operand of

  -- `+` joins strings
  abbrev pub is_join : BinaryOp → Bool
  is_join binary.Add = true
  is_join _ = false

  abbrev pub takes_binary : BinaryOp → TypeId → Bool
  takes_binary op of = has_integers around of || (is_join op && has_texts around of)

  -- the operands of a shift may be of two types
  abbrev pub fits_operands : BinaryOp → Option Bool → TypeId → TypeId → TypeId → Bool
  fits_operands op (Some to_left) left right of =
      same_id left of && (has_integers around left && has_integers around right)
  fits_operands op None left right of = same_id left of && (same_id right of && takes_binary op of)

  abbrev pub fits_binary : BinaryOp → TypeId → TypeId → TypeId → Bool
  fits_binary op left right of = fits_operands op (shift_of op) left right of

  -- "Comparison operators": what is not comparable is compared with `nil`
  abbrev pub takes_comparison : CompareOp → Seen → Seen → Bool
  takes_comparison comparison.Equal left right =
      around.tests.answers.comparable left.of || (is_nothing left.form || is_nothing right.form)
  takes_comparison comparison.NotEqual left right =
      around.tests.answers.comparable left.of || (is_nothing left.form || is_nothing right.form)
  takes_comparison _ left right = is_ordered around left.of

  abbrev pub fits_comparison : CompareOp → Seen → Seen → TypeId → Bool
  fits_comparison op left right of =
      same_id left.of right.of && (takes_comparison op left right && has_truths around of)

  abbrev pub fits_logic : TypeId → TypeId → TypeId → Bool
  fits_logic left right of = same_id left of && (same_id right of && has_truths around of)

  -- "Receive operator"
  abbrev pub fits_receive : TypeId → Bool → TypeId → Bool
  fits_receive channel comma_ok of =
      option_map_or (λ elem. is_value_or_both (parts_of (term around of)) comma_ok elem of)
      (received_elem (under around channel)) false

  -- ---- "Calls"

  -- what a call gives: its one result, or none or several as a tuple
  abbrev pub gives : List TypeId → TypeId → Bool
  gives (one ∷ []) of = same_id one of
  gives results of = is_tuple results (parts_of (term around of))

  abbrev pub fits_call_of : Option Signature → List TypeId → TypeId → Bool
  fits_call_of None arguments of = false
  fits_call_of (Some signature) arguments of = same_lists arguments signature.params && gives signature.results of

  -- ---- interfaces

  abbrev pub fits_boxing : TypeId → TypeId → Bool
  fits_boxing operand of = is_interface (under around of) && around.tests.answers.implements operand of

  -- "Type assertions"
  abbrev pub fits_assertion : TypeId → TypeId → Bool → TypeId → Bool
  fits_assertion operand to comma_ok of =
      is_interface (under around operand)
      && ((is_interface (under around to) || around.tests.answers.implements to operand)
      && is_value_or_both (parts_of (term around of)) comma_ok to of)

-- ---- "Composite literals"

-- a field, an element or an entry that is given
pub record SeenField : Type 0 where
  pub field : ℕ
  pub value : Seen

pub record SeenItem : Type 0 where
  pub index : ℕ
  pub value : Seen

pub record SeenEntry : Type 0 where
  pub key : Seen
  pub value : Seen

abbrev pub are_distinct : List ℕ → Bool
are_distinct [] = true
are_distinct (n ∷ others) = not (list_any (λ m. n == m) others) && are_distinct others

module _ (fits : Seen → Bool) where
  abbrev pub fits_set_field : Option TypeTerm → SeenField → Bool
  fits_set_field struct x = is_id (field_of x.field struct) x.value.of && fits x.value

  abbrev pub fits_item : ℕ → TypeId → SeenItem → Bool
  fits_item len elem x = nat_lt x.index len && (same_id x.value.of elem && fits x.value)

  abbrev pub fits_entry : TypeId → TypeId → SeenEntry → Bool
  fits_entry key elem x = same_id x.key.of key && (same_id x.value.of elem && (fits x.key && fits x.value))

  -- each field is given at most once
  abbrev pub fits_fields : Option TypeTerm → List SeenField → Bool
  fits_fields (Some (Struct fields)) given =
      list_all (fits_set_field (Some (Struct fields))) given && are_distinct (map (λ x. x.field) given)
  fits_fields _ given = false

  abbrev pub fits_items : Option TypeTerm → List SeenItem → ℕ → Bool
  fits_items (Some (Array size elem)) items len =
      (len == size) && (list_all (fits_item len elem) items && are_distinct (map (λ x. x.index) items))
  fits_items (Some (Slice elem)) items len =
      list_all (fits_item len elem) items && are_distinct (map (λ x. x.index) items)
  fits_items _ items len = false

  abbrev pub fits_entries : Option TypeTerm → List SeenEntry → Bool
  fits_entries (Some (Map key elem)) entries = list_all (fits_entry key elem) entries
  fits_entries _ entries = false
