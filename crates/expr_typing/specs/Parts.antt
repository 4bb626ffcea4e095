-- Types of parts of expressions, without what stands around them.
use Rattle.std.specs.Prelude.{ℕ, ◌==◌, Bool, true, false, ◌&&◌, ◌||◌, nat_lt, List, [], ◌∷◌, Option, Some, None}
use Rattle.std.specs.Prelude.{if◌then◌else◌}
use Rattle.std.specs.Bool.{beq}
use Rattle.std.specs.Option.{option_map_or}
use Rattle.go_base.specs.declared.ids.NameId.{NameId}
use Rattle.go_base.specs.declared.ids.TypeId.{TypeId}
use Rattle.go_tree.specs.declared.exprs.IndexBase.{IndexBase}
use Rattle.go_tree.specs.declared.exprs.IndexBase.TheVariants as indexed
use Rattle.go_tree.specs.declared.exprs.SliceBase.{SliceBase}
use Rattle.go_tree.specs.declared.exprs.SliceBase.TheVariants as sliced
use Rattle.go_type.specs.Assignable.{underlying_term_of}
use Rattle.go_type.specs.Kinds.{kind_of}
use Rattle.go_type.specs.Same.{same_id, same_ids}
use Rattle.go_type.specs.Table.{Table}
use Rattle.go_type.specs.declared.operators.BinaryOp.{BinaryOp}
use Rattle.go_type.specs.declared.operators.BinaryOp.TheVariants as binary
use Rattle.go_type.specs.declared.operators.CompareOp.{CompareOp}
use Rattle.go_type.specs.declared.operators.CompareOp.TheVariants as comparison
use Rattle.go_type.specs.declared.term.Basic.{Basic}
use Rattle.go_type.specs.declared.term.Basic.TheVariants as basic
use Rattle.go_type.specs.declared.term.MethodType.{MethodType}
use Rattle.go_type.specs.declared.term.Signature.{Signature}
use Rattle.go_type.specs.declared.term.TypeTerm.{TypeTerm}
use Rattle.go_type.specs.declared.term.TypeTerm.TheVariants.{Slice, Array, Map, Struct, Interface}
use Rattle.type_shapes.specs.Shapes.{is_text, is_truth}
use Rattle.typed_trees.specs.Around.{Around}
use Rattle.typed_trees.specs.Nodes.{Seen, SeenItem, SeenEntry, is_place, place_if}
use Rattle.typed_trees.specs.declared.forms.Form.{Form}
use Rattle.typed_trees.specs.declared.forms.Form.TheVariants as forms

-- ---- types whose values are counted, ordered and printed

module _ (types : Table) where
  abbrev pub is_integer_type : TypeId → Bool
  is_integer_type of = option_map_or (λ kind. true) (kind_of types of) false

  abbrev pub is_ordered_type : TypeId → Bool
  is_ordered_type of = is_integer_type of || is_text (underlying_term_of types of)

  abbrev pub is_printed_type : TypeId → Bool
  is_printed_type of = is_truth (underlying_term_of types of) || is_ordered_type of

-- values of a type are compared, with `nil` too where they are not comparable
abbrev pub compares : Around → CompareOp → TypeId → Bool → Bool
compares around comparison.Equal of is_nil = around.tests.answers.comparable of || is_nil
compares around comparison.NotEqual of is_nil = around.tests.answers.comparable of || is_nil
compares around _ of is_nil = is_ordered_type around.program.types of

-- the constants' types that are no untyped ones
abbrev pub is_typed : Basic → Bool
is_typed basic.UntypedBool = false
is_typed basic.UntypedInt = false
is_typed basic.UntypedRune = false
is_typed basic.UntypedText = false
is_typed basic.UntypedNil = false
is_typed _ = true

-- `+` joins strings
abbrev pub is_join : BinaryOp → Bool
is_join binary.Add = true
is_join _ = false

-- ---- what an element is

abbrev pub element_form : IndexBase → Form → Form
element_form indexed.Array it = place_if (is_place it)
element_form indexed.Slice it = forms.Place
element_form indexed.Text it = forms.Other

abbrev pub entry_form : Bool → Form
entry_form true = forms.Other
entry_form false = forms.Entry

abbrev pub is_text_base : SliceBase → Bool
is_text_base sliced.Text = true
is_text_base _ = false

-- ---- methods

-- the type of the first method of a name
abbrev pub method_named : NameId → ℕ → List MethodType → Option TypeId
method_named name owner [] = None
method_named name owner (first ∷ others) =
    if (first.name.number == name.number) && (first.«package» == owner) then Some first.of
    else method_named name owner others

abbrev pub interface_method : NameId → ℕ → Option TypeTerm → Option TypeId
interface_method name owner (Some (Interface methods)) = method_named name owner methods
interface_method name owner _ = None

-- a signature that has a receiver as its first parameter, and else is one of a method
abbrev pub takes_receiver : TypeId → Signature → Signature → Bool
takes_receiver receiver method signature =
    same_ids signature.params (receiver ∷ method.params)
    && (same_ids signature.results method.results && beq signature.variadic method.variadic)

-- ---- "Composite literals"

-- the type that is wanted, where there is one
abbrev pub is_of : TypeId → Option TypeId → Bool
is_of of None = false
is_of of (Some wanted) = same_id of wanted

abbrev pub is_struct : Option TypeTerm → Bool
is_struct (Some (Struct fields)) = true
is_struct _ = false

-- an array of a length, or a slice
abbrev pub has_items : Option TypeTerm → ℕ → Bool
has_items (Some (Array size elem)) len = len == size
has_items (Some (Slice elem)) len = true
has_items _ len = false

abbrev pub item_type : Option TypeTerm → Option TypeId
item_type (Some (Array size elem)) = Some elem
item_type (Some (Slice elem)) = Some elem
item_type _ = None

abbrev pub slice_type : Option TypeTerm → Option TypeId
slice_type (Some (Slice elem)) = Some elem
slice_type _ = None

abbrev pub key_type : Option TypeTerm → Option TypeId
key_type (Some (Map key elem)) = Some key
key_type _ = None

abbrev pub value_type : Option TypeTerm → Option TypeId
value_type (Some (Map key elem)) = Some elem
value_type _ = None

abbrev pub item_fits : (Seen → Bool) → ℕ → Option TypeId → SeenItem → Bool
item_fits fits len elem x = nat_lt x.index len && (is_of x.value.of elem && fits x.value)

abbrev pub entry_fits : (Seen → Bool) → Option TypeId → Option TypeId → SeenEntry → Bool
entry_fits fits key elem x = is_of x.key.of key && (is_of x.value.of elem && (fits x.key && fits x.value))
