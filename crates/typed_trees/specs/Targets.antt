-- What is assigned to, declared and received. Go specification, "Assignment statements", "Short variable declarations",
-- "For statements with range clause" and "Select statements".
use Rattle.std.specs.Prelude.{ℕ, zero, suc, ◌==◌, Bool, true, false, ◌&&◌, List, [], ◌∷◌, length, Option, Some, None}
use Rattle.std.specs.Prelude.{is_none}
use Rattle.std.specs.Cmp.Lexicographic.{pointwise}
use Rattle.std.specs.List.{list_all}
use Rattle.std.specs.Option.{option_map_or}
use Rattle.go_base.specs.declared.ids.TypeId.{TypeId}
use Rattle.go_base.specs.declared.ids.VarId.{VarId}
use Rattle.go_tree.specs.declared.exprs.TypedExpr.{TypedExpr}
use Rattle.go_tree.specs.declared.stmts.DefineTarget.{DefineTarget}
use Rattle.go_tree.specs.declared.stmts.DefineTarget.TheVariants as define
use Rattle.go_tree.specs.declared.stmts.RangeOver.{RangeOver}
use Rattle.go_tree.specs.declared.stmts.RangeOver.TheVariants as over
use Rattle.go_tree.specs.declared.stmts.RangeTargets.{RangeTargets}
use Rattle.go_tree.specs.declared.stmts.RangeTargets.TheVariants as ranging
use Rattle.go_tree.specs.declared.stmts.ReceiveInto.{ReceiveInto}
use Rattle.go_tree.specs.declared.stmts.ReceiveInto.TheVariants as into
use Rattle.go_tree.specs.declared.stmts.Target.{Target}
use Rattle.go_tree.specs.declared.stmts.Target.TheVariants as target
use Rattle.go_type.specs.Same.{same_id}
use Rattle.go_type.specs.Table.{basic_id}
use Rattle.go_type.specs.declared.term.Basic.TheVariants as basic
use Rattle.go_type.specs.declared.term.TypeTerm.{TypeTerm}
use Rattle.go_type.specs.declared.term.TypeTerm.TheVariants.{Array, Slice, Map, Pointer}
use Rattle.type_shapes.specs.Shapes.{received_elem}
use Rattle.typed_trees.specs.Around.{Around, under, has_texts, is_variable, is_own_variable}
use Rattle.typed_trees.specs.Expressions.{seen}
use Rattle.typed_trees.specs.Nodes.{Seen, can_be_set}

-- what a range gives in each turn
pub record Turns : Type 0 where
  pub key : TypeId
  pub value : Option TypeId

module _ (around : Around) where
  -- ---- assignments

  -- a place, or an element of a map, of a type; the blank identifier takes a value of any type
  abbrev pub takes_place : Seen → TypeId → Bool
  takes_place x of = can_be_set x.form && (same_id x.of of && x.fits)

  abbrev pub takes_value : Target → TypeId → Bool
  takes_value (target.Place place) of = takes_place (seen around place) of
  takes_value target.Blank of = true

  abbrev pub take_values : List Target → List TypeId → Bool
  take_values targets types = pointwise takes_value targets types

  -- a new variable, or one that was declared before
  abbrev pub defines : DefineTarget → TypeId → Bool
  defines (define.New variable) of = is_own_variable around variable of
  defines (define.Old variable) of = is_variable around variable of
  defines define.Blank of = true

  abbrev pub define_all : List DefineTarget → List TypeId → Bool
  define_all targets types = pointwise defines targets types

  abbrev pub are_part_of : List TypeId → List TypedExpr → Bool
  are_part_of types parts = list_all (λ x. (seen around x).fits_part types) parts

  abbrev pub part_types : List TypedExpr → List TypeId
  part_types [] = []
  part_types (x ∷ others) = (seen around x).of ∷ part_types others

  -- ---- what a receive gives: a value, and whether it was sent

  abbrev pub first_types : ℕ → TypeId → List TypeId
  first_types (suc zero) elem = elem ∷ []
  first_types n elem = elem ∷ basic_id basic.Bool ∷ []

  abbrev pub receives_into : TypeId → ReceiveInto → Bool
  receives_into elem into.Nothing = true
  receives_into elem (into.Define targets) = define_all targets.items (first_types (length targets.items) elem)
  receives_into elem (into.Assign targets parts) =
      are_part_of (elem ∷ basic_id basic.Bool ∷ []) parts.items && take_values targets.items (part_types parts.items)

  abbrev pub receives : TypeId → ReceiveInto → Bool
  receives channel targets =
      option_map_or (λ elem. receives_into elem targets) (received_elem (under around channel)) false

  -- ---- what a range gives: keys and values

  abbrev pub int_type : TypeId
  int_type = basic_id basic.Int

  abbrev pub with_elements : Option TypeId → Option Turns
  with_elements None = None
  with_elements (Some elem) = Some (record { key = int_type; value = Some elem })

  abbrev pub array_elements : Option TypeTerm → Option TypeId
  array_elements (Some (Array len elem)) = Some elem
  array_elements _ = None

  abbrev pub pointed_elements : Option TypeTerm → Option TypeId
  pointed_elements (Some (Pointer base)) = array_elements (under around base)
  pointed_elements _ = None

  abbrev pub slice_elements : Option TypeTerm → Option TypeId
  slice_elements (Some (Slice elem)) = Some elem
  slice_elements _ = None

  abbrev pub map_turns : Option TypeTerm → Option Turns
  map_turns (Some (Map key elem)) = Some (record { key = key; value = Some elem })
  map_turns _ = None

  abbrev pub channel_turns : Option TypeId → Option Turns
  channel_turns None = None
  channel_turns (Some elem) = Some (record { key = elem; value = None })

  abbrev pub has_length : ℕ → Option TypeTerm → Bool
  has_length len (Some (Array size elem)) = len == size
  has_length len _ = false

  -- an array of a length, or a pointer to one
  abbrev pub is_array_of : ℕ → Option TypeTerm → Bool
  is_array_of len (Some (Pointer base)) = has_length len (under around base)
  is_array_of len it = has_length len it

  -- the operand is not evaluated
  abbrev pub constant_turns : Bool → Option TypeId → Option Turns
  constant_turns true elem = with_elements elem
  constant_turns false elem = None

  -- the elements of an array, or of one that is pointed to
  abbrev pub elements_below : Option TypeTerm → Option TypeId
  elements_below (Some (Pointer base)) = array_elements (under around base)
  elements_below it = array_elements it

  abbrev pub text_turns : Bool → Option Turns
  text_turns true = Some (record { key = int_type; value = Some (basic_id basic.Int32) })
  text_turns false = None

  abbrev pub turns_of : RangeOver → TypeId → Option Turns
  turns_of over.Array of = with_elements (array_elements (under around of))
  turns_of over.ArrayPointer of = with_elements (pointed_elements (under around of))
  turns_of over.Slice of = with_elements (slice_elements (under around of))
  turns_of over.Text of = text_turns (has_texts around of)
  turns_of over.Map of = map_turns (under around of)
  turns_of over.Channel of = channel_turns (received_elem (under around of))
  turns_of (over.Constant len) of =
      constant_turns (is_array_of len (under around of)) (elements_below (under around of))
  turns_of over.Integer of = None

  abbrev pub defines_one : Option VarId → Option TypeId → Bool
  defines_one None of = true
  defines_one (Some variable) None = false
  defines_one (Some variable) (Some of) = is_own_variable around variable of

  abbrev pub all_types : Turns → List TypeId
  all_types turns = turns.key ∷ option_map_or (λ of. of ∷ []) turns.value []

  -- parts go to the targets that there are, the key first
  abbrev pub listed_targets : Option Target → Option Target → List Target
  listed_targets None None = []
  listed_targets (Some key) None = key ∷ []
  listed_targets None (Some value) = value ∷ []
  listed_targets (Some key) (Some value) = key ∷ value ∷ []

  abbrev pub sets_turn : RangeTargets → Turns → Bool
  sets_turn ranging.None turns = true
  sets_turn (ranging.Define key value) turns =
      defines_one key (Some turns.key) && defines_one value turns.value
  sets_turn (ranging.Assign key value parts) turns =
      are_part_of (all_types turns) parts.items && take_values (listed_targets key value) (part_types parts.items)

  -- no value is asked for; the blank identifier takes none
  abbrev pub lacks_value : RangeTargets → Bool
  lacks_value ranging.None = true
  lacks_value (ranging.Define key value) = is_none value
  lacks_value (ranging.Assign key (Some (target.Place place)) parts) = false
  lacks_value (ranging.Assign key value parts) = true

  -- an operand that is not evaluated has no values
  abbrev pub suits : RangeOver → RangeTargets → Bool
  suits (over.Constant len) targets = lacks_value targets
  suits _ targets = true

  abbrev pub ranges : RangeOver → Seen → RangeTargets → Bool
  ranges over operand targets =
      operand.fits
      && (suits over targets && option_map_or (λ turns. sets_turn targets turns) (turns_of over operand.of) false)
