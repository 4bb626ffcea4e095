-- Which types the arguments of built-in functions have. Go specification, "Built-in functions".
use Rattle.std.specs.Prelude.{ℕ, ◌==◌, Bool, true, false, ◌&&◌, ◌||◌, List, [], ◌∷◌, length, Option, Some, None}
use Rattle.std.specs.Prelude.{is_none}
use Rattle.std.specs.List.{list_all}
use Rattle.go_base.specs.declared.ids.TypeId.{TypeId}
use Rattle.go_type.specs.Same.{same_id}
use Rattle.go_type.specs.Table.{basic_id}
use Rattle.go_type.specs.declared.operators.Builtin.{Builtin}
use Rattle.go_type.specs.declared.operators.Builtin.TheVariants as builtin
use Rattle.go_type.specs.declared.term.Basic.TheVariants as basic
use Rattle.go_type.specs.declared.term.TypeTerm.{TypeTerm}
use Rattle.go_type.specs.declared.term.TypeTerm.TheVariants.{Slice, Array, Map, Chan, Pointer, Basic as Plain}
use Rattle.type_shapes.specs.Shapes.{is_any, is_byte, is_pointer_to, may_send}
use Rattle.typed_trees.specs.Around.{Around, term, under, has_integers, has_truths, is_ordered}
use Rattle.typed_trees.specs.Nodes.{Seen, is_tuple}
use Rattle.type_shapes.specs.Shapes.{parts_of}

module _ (around : Around) where
  -- a call that gives nothing
  abbrev pub gives_nothing : TypeId → Bool
  gives_nothing of = is_tuple [] (parts_of (term around of))

  abbrev pub is_int : TypeId → Bool
  is_int of = same_id of (basic_id basic.Int)

  -- ---- "Appending to and copying slices"

  -- a string is a run of bytes
  abbrev pub is_run_of : Option TypeTerm → TypeId → Bool
  is_run_of (Some (Slice other)) elem = same_id other elem
  is_run_of (Some (Plain basic.Text)) elem = is_byte (under around elem)
  is_run_of _ elem = false

  -- items, or one operand that stands for its elements
  abbrev pub appends_all : TypeId → List Seen → Bool
  appends_all elem (more ∷ []) = is_run_of (under around more.of) elem
  appends_all elem _ = false

  abbrev pub appends_to : Option TypeTerm → Bool → List Seen → Bool
  appends_to (Some (Slice elem)) true items = appends_all elem items
  appends_to (Some (Slice elem)) false items = list_all (λ item. same_id item.of elem) items
  appends_to _ spread items = false

  abbrev pub copies : Option TypeTerm → TypeId → Bool
  copies (Some (Slice elem)) from = is_run_of (under around from) elem
  copies _ from = false

  -- ---- "Length and capacity"

  abbrev pub is_array : Option TypeTerm → Bool
  is_array (Some (Array len elem)) = true
  is_array _ = false

  abbrev pub has_capacity : Option TypeTerm → Bool
  has_capacity (Some (Array len elem)) = true
  has_capacity (Some (Slice elem)) = true
  has_capacity (Some (Chan way elem)) = true
  has_capacity (Some (Pointer base)) = is_array (under around base)
  has_capacity _ = false

  abbrev pub has_length : Option TypeTerm → Bool
  has_length (Some (Plain basic.Text)) = true
  has_length (Some (Map key elem)) = true
  has_length it = has_capacity it

  -- ---- the others

  -- "Clear"
  abbrev pub is_cleared : Option TypeTerm → Bool
  is_cleared (Some (Map key elem)) = true
  is_cleared (Some (Slice elem)) = true
  is_cleared _ = false

  -- "Close"
  abbrev pub is_closed : Option TypeTerm → Bool
  is_closed (Some (Chan way elem)) = may_send way
  is_closed _ = false

  -- "Deletion of map elements"
  abbrev pub deletes : Option TypeTerm → TypeId → Bool
  deletes (Some (Map key elem)) by = same_id by key
  deletes _ by = false

  -- "Making slices, maps and channels": a slice takes a length and a capacity, the others one size
  abbrev pub takes_sizes : Option TypeTerm → ℕ → Bool
  takes_sizes (Some (Slice elem)) count = (count == 1) || (count == 2)
  takes_sizes (Some (Map key elem)) count = (count == 0) || (count == 1)
  takes_sizes (Some (Chan way elem)) count = (count == 0) || (count == 1)
  takes_sizes _ count = false

  abbrev pub makes : Option TypeId → List Seen → TypeId → Bool
  makes None sizes of = false
  makes (Some form) sizes of =
      same_id form of
      && (takes_sizes (under around of) (length sizes) && list_all (λ it. has_integers around it.of) sizes)

  -- "Allocation"
  abbrev pub allocates : Option TypeId → TypeId → Bool
  allocates None of = false
  allocates (Some base) of = is_pointer_to (term around of) base

  -- "Bootstrapping"
  abbrev pub is_printed : Seen → Bool
  is_printed it = has_truths around it.of || is_ordered around it.of

  abbrev pub are_of : List Seen → TypeId → Bool
  are_of items of = list_all (λ it. same_id it.of of) items

  -- the arguments of a built-in function that is given no type
  abbrev pub takes : Builtin → Bool → List Seen → TypeId → Bool
  takes builtin.Append spread (slice ∷ items) of =
      same_id slice.of of && appends_to (under around of) spread items
  takes builtin.Cap false (one ∷ []) of = has_capacity (under around one.of) && is_int of
  takes builtin.Len false (one ∷ []) of = has_length (under around one.of) && is_int of
  takes builtin.Clear false (one ∷ []) of = is_cleared (under around one.of) && gives_nothing of
  takes builtin.Close false (one ∷ []) of = is_closed (under around one.of) && gives_nothing of
  takes builtin.Copy false (to ∷ from ∷ []) of = copies (under around to.of) from.of && is_int of
  takes builtin.Delete false (table ∷ key ∷ []) of = deletes (under around table.of) key.of && gives_nothing of
  takes builtin.Max false (one ∷ others) of = is_ordered around of && are_of (one ∷ others) of
  takes builtin.Min false (one ∷ others) of = is_ordered around of && are_of (one ∷ others) of
  takes builtin.Panic false (one ∷ []) of = is_any (term around one.of) && gives_nothing of
  takes builtin.Print false items of = list_all is_printed items && gives_nothing of
  takes builtin.Println false items of = list_all is_printed items && gives_nothing of
  takes builtin.Recover false [] of = is_any (term around of)
  takes _ spread items of = false

  abbrev pub fits_built_in : Builtin → Option TypeId → Bool → List Seen → TypeId → Bool
  fits_built_in builtin.Make form false sizes of = makes form sizes of
  fits_built_in builtin.New form false [] of = allocates form of
  fits_built_in it form spread items of = is_none form && takes it spread items of
