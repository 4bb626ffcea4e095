-- What is asked of lists of expressions.
use Rattle.std.proofs.Common.{◌≡◌, refl, ap, ◌∙◌, List, [], ◌∷◌, map, length, suc, Bool, true, false, ◌&&◌, ◌||◌}
use Rattle.std.specs.Cmp.Lexicographic.{pointwise}
use Rattle.std.specs.List.{list_all}
use Rattle.go_base.specs.declared.ids.TypeId.{TypeId}
use Rattle.go_tree.specs.declared.exprs.TypedExpr.{TypedExpr}
use Rattle.go_tree.specs.declared.exprs.Values.{Values}
use Rattle.go_type.specs.Same.{same_id, same_ids}
use Rattle.go_type.specs.declared.operators.BinaryOp.{BinaryOp}
use Rattle.go_type.specs.declared.operators.BinaryOp.TheVariants as binary
use Rattle.go_type.specs.declared.operators.CompareOp.{CompareOp}
use Rattle.go_type.specs.declared.operators.CompareOp.TheVariants as comparison
use Rattle.typed_trees.specs.Around.{Around, has_integers, has_truths}
use Rattle.typed_trees.specs.BuiltIns.{is_printed}
use Rattle.typed_trees.specs.Expressions.{seen_values}
use Rattle.std.specs.Prelude.{ℕ, Some, ◌==◌, if◌then◌else◌}
use Rattle.go_base.specs.declared.ids.NameId.{NameId}
use Rattle.go_type.specs.declared.term.Basic.{Basic}
use Rattle.go_type.specs.declared.term.Basic.TheVariants as basic
use Rattle.go_type.specs.declared.term.MethodType.{MethodType}
use Rattle.std.specs.Option.{option_map_or}
use Rattle.std.specs.Prelude.{Option}
use Rattle.go_type.specs.declared.term.TypeTerm.{TypeTerm}
use Rattle.go_type.specs.declared.term.TypeTerm.TheVariants.{Basic as Plain, Slice, Interface}
use Rattle.type_shapes.specs.Shapes.{is_slice}
use Rattle.typed_trees.specs.Nodes as node
use Rattle.expr_typing.specs.Parts as part
use Rattle.typed_trees.specs.Nodes.{Seen, fits_comparison, is_nothing}
use Rattle.expr_typing.specs.Parts.{is_integer_type, is_printed_type, compares}
use Rattle.expr_typing.specs.Trees.{value_exprs, has_type, typed_as}
use Rattle.expr_typing.proofs.Layers.{values_types}

-- ---- the types of values

pairs_map : (xs : List TypedExpr) (types : List TypeId) → same_ids (map (λ x. x.of) xs) types ≡ pointwise has_type xs types
pairs_map [] [] = refl
pairs_map [] (of ∷ types) = refl
pairs_map (x ∷ xs) [] = refl
pairs_map (x ∷ xs) (of ∷ types) = ap (λ (b : Bool). same_id x.of of && b) (pairs_map xs types)

pub types_same : (a : Around) (values : Values) (types : List TypeId) → same_ids (seen_values a values).types types ≡ pointwise has_type (value_exprs values) types
types_same a values types = ap (λ (l : List TypeId). same_ids l types) (values_types a values) ∙ pairs_map (value_exprs values) types

pub ruleset value_types = (types_same, values_types)

-- ---- arguments of built-in functions

pub all_of_type : (xs : List TypedExpr) (of : TypeId) → list_all (λ (it : Seen). same_id it.of of) (map typed_as xs) ≡ list_all (λ x. same_id x.of of) xs
all_of_type [] of = refl
all_of_type (x ∷ xs) of = ap (λ (b : Bool). same_id x.of of && b) (all_of_type xs of)

pub all_integers : (a : Around) (xs : List TypedExpr) → list_all (λ (it : Seen). has_integers a it.of) (map typed_as xs) ≡ list_all (λ x. is_integer_type a.program.types x.of) xs
all_integers a [] = refl
all_integers a (x ∷ xs) = ap (λ (b : Bool). is_integer_type a.program.types x.of && b) (all_integers a xs)

pub all_printed : (a : Around) (xs : List TypedExpr) → list_all (is_printed a) (map typed_as xs) ≡ list_all (λ x. is_printed_type a.program.types x.of) xs
all_printed a [] = refl
all_printed a (x ∷ xs) = ap (λ (b : Bool). is_printed_type a.program.types x.of && b) (all_printed a xs)

pub count_map : (xs : List TypedExpr) → length (map typed_as xs) ≡ length xs
count_map [] = refl
count_map (x ∷ xs) = ap suc (count_map xs)

pub ruleset argument_rules = (all_of_type, all_integers, all_printed, count_map)

-- ---- comparisons

pub comparison_is : (a : Around) (op : CompareOp) (left right : Seen) (of : TypeId) → fits_comparison a op left right of
    ≡ same_id left.of right.of && (compares a op left.of (is_nothing left.form || is_nothing right.form) && has_truths a of)
comparison_is a comparison.Equal left right of = refl
comparison_is a comparison.NotEqual left right of = refl
comparison_is a comparison.Less left right of = refl
comparison_is a comparison.LessEqual left right of = refl
comparison_is a comparison.Greater left right of = refl
comparison_is a comparison.GreaterEqual left right of = refl

pub ruleset comparison_rules = (comparison_is)

-- ---- methods of interfaces

pub names_same : (a : Around) (name : NameId) (owner : ℕ) (methods : List MethodType) → node.method_named a name owner methods ≡ part.method_named name owner methods
names_same a name owner [] = refl
names_same a name owner (first ∷ others) =
    ap (λ o. if (first.name.number == name.number) && (first.«package» == owner) then Some first.of else o) (names_same a name owner others)

pub interface_same : (a : Around) (name : NameId) (owner : ℕ) (t : Option TypeTerm) → node.interface_method a name owner t ≡ part.interface_method name owner t
interface_same a name owner (Some (Interface methods)) = names_same a name owner methods
interface_same a name owner _ = refl

pub ruleset method_names = (interface_same)

-- ---- constants

pub typed_same : (a : Around) (kind : Basic) → node.is_typed_basic a (Some (Plain kind)) ≡ part.is_typed kind
typed_same a basic.UntypedBool = refl
typed_same a basic.UntypedInt = refl
typed_same a basic.UntypedRune = refl
typed_same a basic.UntypedText = refl
typed_same a basic.UntypedNil = refl
typed_same a _ = refl

-- ---- slices

pub slice_same : (a : Around) (t : Option TypeTerm) → node.slice_elem a t ≡ part.slice_type t
slice_same a (Some (Slice elem)) = refl
slice_same a _ = refl

pub slice_test : (a : Around) (t : Option TypeTerm) → option_map_or (λ (elem : TypeId). true) (node.slice_elem a t) false ≡ is_slice t
slice_test a (Some (Slice elem)) = refl
slice_test a _ = refl

pub ruleset slice_rules = (slice_same, slice_test)

-- ---- operators

pub join_same : (a : Around) (op : BinaryOp) → node.is_join a op ≡ part.is_join op
join_same a binary.Add = refl
join_same a _ = refl

pub ruleset join_rules = (join_same)
