-- Composite literals: what they are of, and their nodes. Go specification, "Composite literals".
use Rattle.std.specs.Prelude.{◌≡◌, Bool, true, false, List, [], ◌∷◌, Option, Some, None}
use Rattle.std.specs.Global.{Box}
use Rattle.std.specs.List.{flat_map}
use Rattle.go_base.specs.declared.ids.TypeId.{TypeId}
use Rattle.go_base.specs.declared.place.Pos.{Pos}
use Rattle.go_base.specs.declared.rule.Rule.TheVariants.{BadCompositeLiteral}
use Rattle.go_tree.specs.declared.exprs.Elements.{Elements}
use Rattle.go_tree.specs.declared.exprs.ExprKind.TheVariants.{AddressOf, CompositeOf}
use Rattle.go_tree.specs.declared.exprs.TypedExpr.{TypedExpr}
use Rattle.go_type.specs.declared.term.TypeTerm.{TypeTerm}
use Rattle.go_type.specs.declared.term.TypeTerm.TheVariants.{Array, Map, Pointer, Slice, Struct}
use Rattle.go_type.specs.Assignable.{underlying_term_of}
use Rattle.go_type.specs.Table.{Table}
use Rattle.typed_parts.specs.Adapting.{IsMade}
use Rattle.typed_parts.specs.Judged.{Broken, IsFine, Judged, breaks, fine, unsound}
use Rattle.typed_parts.specs.Limits.{Basis}
use Rattle.typed_parts.specs.Meanings.{one_value}
use Rattle.typed_parts.specs.Nodes.{node}
use Rattle.typed_parts.specs.Shapes.{pointed}
use Rattle.typed_parts.specs.Turning.{IsHeld, IsThenSoundly, Keeps}
use Rattle.typed_literals.specs.declared.composing.Entry.{Entry}
use Rattle.typed_literals.specs.declared.composing.Hint.{Hint}
use Rattle.typed_literals.specs.declared.composing.Hint.TheVariants as hint
use Rattle.typed_literals.specs.declared.composing.Literal.{Literal}
use Rattle.typed_literals.specs.declared.composing.LiteralKind.{LiteralKind}
use Rattle.typed_literals.specs.declared.composing.LiteralKind.TheVariants as kind

-- ---- what a literal is of

abbrev pub literal_term : Option TypeTerm → Option LiteralKind
literal_term (Some (Struct fields)) = Some kind.Struct
literal_term (Some (Array len elem)) = Some (kind.Array len elem)
literal_term (Some (Slice elem)) = Some (kind.Slice elem)
literal_term (Some (Map key elem)) = Some (kind.Map key elem)
literal_term _ = None

-- "The LiteralType's core type T must be a struct, array, slice, or map type"
abbrev pub literal_kind : Table → TypeId → Option LiteralKind
literal_kind types of = literal_term (underlying_term_of types of)

abbrev pub literal_as : Pos → Pos → TypeId → Option TypeId → LiteralKind → Literal
literal_as at brace of pointer kind = record { at = at; brace = brace; of = of; kind = kind; pointer = pointer }

abbrev pub literal_at : Pos → Pos → TypeId → Option TypeId → Option LiteralKind → Judged Literal
literal_at at brace of pointer (Some kind) = fine (literal_as at brace of pointer kind)
literal_at at brace of pointer None = breaks at BadCompositeLiteral

-- a literal whose type is written: its place is that of the type
abbrev pub written : Table → Pos → Pos → Option TypeId → Judged Literal
written types at brace (Some of) = literal_at at brace of None (literal_kind types of)
written types at brace None = unsound

-- "The notation `...` specifies an array length equal to the maximum element index plus one", so the type comes later
abbrev pub open_array : Pos → Pos → TypeId → Literal
open_array at brace elem = literal_as at brace elem None (kind.OpenArray elem)

-- "elements or keys that are addresses of composite literals may elide the &T when the element or key type is *T"
abbrev pub elided_as : Table → Pos → TypeId → Option TypeId → Judged Literal
elided_as types brace of (Some base) = literal_at brace brace base (Some of) (literal_kind types base)
elided_as types brace of None = literal_at brace brace of None (literal_kind types of)

-- "elements or map keys that are themselves composite literals may elide the respective literal type", within a literal
-- of an array, slice or map type alone; the place is that of the `{`
abbrev pub elided : Table → Pos → Hint → Judged Literal
elided types brace (hint.Of of) = elided_as types brace of (pointed types of)
elided types brace hint.Nothing = breaks brace BadCompositeLiteral
elided types brace hint.Unsound = unsound

-- what the values in a literal may leave out: the type of its elements
abbrev pub value_hint : LiteralKind → Hint
value_hint kind.Struct = hint.Nothing
value_hint (kind.Array len elem) = hint.Of elem
value_hint (kind.OpenArray elem) = hint.Of elem
value_hint (kind.Slice elem) = hint.Of elem
value_hint (kind.Map key elem) = hint.Of elem

-- and what the keys may: the type of the keys of a map
abbrev pub key_hint : LiteralKind → Hint
key_hint (kind.Map key elem) = hint.Of key
key_hint _ = hint.Nothing

-- ---- the node

abbrev pub composite : Pos → TypeId → Elements → TypedExpr
composite brace of elements = node brace of (CompositeOf elements)

-- the address of a literal, as a value of the type that was left out
abbrev pub IsAddressAs : Table → Pos → TypedExpr → TypeId → TypeId → TypedExpr → Type 0
IsAddressAs types brace literal pointer to made =
    (b : Box TypedExpr) × ((b.value ≡ literal) × IsMade types (node brace pointer (AddressOf b)) to made)

abbrev pub IsNodeFor : Option TypeId → Pos → TypedExpr → Basis → Basis → Judged TypedExpr → Type 0
IsNodeFor None brace literal before after result = (after ≡ before) × (result ≡ fine literal)
IsNodeFor (Some to) brace literal before after result =
    IsThenSoundly (IsHeld (Pointer literal.of))
    (λ (pointer : TypeId). Keeps (λ types. IsFine (IsAddressAs types brace literal pointer to))) before after result

-- the node of a literal of a type, at its `{`; where its type was left out and is that of a pointer, its address
abbrev pub IsNode : Literal → TypeId → Elements → Basis → Basis → Judged TypedExpr → Type 0
IsNode literal of elements before after result =
    IsNodeFor literal.pointer literal.brace (composite literal.brace of elements) before after result

-- ---- elements

abbrev pub broken_where : Pos → Bool → List Broken
broken_where at true = record { at = at; rule = BadCompositeLiteral } ∷ []
broken_where at false = []

-- what is broken in the values, which are asked where the type is unsound too
abbrev pub values_broken : Table → List Entry → List Broken
values_broken types elements = flat_map (λ (element : Entry). (one_value types element.value).broken) elements

-- the values alone
abbrev pub values_alone : Table → List Entry → Judged TypedExpr
values_alone types elements = record { sound = None; broken = values_broken types elements }
