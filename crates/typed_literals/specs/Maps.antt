-- Literals of maps. Go specification, "Composite literals".
use Rattle.std.specs.Prelude.{◌≡◌, ℕ, ℤ, pos, Bool, true, false, ◌&&◌, not, if◌then◌else◌, List, [], ◌∷◌, ◌++◌}
use Rattle.std.specs.Prelude.{Option, Some, None, Result, Ok, Err}
use Rattle.std.specs.Global.{Vec}
use Rattle.std.specs.Ordering.{int_eq}
use Rattle.std.specs.List.{list_any}
use Rattle.std.specs.Option.{option_and_then}
use Rattle.std.specs.Str.{bytes_eq}
use Rattle.indexmap.specs.IndexSet.{contains}
use Rattle.go_base.specs.declared.ids.TypeId.{TypeId}
use Rattle.go_base.specs.declared.place.Pos.{Pos}
use Rattle.go_base.specs.declared.rule.Rule.TheVariants.{BadCompositeLiteral}
use Rattle.go_tree.specs.declared.exprs.Callee.TheOpen as layers
use Rattle.go_tree.specs.declared.exprs.Callee.TheViews.{out-ExprKind}
use Rattle.go_tree.specs.declared.exprs.Callee.{Callee}
use Rattle.go_tree.specs.declared.exprs.Elements.{Elements}
use Rattle.go_tree.specs.declared.exprs.Elements.TheVariants.{Entries}
use Rattle.go_tree.specs.declared.exprs.EntryInit.{EntryInit}
use Rattle.go_tree.specs.declared.exprs.ExprKind.{ExprKind}
use Rattle.go_tree.specs.declared.exprs.ExprKind.TheVariants.{ConstOf}
use Rattle.go_tree.specs.declared.exprs.FieldInit.{FieldInit}
use Rattle.go_tree.specs.declared.exprs.ItemInit.{ItemInit}
use Rattle.go_tree.specs.declared.exprs.TypedExpr.{TypedExpr}
use Rattle.go_tree.specs.declared.exprs.Values.{Values}
use Rattle.go_type.specs.declared.constants.Const.{Const}
use Rattle.go_type.specs.declared.constants.Const.TheVariants as constant
use Rattle.go_type.specs.Same.{same_id}
use Rattle.go_type.specs.Table.{Table}
use Rattle.typed_parts.specs.declared.meaning.Given.{Given}
use Rattle.typed_parts.specs.declared.meaning.Seen.{Seen}
use Rattle.typed_parts.specs.Adapting.{IsAssigned}
use Rattle.typed_parts.specs.Joining.{only}
use Rattle.typed_parts.specs.Judged.{Exactly, IsThen, Judged, breaks}
use Rattle.typed_parts.specs.Limits.{Basis}
use Rattle.typed_parts.specs.Meanings.{is_constant, one_value}
use Rattle.typed_parts.specs.Turning.{Asks, IsThenSoundly, Keeps}
use Rattle.typed_literals.specs.declared.composing.Entry.{Entry}
use Rattle.typed_literals.specs.declared.composing.Literal.{Literal}
use Rattle.typed_literals.specs.declared.composing.LiteralKind.{LiteralKind}
use Rattle.typed_literals.specs.declared.composing.LiteralKind.TheVariants as kind
use Rattle.typed_literals.specs.declared.maps.Keys.{Keys}
use Rattle.typed_literals.specs.declared.maps.MapLiteral.{MapLiteral}
use Rattle.typed_literals.specs.declared.maps.NumberKey.{NumberKey}
use Rattle.typed_literals.specs.declared.maps.TextKey.{TextKey}
use Rattle.typed_literals.specs.contracts.maps.NumberKeyPartialEq.TheImpl as number_key
use Rattle.typed_literals.specs.contracts.maps.TextKeyPartialEq.TheImpl as text_key
use Rattle.typed_literals.specs.Composing.{IsNode, broken_where, values_alone}
use Rattle.typed_literals.specs.InOrder.{AreInOrder}

-- ---- constant keys

abbrev pub same_number : NumberKey → NumberKey → Bool
same_number = number_key.ghosts.eq

abbrev pub same_text : TextKey → TextKey → Bool
same_text = text_key.ghosts.eq

-- a constant of a type
abbrev pub TypedConst : Type 0
TypedConst = TypeId × Const

abbrev pub truth_number : Bool → ℤ
truth_number true = pos 1
truth_number false = pos 0

-- constants of one type are the same where their numbers or their texts are
abbrev pub plain : Const → Const
plain (constant.Int number) = constant.Int number
plain (constant.Rune number) = constant.Int number
plain (constant.Truth truth) = constant.Int (truth_number truth)
plain (constant.Text bytes) = constant.Text bytes

abbrev pub constant_of : TypeId → ExprKind → Option TypedConst
constant_of of (ConstOf value) = Some (of, plain value)
constant_of of _ = None

abbrev pub layer_constant : TypeId
    → layers.ExprKind-F Callee Elements ExprKind Values EntryInit FieldInit ItemInit TypedExpr → Option TypedConst
layer_constant of (layers.ExprKind-F.ConstOf value) = Some (of, plain value)
layer_constant of (layers.ExprKind-F.ToInterface operand) = constant_of operand.value.of operand.value.kind
layer_constant of _ = None

-- the constant that a key is, as it is or in an interface
abbrev pub constant_in : TypedExpr → Option TypedConst
constant_in key = layer_constant key.of (out-ExprKind key.kind)

abbrev pub is_number : ℤ → Const → Bool
is_number number (constant.Int other) = int_eq number other
is_number number _ = false

abbrev pub is_text : List ℕ → Const → Bool
is_text bytes (constant.Text other) = bytes_eq bytes other
is_text bytes _ = false

abbrev pub same_value : Const → Const → Bool
same_value (constant.Int number) other = is_number number other
same_value (constant.Text bytes) other = is_text bytes other
same_value _ other = false

abbrev pub same_const : TypedConst → TypedConst → Bool
same_const (of, value) (other_of, other) = same_id of other_of && same_value value other

abbrev pub is_const : TypedConst → Option TypedConst → Bool
is_const key (Some other) = same_const other key
is_const key None = false

-- a key before is the same constant
abbrev pub is_again : List (Option TypedConst) → Option TypedConst → Bool
is_again before (Some key) = list_any (is_const key) before
is_again before None = false

abbrev pub known_in : Option TypedExpr → Option TypedConst
known_in key = option_and_then constant_in key

-- the constants that keys before are, as they are kept
pub record AreKeys (before : List (Option TypedConst)) (keys : Keys) : Type 0 where
  pub numbers : (of : TypeId) (number : ℤ)
      → contains same_number keys.numbers (record { of = of; number = number })
      ≡ is_again before (Some (of, constant.Int number))
  pub texts : (of : TypeId) (bytes : List ℕ)
      → contains same_text keys.texts (record { of = of; text = bytes })
      ≡ is_again before (Some (of, constant.Text bytes))

-- one more key is kept; told is whether none before is the same constant
pub record IsAdded (before : List (Option TypedConst)) (known : Option TypedConst) (keys : Keys) (told : Bool)
    : Type 0 where
  pub new : told ≡ not (is_again before known)
  pub kept : AreKeys (before ++ known ∷ []) keys

abbrev pub Adds : {E : Type 0} → List (Option TypedConst) → Option TypedConst → Keys → Result Bool E → Type 0
Adds before known keys (Ok told) = IsAdded before known keys told
Adds before known keys (Err error) = Unit {0}

-- ---- entries

-- a key or a value is one value, and is assigned to the type of the keys or of the elements
abbrev pub IsPart : Table → Seen → TypeId → Judged TypedExpr → Type 0
IsPart types part to result = IsThen (Exactly (one_value types part)) (λ (x : Given). IsAssigned types x to) result

-- "For map literals, all elements must have a key"
abbrev pub IsKey : Table → Pos → Option Seen → TypeId → Judged TypedExpr → Type 0
IsKey types at (Some part) of result = IsPart types part of result
IsKey types at None of result = result ≡ breaks at BadCompositeLiteral

-- a key that is written as a constant is known by the constant that it becomes
abbrev pub known_const : Option Seen → Option TypedExpr → Option TypedConst
known_const (Some part) key = if is_constant part.meaning then known_in key else None
known_const None key = None

-- "It is an error to specify multiple elements with the same .. constant key value"
pub record IsNewKey (types : Table) (at : Pos) (part : Option Seen) (of : TypeId) (before : List (Option TypedConst))
    (known : Option TypedConst) (result : Judged TypedExpr) : Type 0 where
  pub key : Judged TypedExpr
  pub is : IsKey types at part of key
  pub knows : known ≡ known_const part key.sound
  pub whole : result ≡ record {
    sound = only key.sound (not (is_again before known));
    broken = key.broken ++ broken_where at (is_again before known);
  }

abbrev pub entry_of : Option TypedExpr → Option TypedExpr → Option EntryInit
entry_of (Some key) (Some value) = Some (record { key = key; value = value })
entry_of (Some key) None = None
entry_of None value = None

pub record IsEntry (types : Table) (key_type elem_type : TypeId) (before : List (Option TypedConst)) (element : Entry)
    (known : Option TypedConst) (result : Judged EntryInit) : Type 0 where
  pub key : Judged TypedExpr
  pub value : Judged TypedExpr
  pub is_key : IsNewKey types element.at element.key key_type before known key
  pub is_value : IsPart types element.value elem_type value
  pub whole : result ≡ record { sound = entry_of key.sound value.sound; broken = key.broken ++ value.broken }

abbrev pub AreEntries : TypeId → TypeId → List Entry → Table → Judged (List EntryInit) → Type 0
AreEntries key elem elements types result =
    (known : List (Option TypedConst)) × AreInOrder (IsEntry types key elem) elements known result

-- ---- the literal

abbrev pub IsEntriesNode : Literal → List EntryInit → Basis → Basis → Judged TypedExpr → Type 0
IsEntriesNode literal entries before after result =
    (v : Vec EntryInit) × ((v.items ≡ entries) × IsNode literal literal.of (Entries v) before after result)

abbrev pub IsMap : MapLiteral → List Entry → Basis → Basis → Judged TypedExpr → Type 0
IsMap of elements before after result =
    IsThenSoundly (Keeps (AreEntries of.key of.elem elements)) (IsEntriesNode of.literal) before after result

abbrev pub map_if : LiteralKind → Literal → Option MapLiteral
map_if (kind.Map key elem) literal = Some (record { literal = literal; key = key; elem = elem })
map_if _ literal = None

abbrev pub map_of : Option Literal → Option MapLiteral
map_of (Some literal) = map_if literal.kind literal
map_of None = None

-- where the type is unsound, no key is asked
abbrev pub IsMapWhere : Option MapLiteral → List Entry → Basis → Basis → Judged TypedExpr → Type 0
IsMapWhere (Some of) elements before after result = IsMap of elements before after result
IsMapWhere None elements before after result = Asks (λ types. values_alone types elements) before after result

abbrev pub IsMapLiteral : Option Literal → List Entry → Basis → Basis → Judged TypedExpr → Type 0
IsMapLiteral literal elements before after result = IsMapWhere (map_of literal) elements before after result
