-- The built-in functions `max` and `min`. Go specification, "Min and max".
use Rattle.std.specs.Prelude.{◌≡◌, ◌+◌, ℕ, ◌&&◌, Bool, true, false, if◌then◌else◌, List, [], ◌∷◌, ◌++◌, length, take}
use Rattle.std.specs.Prelude.{is_some, Option, Some, None}
use Rattle.std.specs.Global.{Vec}
use Rattle.std.specs.List.{flat_map, list_all}
use Rattle.std.specs.Option.{option_zip}
use Rattle.std.specs.Ordering.{is_ge, is_le}
use Rattle.go_base.specs.declared.ids.TypeId.{TypeId}
use Rattle.go_base.specs.declared.place.Pos.{Pos}
use Rattle.go_base.specs.declared.rule.Rule.TheVariants.{BadBuiltInCall}
use Rattle.go_rules.specs.declared.matching.Matched.{Matched}
use Rattle.go_rules.specs.declared.matching.Matched.TheVariants as matched
use Rattle.go_rules.specs.declared.untyped.Untyped.{Untyped}
use Rattle.go_rules.specs.Matching.{matched_types}
use Rattle.go_rules.specs.Operands.{class_at, ordered}
use Rattle.go_rules.specs.Untyped.{basic_of, kind_at}
use Rattle.go_tree.specs.declared.exprs.ExprKind.TheVariants.{BuiltinOf, ConstOf}
use Rattle.go_tree.specs.declared.exprs.TypedExpr.{TypedExpr}
use Rattle.go_type.specs.declared.constants.Const.{Const}
use Rattle.go_type.specs.declared.operators.Builtin.{Builtin}
use Rattle.go_type.specs.declared.operators.Builtin.TheVariants as builtin
use Rattle.go_type.specs.Identity.{Identical}
use Rattle.go_type.specs.Table.{Table, basic_id}
use Rattle.go_type.specs.Values.{order_of}
use Rattle.typed_parts.specs.declared.meaning.Given.{Given}
use Rattle.typed_parts.specs.Joining.{only}
use Rattle.typed_parts.specs.Judged.{Broken, IsFine, IsRest, Judged, breaks, fine}
use Rattle.typed_parts.specs.Limits.{Basis}
use Rattle.typed_parts.specs.Nodes.{node}
use Rattle.typed_parts.specs.Numbers.{constant_in, known}
use Rattle.typed_parts.specs.Retyping.{IsGiven, rekinded}
use Rattle.typed_parts.specs.Turning.{Asks, IsEach, IsFollowed, IsThenSoundly, Keeps, Soundly}
use Rattle.typed_built_ins.specs.declared.built_ins.BuiltInCall.{BuiltInCall}
use Rattle.typed_built_ins.specs.declared.extremes.Common.{Common}

-- ---- "a fixed number of arguments of ordered types": each by itself

abbrev pub is_taken : Table → Option Given → Bool
is_taken types None = true
is_taken types (Some x) = ordered (class_at types x.expr.of)

abbrev pub taken_broken : Table → Option Given → List Broken
taken_broken types None = []
taken_broken types (Some x) =
    if ordered (class_at types x.expr.of) then [] else record { at = x.at; rule = BadBuiltInCall } ∷ []

abbrev pub are_taken : Table → List (Option Given) → Bool
are_taken types values = list_all (is_taken types) values

abbrev pub each_broken : Table → List (Option Given) → List Broken
each_broken types values = flat_map (taken_broken types) values

abbrev pub taken_asked : Table → List (Option Given) → Judged (Unit {0})
taken_asked types values =
    record { sound = only (Some tt) (are_taken types values); broken = each_broken types values }

-- ---- the type or kind that they have in common

-- of two operands: typed ones are of one type, an untyped one takes the type of the other, and two become of one kind
pub data IsJoined (types : Table) (x y : TypeId) : Option TypeId → Type 0 where
  alike : matched_types types x y ≡ Some matched.Typed → Identical types x y → IsJoined types x y (Some x)
  differ : matched_types types x y ≡ Some matched.Typed → (Identical types x y → ⊥) → IsJoined types x y None
  kinds : (kind : Untyped) → matched_types types x y ≡ Some (matched.Untyped kind)
      → IsJoined types x y (Some (basic_id (basic_of kind)))
  first : matched_types types x y ≡ Some matched.FirstConverted → IsJoined types x y (Some y)
  second : matched_types types x y ≡ Some matched.SecondConverted → IsJoined types x y (Some x)
  mismatch : matched_types types x y ≡ None → IsJoined types x y None

-- of what is in common so far, and one more; the first has its own
abbrev pub IsJoinedWith : Table → Option TypeId → TypeId → Option TypeId → Type 0
IsJoinedWith types None of result = result ≡ Some of
IsJoinedWith types (Some common) of result = IsJoined types common of result

-- of several, from the left
pub data HaveCommon (types : Table) : List (Option Given) → Option TypeId → Type 0 where
  none : HaveCommon types [] None
  more : (xs : List (Option Given)) (x : Given) (of : Option TypeId) (joined : TypeId) → HaveCommon types xs of
      → IsJoinedWith types of x.expr.of (Some joined) → HaveCommon types (xs ++ Some x ∷ []) (Some joined)

abbrev pub first_of : List (Option Given) → Option TypeId → Bool → Common
first_of xs of whole = record { of = of; count = length xs; whole = whole }

-- of all of them, or of those before the first that is unsound, or that does not fit: that one breaks the rule
pub data AreMatched (types : Table) : List (Option Given) → Judged Common → Type 0 where
  all : (xs : List (Option Given)) (of : Option TypeId) → HaveCommon types xs of
      → AreMatched types xs (fine (first_of xs of true))
  to_unsound : (xs rest : List (Option Given)) (of : Option TypeId) → HaveCommon types xs of
      → AreMatched types (xs ++ None ∷ rest) (fine (first_of xs of false))
  to_other : (xs rest : List (Option Given)) (x : Given) (of : Option TypeId) → HaveCommon types xs of
      → IsJoinedWith types of x.expr.of None
      → AreMatched types (xs ++ Some x ∷ rest)
      (record { sound = Some (first_of xs of false); broken = record { at = x.at; rule = BadBuiltInCall } ∷ [] })

abbrev pub ended : Common → Common
ended common = record { of = common.of; count = common.count; whole = false }

abbrev pub one_more : Common → TypeId → Common
one_more common of = record { of = Some of; count = common.count + 1; whole = true }

-- one more argument behind those that are looked at
pub data IsOneMore (types : Table) (common : Common) : Option Given → Judged Common → Type 0 where
  past : (x : Option Given) → common.whole ≡ false → IsOneMore types common x (fine common)
  unsound : common.whole ≡ true → IsOneMore types common None (fine (ended common))
  joins : (x : Given) (joined : TypeId) → common.whole ≡ true → IsJoinedWith types common.of x.expr.of (Some joined)
      → IsOneMore types common (Some x) (fine (one_more common joined))
  other : (x : Given) → common.whole ≡ true → IsJoinedWith types common.of x.expr.of None
      → IsOneMore types common (Some x)
      (record { sound = Some (ended common); broken = record { at = x.at; rule = BadBuiltInCall } ∷ [] })

-- ---- an argument as one of that type or kind

abbrev pub IsOfKind : Table → TypeId → TypedExpr → Option Untyped → Judged TypedExpr → Type 0
IsOfKind types of expr (Some kind) result = result ≡ rekinded types expr kind
IsOfKind types of expr None result = IsGiven types of expr result

abbrev pub IsOfTypeBy : Table → TypeId → TypedExpr → Option Untyped → Judged TypedExpr → Type 0
IsOfTypeBy types of expr None result = result ≡ fine expr
IsOfTypeBy types of expr (Some kind) result = IsOfKind types of expr (kind_at types of) result

-- a typed operand stays, and an untyped one takes the type, or the kind, of the others
abbrev pub IsOfType : Table → TypeId → TypedExpr → Judged TypedExpr → Type 0
IsOfType types of expr result = IsOfTypeBy types of expr (kind_at types expr.of) result

abbrev pub IsOfCommon : Table → Option TypeId → Option Given → Judged TypedExpr → Type 0
IsOfCommon types of x result = IsRest x (λ given. IsRest of (λ to. IsOfType types to given.expr)) result

abbrev pub IsArgument : Option TypeId → ℕ → Option Given → Basis → Basis → Judged TypedExpr → Type 0
IsArgument of number x before after result = Keeps (λ types. IsOfCommon types of x) before after result

-- those before the first that does not fit
abbrev pub AreOfCommon : Common → List (Option Given) → Basis → Basis → Judged (List TypedExpr) → Type 0
AreOfCommon common values before after result =
    IsEach (IsArgument common.of) (take common.count values) before after result

-- ---- the greatest or the least of them: "if all arguments are constant, the result is a constant"

-- whether a constant stays where another follows
abbrev pub stays : Builtin → Const → Const → Bool
stays builtin.Max best next = is_ge (order_of best next)
stays _ best next = is_le (order_of best next)

abbrev pub better : Builtin → Option Const → Const → Const
better builtin None next = next
better builtin (Some best) next = if stays builtin best next then best else next

-- from the left, where all are constants
abbrev pub best_behind : Builtin → Option Const → List TypedExpr → Option Const
best_behind builtin best [] = best
best_behind builtin best (x ∷ xs) =
    known (constant_in x.kind) (λ (value : Const). best_behind builtin (Some (better builtin best value)) xs)

abbrev pub best_of : Builtin → List TypedExpr → Option Const
best_of builtin exprs = best_behind builtin None exprs

-- a call that is no constant has its place as written where it is untyped
abbrev pub place_for : Table → BuiltInCall → TypeId → Pos
place_for types call of = if is_some (kind_at types of) then call.at else call.parenthesis

abbrev pub IsExtremeBy : Table → BuiltInCall → TypeId → List TypedExpr → Option Const → TypedExpr → Type 0
IsExtremeBy types call of exprs (Some value) made = made ≡ node call.at of (ConstOf value)
IsExtremeBy types call of exprs None made =
    (v : Vec TypedExpr)
    × ((v.items ≡ exprs) × (made ≡ node (place_for types call of) of (BuiltinOf call.builtin None v false)))

abbrev pub IsExtremeNode : BuiltInCall → TypeId → List TypedExpr → Table → TypedExpr → Type 0
IsExtremeNode call of exprs types made = IsExtremeBy types call of exprs (best_of call.builtin exprs) made

abbrev pub IsExtremeAmong : BuiltInCall → TypeId × List TypedExpr → Basis → Basis → Judged TypedExpr → Type 0
IsExtremeAmong call (of, exprs) before after result =
    Keeps (λ types. IsFine (IsExtremeNode call of exprs types)) before after result

-- ---- the rule

abbrev pub in_common : Common → Bool → Option (List TypedExpr) → Option (TypeId × List TypedExpr)
in_common common taken exprs = option_zip common.of (only exprs (taken && common.whole))

abbrev pub IsExtremeOf : BuiltInCall → List (Option Given) → Bool → Common → Basis → Basis → Judged TypedExpr → Type 0
IsExtremeOf call values taken common before after result =
    IsFollowed (AreOfCommon common values)
    (λ (exprs : Option (List TypedExpr)). Soundly (IsExtremeAmong call) (in_common common taken exprs)) before after
    result

-- all arguments are of ordered types and have one in common
abbrev pub IsExtreme : BuiltInCall → List (Option Given) → Basis → Basis → Judged TypedExpr → Type 0
IsExtreme call values before after result =
    IsFollowed (Asks (λ types. taken_asked types values))
    (λ (taken : Option (Unit {0})).
    IsThenSoundly (Keeps (λ types. AreMatched types values)) (IsExtremeOf call values (is_some taken))) before after
    result
