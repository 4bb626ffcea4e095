-- Untyped operands given types. Go specification, "Constants", "Conversions", "Representability" and "Operators".
use Rattle.std.specs.Prelude.{◌≡◌, Bool, true, false, is_some, List, [], ◌∷◌, ◌++◌, Option, Some, None, Result}
use Rattle.std.specs.Prelude.{Ok, Err}
use Rattle.std.specs.Global.{Box, Vec}
use Rattle.std.specs.Option.{option_zip}
use Rattle.go_base.specs.declared.ids.TypeId.{TypeId}
use Rattle.go_base.specs.declared.place.Pos.{Pos}
use Rattle.go_base.specs.declared.rule.Rule.TheVariants.{BadShift}
use Rattle.go_rules.specs.declared.breach.Breach.{Breach}
use Rattle.go_rules.specs.declared.untyped.Untyped.{Untyped}
use Rattle.go_rules.specs.Folding.{as_constant}
use Rattle.go_rules.specs.Untyped.{default_of, kind_at}
use Rattle.go_tree.specs.declared.exprs.ExprKind.{ExprKind}
use Rattle.go_tree.specs.declared.exprs.ExprKind.TheVariants.{ConstOf, CompareOf, UnaryOf, AndAlso, OrElse}
use Rattle.go_tree.specs.declared.exprs.ExprKind.TheVariants.{BinaryOf, BuiltinOf}
use Rattle.go_tree.specs.declared.exprs.TypedExpr.{TypedExpr}
use Rattle.go_type.specs.declared.constants.Const.{Const}
use Rattle.go_type.specs.declared.operators.BinaryOp.{BinaryOp}
use Rattle.go_type.specs.declared.operators.Builtin.{Builtin}
use Rattle.go_type.specs.declared.operators.CompareOp.{CompareOp}
use Rattle.go_type.specs.declared.operators.UnaryOp.{UnaryOp}
use Rattle.go_type.specs.declared.term.Basic.{Basic}
use Rattle.go_type.specs.Kinds.{kind_of}
use Rattle.go_type.specs.Operators.{shift_of}
use Rattle.go_type.specs.Table.{Table, basic_id}
use Rattle.typed_parts.specs.Joining.{items_of, with_last}
use Rattle.typed_parts.specs.Judged.{Judged, fine, breaks}
use Rattle.typed_parts.specs.Nodes.{node, untyped}

-- an operation on an operand that is sound
abbrev pub IsOfOne : Pos → TypeId → (Box TypedExpr → ExprKind) → Option TypedExpr → Option TypedExpr → Type 0
IsOfOne at of form None result = result ≡ None
IsOfOne at of form (Some x) result = (b : Box TypedExpr) × ((b.value ≡ x) × (result ≡ Some (node at of (form b))))

-- an operation on two operands that are both sound
abbrev pub IsOfTwo : Pos → TypeId → (Box TypedExpr → Box TypedExpr → ExprKind) → Option (TypedExpr × TypedExpr)
    → Option TypedExpr → Type 0
IsOfTwo at of form None result = result ≡ None
IsOfTwo at of form (Some (x, y)) result =
    (b : Box TypedExpr) × ((c : Box TypedExpr)
    × ((b.value ≡ x) × ((c.value ≡ y) × (result ≡ Some (node at of (form b c))))))

-- a call of a built-in function whose arguments are sound
abbrev pub IsOfEach : Pos → TypeId → Builtin → Option (List TypedExpr) → Option TypedExpr → Type 0
IsOfEach at of builtin None result = result ≡ None
IsOfEach at of builtin (Some xs) result =
    (v : Vec TypedExpr) × ((v.items ≡ xs) × (result ≡ Some (node at of (BuiltinOf builtin None v false))))

abbrev pub IsOfList : Pos → TypeId → Builtin → Option (Vec TypedExpr) → Option TypedExpr → Type 0
IsOfList at of builtin list result = IsOfEach at of builtin (items_of list) result

-- the same of operands that came, unless memory ran out
abbrev pub Makes : {A E : Type 0} → (A → Option TypedExpr → Type 0) → Result A E → Result (Option TypedExpr) E → Type 0
Makes Is operands (Err error) = Unit {0}
Makes Is (Ok operands) (Ok result) = Is operands result
Makes Is (Err error) (Ok result) = ⊥

abbrev pub constant_node : Pos → TypeId → Result Const Breach → Judged TypedExpr
constant_node at of (Ok value) = fine (node at of (ConstOf value))
constant_node at of (Err breach) = breaks at breach.rule

-- a constant is given a type in which its value has to be
abbrev pub constant_as : Table → Pos → Const → TypeId → Judged TypedExpr
constant_as types at value to = constant_node at to (as_constant types value to)

-- an untyped operand at a place takes a type: what becomes of it, by its form, and which rules are broken in it. An
-- operation takes the type with its operands; a comparison keeps those, and a shift its count. "If the left operand of
-- a non-constant shift expression is an untyped constant, it is first implicitly converted to the type it would assume
-- if the shift expression were replaced by its left operand alone."
mutual
  pub data IsRetyped (types : Table) (to : TypeId) : Pos → ExprKind → Judged TypedExpr → Type 0 where
    constant : (at : Pos) (value : Const) → IsRetyped types to at (ConstOf value) (constant_as types at value to)
    nil : (at : Pos) → IsRetyped types to at ExprKind.NilOf (fine (node at to ExprKind.NilOf))
    comparison : (at : Pos) (op : CompareOp) (x y : Box TypedExpr)
        → IsRetyped types to at (CompareOf op x y) (fine (node at to (CompareOf op x y)))
    unary : (at : Pos) (op : UnaryOp) (x : Box TypedExpr) (one : Judged TypedExpr) (result : Option TypedExpr)
        → IsRetyped types to x.value.at x.value.kind one
        → IsOfOne at to (UnaryOf op) one.sound result
        → IsRetyped types to at (UnaryOf op x) (record { sound = result; broken = one.broken })
    conjunction : (at : Pos) (x y : Box TypedExpr) (one other : Judged TypedExpr) (result : Option TypedExpr)
        → IsRetyped types to x.value.at x.value.kind one
        → IsRetyped types to y.value.at y.value.kind other
        → IsOfTwo at to AndAlso (option_zip one.sound other.sound) result
        → IsRetyped types to at (AndAlso x y) (record { sound = result; broken = one.broken ++ other.broken })
    disjunction : (at : Pos) (x y : Box TypedExpr) (one other : Judged TypedExpr) (result : Option TypedExpr)
        → IsRetyped types to x.value.at x.value.kind one
        → IsRetyped types to y.value.at y.value.kind other
        → IsOfTwo at to OrElse (option_zip one.sound other.sound) result
        → IsRetyped types to at (OrElse x y) (record { sound = result; broken = one.broken ++ other.broken })
    arithmetic : (at : Pos) (op : BinaryOp) (x y : Box TypedExpr) (one other : Judged TypedExpr)
        (result : Option TypedExpr)
        → is_some (shift_of op) ≡ false
        → IsRetyped types to x.value.at x.value.kind one
        → IsRetyped types to y.value.at y.value.kind other
        → IsOfTwo at to (BinaryOf op) (option_zip one.sound other.sound) result
        → IsRetyped types to at (BinaryOf op x y) (record { sound = result; broken = one.broken ++ other.broken })
    shift : (at : Pos) (op : BinaryOp) (x count : Box TypedExpr) (one : Judged TypedExpr) (result : Option TypedExpr)
        → is_some (shift_of op) ≡ true
        → is_some (kind_of types to) ≡ true
        → IsRetyped types to x.value.at x.value.kind one
        → IsOfOne at to (λ b. BinaryOf op b count) one.sound result
        → IsRetyped types to at (BinaryOf op x count) (record { sound = result; broken = one.broken })
    bad_shift : (at : Pos) (op : BinaryOp) (x count : Box TypedExpr)
        → is_some (shift_of op) ≡ true
        → is_some (kind_of types to) ≡ false
        → IsRetyped types to at (BinaryOf op x count) (breaks x.value.at BadShift)
    built_in : (at : Pos) (builtin : Builtin) (form : Option TypeId) (xs : Vec TypedExpr) (spread : Bool)
        (each : Judged (List TypedExpr)) (result : Option TypedExpr)
        → AreRetyped types to xs.items each
        → IsOfEach at to builtin each.sound result
        → IsRetyped types to at (BuiltinOf builtin form xs spread) (record { sound = result; broken = each.broken })

  -- each of several, and one more
  pub data AreRetyped (types : Table) (to : TypeId) : List TypedExpr → Judged (List TypedExpr) → Type 0 where
    none : AreRetyped types to [] (fine [])
    more : (xs : List TypedExpr) (x : TypedExpr) (each : Judged (List TypedExpr)) (one : Judged TypedExpr)
        → AreRetyped types to xs each
        → IsRetyped types to x.at x.kind one
        → AreRetyped types to (xs ++ x ∷ [])
        (record { sound = with_last each.sound one.sound; broken = each.broken ++ one.broken })

-- an untyped operand takes a type
abbrev pub IsGiven : Table → TypeId → TypedExpr → Judged TypedExpr → Type 0
IsGiven types to expr result = IsRetyped types to expr.at expr.kind result

abbrev pub kind_as : Table → Untyped → Pos → ExprKind → Judged TypedExpr
kind_as types kind at (ConstOf value) = constant_as types at value (untyped kind)
kind_as types kind at other = fine (node at (untyped kind) other)

-- an untyped operand as one of a kind that its own joins to: "the result is of the operand's kind that appears later in
-- this list: integer, rune"
abbrev pub rekinded : Table → TypedExpr → Untyped → Judged TypedExpr
rekinded types expr kind = kind_as types kind expr.at expr.kind

abbrev pub IsOfDefault : Table → TypedExpr → Option Basic → Judged TypedExpr → Type 0
IsOfDefault types expr (Some plain) result = IsGiven types (basic_id plain) expr result
IsOfDefault types expr None result = ⊥

abbrev pub IsDefaultOf : Table → TypedExpr → Option Untyped → Judged TypedExpr → Type 0
IsDefaultOf types expr None result = result ≡ fine expr
IsDefaultOf types expr (Some kind) result = IsOfDefault types expr (default_of kind) result

-- an untyped operand but nil takes its default type, and a typed one stays
unfoldable pub IsDefaulted : Table → TypedExpr → Judged TypedExpr → Type 0
IsDefaulted types expr result = IsDefaultOf types expr (kind_at types expr.of) result

abbrev pub IsTakenAs : Table → TypeId → TypedExpr → Option Untyped → Judged TypedExpr → Type 0
IsTakenAs types to expr None result = result ≡ fine expr
IsTakenAs types to expr (Some kind) result = IsGiven types to expr result

-- an untyped operand takes a type, and a typed one stays
unfoldable pub IsAsUntyped : Table → TypeId → TypedExpr → Judged TypedExpr → Type 0
IsAsUntyped types to expr result = IsTakenAs types to expr (kind_at types expr.of) result

-- the left operand of a shift takes a type, which has to be an integer type
pub data IsShifted (types : Table) (to : TypeId) (x : TypedExpr) : Judged TypedExpr → Type 0 where
  integer : (result : Judged TypedExpr) → is_some (kind_of types to) ≡ true → IsGiven types to x result
      → IsShifted types to x result
  other : is_some (kind_of types to) ≡ false → IsShifted types to x (breaks x.at BadShift)
