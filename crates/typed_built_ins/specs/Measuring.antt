-- The built-in functions `len` and `cap`. Go specification, "Length and capacity".
use Rattle.std.specs.Prelude.{◌≡◌, ℕ, ℤ, pos, Bool, true, false, if◌then◌else◌, [], ◌∷◌, Option, Some, None}
use Rattle.go_base.specs.declared.rule.Rule.TheVariants.{BadBuiltInCall}
use Rattle.go_tree.specs.declared.exprs.ExprKind.TheVariants.{ConstOf}
use Rattle.go_tree.specs.declared.exprs.TypedExpr.{TypedExpr}
use Rattle.go_type.specs.declared.constants.Const.TheVariants as constant
use Rattle.go_type.specs.declared.operators.Builtin.{Builtin}
use Rattle.go_type.specs.declared.operators.Builtin.TheVariants as builtin
use Rattle.go_type.specs.declared.term.Basic.TheVariants as basic
use Rattle.go_type.specs.Table.{Table, basic_id}
use Rattle.typed_parts.specs.declared.meaning.Given.{Given}
use Rattle.typed_parts.specs.declared.shapes.Shape.{Shape}
use Rattle.typed_parts.specs.declared.shapes.Shape.TheVariants as shape
use Rattle.typed_parts.specs.Joining.{asked}
use Rattle.typed_parts.specs.Judged.{IsFine, Judged, fine}
use Rattle.typed_parts.specs.Looks.{holds_call}
use Rattle.typed_parts.specs.Nodes.{node}
use Rattle.typed_parts.specs.Numbers.{text_length}
use Rattle.typed_parts.specs.Shapes.{shape_of}
use Rattle.typed_parts.specs.Wholes.{IsTextTyped}
use Rattle.typed_built_ins.specs.declared.built_ins.BuiltInCall.{BuiltInCall}
use Rattle.typed_built_ins.specs.BuiltIns.{IsNode}
use Rattle.typed_parts.specs.Turning.{Asks, IsThenSoundly, Keeps}
use Rattle.typed_parts.specs.Limits.{Basis}

abbrev pub is_len : Builtin → Bool
is_len builtin.Len = true
is_len _ = false

-- "len": a string, an array, a pointer to one, a slice, a map, a channel; "cap": the same without strings and maps
abbrev pub has_length : Builtin → Option Shape → Bool
has_length builtin (Some shape.Text) = is_len builtin
has_length builtin (Some (shape.Map key elem)) = is_len builtin
has_length builtin (Some other) = true
has_length builtin None = false

-- "The expression len(s) is constant if s is a string constant. The expressions len(s) and cap(s) are constants if the
-- type of s is an array or pointer to an array and the expression s does not contain channel receives or
-- (non-constant) function calls"
abbrev pub array_length : TypedExpr → ℕ → Option ℤ
array_length expr len = if holds_call expr then None else Some (pos len)

abbrev pub constant_length : Option Shape → TypedExpr → Option ℤ
constant_length (Some shape.Text) expr = text_length expr
constant_length (Some (shape.Array len elem)) expr = array_length expr len
constant_length (Some (shape.ArrayPointer array len elem)) expr = array_length expr len
constant_length _ expr = None

-- a length is an `int`: a constant at the call, or the call
abbrev pub IsLengthOf : BuiltInCall → TypedExpr → Option ℤ → Judged TypedExpr → Type 0
IsLengthOf call expr (Some len) result = result ≡ fine (node call.at (basic_id basic.Int) (ConstOf (constant.Int len)))
IsLengthOf call expr None result = IsFine (IsNode call (basic_id basic.Int) None (expr ∷ []) false) result

-- the length of a value that has one
abbrev pub IsMeasured : BuiltInCall → Given → Basis → Basis → Judged TypedExpr → Type 0
IsMeasured call x before after result =
    IsThenSoundly (Asks (λ types. asked x (has_length call.builtin (shape_of types x.expr.of)) BadBuiltInCall))
    (λ (y : Given). Keeps (λ types. IsLengthOf call y.expr (constant_length (shape_of types y.expr.of) y.expr))) before
    after result

-- an untyped string is one of type `string` first
abbrev pub IsLength : BuiltInCall → Given → Basis → Basis → Judged TypedExpr → Type 0
IsLength call x before after result =
    IsThenSoundly (Keeps (λ types. IsTextTyped types (Some x))) (IsMeasured call) before after result
