-- The rule of each built-in function. Go specification, "Built-in functions".
use Rattle.std.specs.Prelude.{Bool, true, false, List, Option}
use Rattle.go_tree.specs.declared.exprs.TypedExpr.{TypedExpr}
use Rattle.go_type.specs.declared.operators.Builtin.{Builtin}
use Rattle.go_type.specs.declared.operators.Builtin.TheVariants as builtin
use Rattle.typed_parts.specs.declared.meaning.Given.{Given}
use Rattle.typed_parts.specs.declared.meaning.Seen.{Seen}
use Rattle.typed_parts.specs.Judged.{Judged}
use Rattle.typed_parts.specs.Limits.{Basis}
use Rattle.typed_parts.specs.Turning.{Asks, IsThenSoundly, Soundly}
use Rattle.typed_built_ins.specs.declared.built_ins.BuiltInCall.{BuiltInCall}
use Rattle.typed_built_ins.specs.BuiltIns.{IsPanic, IsPrint, IsRecover, argument, each_value, number_asked}
use Rattle.typed_built_ins.specs.Extremes.{IsExtreme}
use Rattle.typed_built_ins.specs.Growing.{IsAppend}
use Rattle.typed_built_ins.specs.Making.{IsFormed}
use Rattle.typed_built_ins.specs.Measuring.{IsLength}
use Rattle.typed_built_ins.specs.Moving.{IsClear, IsClose, IsCopy, IsDelete}

-- "clear", "close", "panic", and else "len" and "cap"
abbrev pub IsOfOne : Builtin → BuiltInCall → Given → Basis → Basis → Judged TypedExpr → Type 0
IsOfOne builtin.Clear call x before after result = IsClear call x before after result
IsOfOne builtin.Close call x before after result = IsClose call x before after result
IsOfOne builtin.Panic call x before after result = IsPanic call x before after result
IsOfOne _ call x before after result = IsLength call x before after result

-- "copy", and else "delete"
abbrev pub IsOfTwo : Builtin → BuiltInCall → Option Given → Option Given → Basis → Basis → Judged TypedExpr → Type 0
IsOfTwo builtin.Copy call to from before after result = IsCopy call to from before after result
IsOfTwo _ call m key before after result = IsDelete call m key before after result

-- a call of a function of values, in a number that it takes
abbrev pub IsPlain : Builtin → BuiltInCall → List (Option Given) → Basis → Basis → Judged TypedExpr → Type 0
IsPlain builtin.Append call values before after result = IsAppend call values before after result
IsPlain builtin.Max call values before after result = IsExtreme call values before after result
IsPlain builtin.Min call values before after result = IsExtreme call values before after result
IsPlain builtin.Print call values before after result = IsPrint call values before after result
IsPlain builtin.Println call values before after result = IsPrint call values before after result
IsPlain builtin.Recover call values before after result = IsRecover call before after result
IsPlain builtin.Copy call values before after result =
    IsOfTwo builtin.Copy call (argument values 0) (argument values 1) before after result
IsPlain builtin.Delete call values before after result =
    IsOfTwo builtin.Delete call (argument values 0) (argument values 1) before after result
IsPlain one call values before after result =
    Soundly (IsOfOne one call) (argument values 0) before after result

abbrev pub IsOfValues : BuiltInCall → List Seen → Basis → Basis → Judged TypedExpr → Type 0
IsOfValues call parts before after result =
    IsThenSoundly (Asks (λ types. each_value types parts))
    (λ (values : List (Option Given)).
    IsThenSoundly (Asks (λ types. number_asked call values)) (IsPlain call.builtin call)) before after result

-- "make" and "new": their "first argument .. is a type"
abbrev pub takes_type : Builtin → Bool
takes_type builtin.Make = true
takes_type builtin.New = true
takes_type _ = false

abbrev pub IsBuiltInBy : Bool → BuiltInCall → List Seen → Basis → Basis → Judged TypedExpr → Type 0
IsBuiltInBy true call parts before after result = IsFormed call parts before after result
IsBuiltInBy false call parts before after result = IsOfValues call parts before after result

-- a call of a built-in function
abbrev pub IsBuiltIn : BuiltInCall → List Seen → Basis → Basis → Judged TypedExpr → Type 0
IsBuiltIn call parts before after result =
    IsBuiltInBy (takes_type call.builtin) call parts before after result
