-- The operators and the built-in functions. Go specification, "Operators" and "Built-in functions".
use Rattle.std.specs.Prelude.{ℕ, true, false, Bool, List, Option, Some, None, codes}
use Rattle.go_type.specs.declared.constants.ConstOp.{ConstOp}
use Rattle.go_type.specs.declared.constants.ConstOp.TheVariants as const
use Rattle.go_type.specs.declared.operators.BinaryOp.{BinaryOp}
use Rattle.go_type.specs.declared.operators.BinaryOp.TheVariants as op
use Rattle.go_type.specs.declared.operators.Builtin.{Builtin}
use Rattle.go_type.specs.declared.operators.Builtin.TheVariants as builtin

-- the operator on integers of one type
abbrev pub int_op_of : BinaryOp → Option ConstOp
int_op_of op.Add = Some const.Add
int_op_of op.Sub = Some const.Sub
int_op_of op.Mul = Some const.Mul
int_op_of op.Div = Some const.Div
int_op_of op.Rem = Some const.Rem
int_op_of op.And = Some const.And
int_op_of op.Or = Some const.Or
int_op_of op.Xor = Some const.Xor
int_op_of op.AndNot = Some const.AndNot
int_op_of op.ShiftLeft = None
int_op_of op.ShiftRight = None

-- whether a shift is one to the left
abbrev pub shift_of : BinaryOp → Option Bool
shift_of op.ShiftLeft = Some true
shift_of op.ShiftRight = Some false
shift_of _ = None

abbrev pub text_of : Builtin → List ℕ
text_of builtin.Append = codes "append"
text_of builtin.Cap = codes "cap"
text_of builtin.Clear = codes "clear"
text_of builtin.Close = codes "close"
text_of builtin.Copy = codes "copy"
text_of builtin.Delete = codes "delete"
text_of builtin.Len = codes "len"
text_of builtin.Make = codes "make"
text_of builtin.Max = codes "max"
text_of builtin.Min = codes "min"
text_of builtin.New = codes "new"
text_of builtin.Panic = codes "panic"
text_of builtin.Print = codes "print"
text_of builtin.Println = codes "println"
text_of builtin.Recover = codes "recover"
