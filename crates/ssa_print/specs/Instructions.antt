-- The texts of instructions.
use Rattle.std.specs.Prelude.{ℕ, ◌-◌, nat_lt, length, reverse, take_while, fold, Bool, true, false, List, [], ◌∷◌}
use Rattle.std.specs.Prelude.{◌++◌, codes, decimal, Option, Some, None}
use Rattle.std.specs.List.{insert}
use Rattle.go_type.specs.Operators.{text_of}
use Rattle.go_type.specs.declared.operators.UnaryOp.{UnaryOp}
use Rattle.go_type.specs.declared.operators.UnaryOp.TheVariants as unary
use Rattle.go_type.specs.declared.operators.BinaryOp.{BinaryOp}
use Rattle.go_type.specs.declared.operators.BinaryOp.TheVariants as binary
use Rattle.go_type.specs.declared.operators.CompareOp.{CompareOp}
use Rattle.go_type.specs.declared.operators.CompareOp.TheVariants as compare
use Rattle.go_text.specs.Joined.{joined}
use Rattle.go_text.specs.Naming.{method_name_text}
use Rattle.go_text.specs.TypeText.{type_text_of}
use Rattle.ssa_ir.specs.declared.operands.Operand.{Operand}
use Rattle.ssa_ir.specs.declared.ops.Infix.{Infix}
use Rattle.ssa_ir.specs.declared.ops.Infix.TheVariants.{Operate, Compare}
use Rattle.ssa_ir.specs.declared.ops.PhiEdge.{PhiEdge}
use Rattle.ssa_ir.specs.declared.ops.SelectCase.{SelectCase}
use Rattle.ssa_ir.specs.declared.ops.SelectCase.TheVariants as case_
use Rattle.ssa_ir.specs.declared.ops.Call.{Call}
use Rattle.ssa_ir.specs.declared.ops.Call.TheVariants as call
use Rattle.ssa_ir.specs.declared.ops.Op.{Op}
use Rattle.ssa_ir.specs.declared.ops.Op.TheVariants as op
use Rattle.ssa_print.specs.Operands.{Setting, function_text, operand_text}

abbrev pub unary_text : UnaryOp → List ℕ
unary_text unary.Negate = codes "-"
unary_text unary.Complement = codes "^"
unary_text unary.Not = codes "!"

abbrev pub binary_text : BinaryOp → List ℕ
binary_text binary.Add = codes " + "
binary_text binary.Sub = codes " - "
binary_text binary.Mul = codes " * "
binary_text binary.Div = codes " / "
binary_text binary.Rem = codes " % "
binary_text binary.And = codes " & "
binary_text binary.Or = codes " | "
binary_text binary.Xor = codes " ^ "
binary_text binary.AndNot = codes " &^ "
binary_text binary.ShiftLeft = codes " << "
binary_text binary.ShiftRight = codes " >> "

abbrev pub compare_text : CompareOp → List ℕ
compare_text compare.Equal = codes " == "
compare_text compare.NotEqual = codes " != "
compare_text compare.Less = codes " < "
compare_text compare.LessEqual = codes " <= "
compare_text compare.Greater = codes " > "
compare_text compare.GreaterEqual = codes " >= "

abbrev pub infix_text : Infix → List ℕ
infix_text (Operate operator) = binary_text operator
infix_text (Compare operator) = compare_text operator

-- the mark of a form with a second boolean result
abbrev pub ok_text : Bool → List ℕ
ok_text true = codes ",ok"
ok_text false = []

abbrev pub operands_text : Setting → List ℕ → List Operand → List ℕ
operands_text s given operands = joined (codes ", ") (operand_text s given) operands

abbrev pub option_text : Setting → List ℕ → Option Operand → List ℕ
option_text s given None = []
option_text s given (Some operand) = operand_text s given operand

abbrev pub arguments_text : Setting → List ℕ → List Operand → List ℕ
arguments_text s given operands = codes "(" ++ (operands_text s given operands ++ codes ")")

abbrev pub call_text : Setting → List ℕ → Call → List ℕ
call_text s given (call.Static function arguments) = function_text s function ++ arguments_text s given arguments
call_text s given (call.Dynamic callee arguments) =
    codes "call " ++ (operand_text s given callee ++ arguments_text s given arguments)
call_text s given (call.Invoke receiver name package_number arguments) =
    codes "invoke " ++ (operand_text s given receiver ++ (codes "."
    ++ (method_name_text s.naming.names s.naming.labels name package_number ++ arguments_text s given arguments)))
call_text s given (call.Builtin builtin arguments) =
    codes "builtin " ++ (text_of builtin ++ arguments_text s given arguments)

-- ---- phis

-- how many edges at the end come from a greater block than an edge
abbrev pub greater_edges : PhiEdge → List PhiEdge → ℕ
greater_edges edge edges = length (take_while (λ x. nat_lt edge.from.number x.from.number) (reverse edges))

-- an edge before those that come from a greater block
abbrev pub with_edge : List PhiEdge → PhiEdge → List PhiEdge
with_edge sorted edge = insert sorted (length sorted - greater_edges edge sorted) edge

-- the edges, ascending by predecessor
abbrev pub ascending : List PhiEdge → List PhiEdge
ascending edges = fold with_edge [] edges

abbrev pub edge_text : Setting → List ℕ → PhiEdge → List ℕ
edge_text s given edge = decimal edge.from.number ++ (codes ": " ++ operand_text s given edge.value)

-- ---- select

abbrev pub case_text : Setting → List ℕ → SelectCase → List ℕ
case_text s given (case_.Send channel value) =
    operand_text s given channel ++ (codes " <- " ++ operand_text s given value)
case_text s given (case_.Receive channel) = codes "<-" ++ operand_text s given channel

abbrev pub blocking_text : Bool → List ℕ
blocking_text true = codes "select blocking ["
blocking_text false = codes "select nonblocking ["

abbrev pub return_text : Setting → List ℕ → List Operand → List ℕ
return_text s given [] = codes "return"
return_text s given (x ∷ rest) = codes "return " ++ operands_text s given (x ∷ rest)

-- ---- instructions

unfoldable pub op_text : Setting → List ℕ → Op → List ℕ
op_text s given (op.New of) = codes "new " ++ type_text_of s.naming of
op_text s given (op.Phi edges) =
    codes "phi [" ++ (joined (codes ", ") (edge_text s given) (ascending edges) ++ codes "]")
op_text s given (op.Binary operator left right) =
    operand_text s given left ++ (infix_text operator ++ operand_text s given right)
op_text s given (op.Unary operator operand) = unary_text operator ++ operand_text s given operand
op_text s given (op.Load at) = codes "*" ++ operand_text s given at
op_text s given (op.Store at value) =
    codes "*" ++ (operand_text s given at ++ (codes " = " ++ operand_text s given value))
op_text s given (op.Field operand field) = operand_text s given operand ++ (codes ".#" ++ decimal field)
op_text s given (op.FieldAddress operand field) =
    codes "&" ++ (operand_text s given operand ++ (codes ".#" ++ decimal field))
op_text s given (op.Index operand index) =
    operand_text s given operand ++ (codes "[" ++ (operand_text s given index ++ codes "]"))
op_text s given (op.IndexAddress operand index) =
    codes "&" ++ (operand_text s given operand ++ (codes "[" ++ (operand_text s given index ++ codes "]")))
op_text s given (op.Lookup map key comma_ok) =
    codes "lookup "
    ++ (operand_text s given map ++ (codes "[" ++ (operand_text s given key ++ (codes "]" ++ ok_text comma_ok))))
op_text s given (op.Update map key value) =
    operand_text s given map
    ++ (codes "[" ++ (operand_text s given key ++ (codes "] = " ++ operand_text s given value)))
op_text s given (op.Slice operand low high max) =
    codes "slice " ++ (operand_text s given operand ++ (codes "[" ++ (option_text s given low ++ (codes ":"
    ++ (option_text s given high ++ (codes ":" ++ (option_text s given max ++ codes "]")))))))
op_text s given (op.Convert to operand) =
    codes "convert " ++ (type_text_of s.naming to ++ (codes " <- " ++ operand_text s given operand))
op_text s given (op.ChangeType to operand) =
    codes "changetype " ++ (type_text_of s.naming to ++ (codes " <- " ++ operand_text s given operand))
op_text s given (op.MakeInterface to operand) =
    codes "make " ++ (type_text_of s.naming to ++ (codes " <- " ++ operand_text s given operand))
op_text s given (op.ChangeInterface to operand) =
    codes "change interface " ++ (type_text_of s.naming to ++ (codes " <- " ++ operand_text s given operand))
op_text s given (op.MakeClosure function captured) =
    codes "make closure " ++ (function_text s function ++ (codes " [" ++ (operands_text s given captured ++ codes "]")))
op_text s given (op.MakeMap of) = codes "make map " ++ type_text_of s.naming of
op_text s given (op.MakeChan of size) =
    codes "make chan " ++ (type_text_of s.naming of ++ (codes " " ++ operand_text s given size))
op_text s given (op.MakeSlice of len cap) =
    codes "make slice "
    ++ (type_text_of s.naming of
    ++ (codes " " ++ (operand_text s given len ++ (codes " " ++ operand_text s given cap))))
op_text s given (op.TypeAssert operand to comma_ok) =
    codes "typeassert "
    ++ (operand_text s given operand
    ++ (codes ".(" ++ (type_text_of s.naming to ++ (codes ")" ++ ok_text comma_ok))))
op_text s given (op.Call called) = call_text s given called
op_text s given (op.Go called) = codes "go " ++ call_text s given called
op_text s given (op.Defer called) = codes "defer " ++ call_text s given called
op_text s given op.RunDefers = codes "rundefers"
op_text s given (op.Send channel value) =
    codes "send " ++ (operand_text s given channel ++ (codes " <- " ++ operand_text s given value))
op_text s given (op.Receive channel comma_ok) = codes "<-" ++ (operand_text s given channel ++ ok_text comma_ok)
op_text s given (op.Select blocking cases) =
    blocking_text blocking ++ (joined (codes ", ") (case_text s given) cases ++ codes "]")
op_text s given (op.Range operand) = codes "range " ++ operand_text s given operand
op_text s given (op.Next operand) = codes "next " ++ operand_text s given operand
op_text s given (op.Extract operand part) =
    codes "extract " ++ (operand_text s given operand ++ (codes " #" ++ decimal part))
op_text s given op.Tick = codes "tick"
op_text s given (op.Jump to) = codes "jump " ++ decimal to.number
op_text s given (op.If test then_to else_to) =
    codes "if "
    ++ (operand_text s given test
    ++ (codes " goto " ++ (decimal then_to.number ++ (codes " else " ++ decimal else_to.number))))
op_text s given (op.Return results) = return_text s given results
op_text s given (op.Panic value) = codes "panic " ++ operand_text s given value
