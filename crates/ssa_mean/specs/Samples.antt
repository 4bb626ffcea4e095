-- Further codes written by hand: strings, slices, channels, interfaces, panics and `os.Exit`.
use Rattle.std.specs.Prelude.{ℕ, List, [], ◌∷◌, ◌++◌, ℤ, pos, negsuc, true, false, Some, None, codes}
use Rattle.std.specs.List.{repeat}
use Rattle.go_base.specs.declared.ending.Ending.{Ending}
use Rattle.go_base.specs.declared.ids.TypeId.{TypeId}
use Rattle.go_type.specs.Table.{Table, no_definition, exported}
use Rattle.go_type.specs.declared.operators.BinaryOp.TheVariants as binary
use Rattle.go_type.specs.declared.operators.Builtin.TheVariants as builtin
use Rattle.go_type.specs.declared.term.Basic.TheVariants as basic
use Rattle.go_type.specs.declared.term.Dir.TheVariants.{Both}
use Rattle.go_type.specs.declared.term.TypeTerm.TheVariants as term
use Rattle.ssa_ir.specs.declared.code.Code.{Code}
use Rattle.ssa_ir.specs.declared.code.Function.{Function}
use Rattle.ssa_ir.specs.declared.code.FunctionKind.TheVariants as kind
use Rattle.ssa_ir.specs.declared.code.MethodLine.{MethodLine}
use Rattle.ssa_ir.specs.declared.operands.ConstValue.TheVariants as constant
use Rattle.ssa_ir.specs.declared.operands.Operand.{Operand}
use Rattle.ssa_ir.specs.declared.operands.Operand.TheVariants.{Param, Register, Constant}
use Rattle.ssa_ir.specs.declared.ops.Call.TheVariants as call
use Rattle.ssa_ir.specs.declared.ops.Infix.TheVariants as infix_of
use Rattle.ssa_ir.specs.declared.ops.Instr.{Instr}
use Rattle.ssa_ir.specs.declared.ops.Op.TheVariants as op
use Rattle.ssa_ir.specs.declared.ops.SelectCase.TheVariants as case
use Rattle.ssa_mean.specs.Answers.{Answers, AreAnswers}
use Rattle.ssa_mean.specs.Examples.{function_number, block_number, giving, doing, printing, block_of, source}
use Rattle.ssa_mean.specs.Runs.{IsRunOf}

-- where the questions about its types have answers, a run of the code writes this output, and ends so
abbrev pub RunsTo : Code → List ℕ → ℕ → List ℕ → Ending → Type 0
RunsTo code choices bound output ending =
    (answers : Answers) → AreAnswers code.types answers → IsRunOf code choices bound output ending

-- ---- what the codes are made of

abbrev pub type_number : ℕ → TypeId
type_number n = record { number = n }

-- 0 `int`, 1 `bool`, 2 `string`, 3 `int32`, 4 the state of a range over a string, 5 the tuple of its turns, 6 `[2]int`,
-- 7 `[]int`, 8 `*[2]int`, 9 `*int`, 10 `chan int`, 11 the tuple of a select of two receives, 12 `interface{ M() }`,
-- 13 `func()`, 14 a declared type `T`, whose underlying type is `int`
abbrev pub sample_types : Table
sample_types =
    record {
      terms =
          term.Basic basic.Int ∷ term.Basic basic.Bool ∷ term.Basic basic.Text ∷ term.Basic basic.Int32
          ∷ term.Iter (type_number 2) ∷ term.Tuple (type_number 1 ∷ type_number 0 ∷ type_number 3 ∷ [])
          ∷ term.Array 2 (type_number 0) ∷ term.Slice (type_number 0) ∷ term.Pointer (type_number 6)
          ∷ term.Pointer (type_number 0) ∷ term.Chan Both (type_number 0)
          ∷ term.Tuple (type_number 0 ∷ type_number 1 ∷ type_number 0 ∷ type_number 0 ∷ [])
          ∷ term.Interface (record { name = record { number = 0 }; «package» = exported; of = type_number 13 } ∷ [])
          ∷ term.Func (record { params = []; results = []; variadic = false })
          ∷ term.Declared (record { name = record { number = 1 }; «package» = 0; number = 0 }) ∷ [];
      definitions =
          repeat 14 (no_definition ∷ []) ++ record { underlying = Some (type_number 0); methods = [] } ∷ [];
      error = type_number 12;
      blank = None;
    }

abbrev pub sample_of : List MethodLine → List Function → Code
sample_of methods functions =
    record {
      types = sample_types;
      names = codes "M" ∷ codes "T" ∷ [];
      packages = codes "main" ∷ [];
      declared = type_number 14 ∷ [];
      variables = [];
      methods = methods;
      functions = functions;
    }

abbrev pub whole : ℤ → Operand
whole it = Constant (constant.Int it) (type_number 0)

abbrev pub letters : List ℕ → Operand
letters bytes = Constant (constant.Text bytes) (type_number 2)

abbrev pub types_of : List ℕ → List TypeId
types_of [] = []
types_of (n ∷ ns) = type_number n ∷ types_of ns

abbrev pub returning : Instr
returning = doing (op.Return [])

-- `main.main` of one block
abbrev pub straight : List ℕ → List Instr → Function
straight registers instrs =
    source (codes "main.main") [] [] (types_of registers) (block_of [] instrs ∷ []) None

-- the text of the panic of an index that is out of range
abbrev pub index_text : List ℕ
index_text = codes "runtime error: index out of range [3] with length 3"

-- ---- func main() { for i, r := range "a\xffé" { println(i, r) } }

unfoldable pub range_code : Code
range_code =
    sample_of []
    (source (codes "main.main") [] [] (types_of (4 ∷ 5 ∷ 1 ∷ 0 ∷ 3 ∷ []))
    (block_of [] (giving 0 (op.Range (letters (97 ∷ 255 ∷ 195 ∷ 169 ∷ []))) ∷ doing (op.Jump (block_number 1)) ∷ [])
    ∷ block_of (block_number 0 ∷ block_number 2 ∷ [])
    (giving 1 (op.Next (Register 0))
    ∷ giving 2 (op.Extract (Register 1) 0)
    ∷ doing (op.If (Register 2) (block_number 2) (block_number 3)) ∷ [])
    ∷ block_of (block_number 1 ∷ [])
    (giving 3 (op.Extract (Register 1) 1)
    ∷ giving 4 (op.Extract (Register 1) 2)
    ∷ doing op.Tick
    ∷ doing (printing (Register 3 ∷ Register 4 ∷ [])) ∷ doing (op.Jump (block_number 1)) ∷ [])
    ∷ block_of (block_number 1 ∷ []) (returning ∷ []) ∷ []) None ∷ [])

-- ---- func main() { s := []int{1, 2}; t := append(s, 3); t[0] = 9; println(len(t), cap(t), s[0], t[0], t[2]); t[3]++ }

unfoldable pub append_code : Code
append_code =
    sample_of []
    (straight (8 ∷ 9 ∷ 9 ∷ 7 ∷ 7 ∷ 9 ∷ 0 ∷ 0 ∷ 9 ∷ 0 ∷ 0 ∷ 9 ∷ 0 ∷ 9 ∷ [])
    (giving 0 (op.New (type_number 6))
    ∷ giving 1 (op.IndexAddress (Register 0) (whole (pos 0)))
    ∷ doing (op.Store (Register 1) (whole (pos 1)))
    ∷ giving 2 (op.IndexAddress (Register 0) (whole (pos 1)))
    ∷ doing (op.Store (Register 2) (whole (pos 2)))
    ∷ giving 3 (op.Slice (Register 0) None None None)
    ∷ giving 4 (op.Call (call.Builtin builtin.Append (Register 3 ∷ whole (pos 3) ∷ [])))
    ∷ giving 5 (op.IndexAddress (Register 4) (whole (pos 0)))
    ∷ doing (op.Store (Register 5) (whole (pos 9)))
    ∷ giving 6 (op.Call (call.Builtin builtin.Len (Register 4 ∷ [])))
    ∷ giving 7 (op.Call (call.Builtin builtin.Cap (Register 4 ∷ [])))
    ∷ giving 8 (op.IndexAddress (Register 3) (whole (pos 0)))
    ∷ giving 9 (op.Load (Register 8))
    ∷ giving 10 (op.Load (Register 5))
    ∷ giving 11 (op.IndexAddress (Register 4) (whole (pos 2)))
    ∷ giving 12 (op.Load (Register 11))
    ∷ doing (printing (Register 6 ∷ Register 7 ∷ Register 9 ∷ Register 10 ∷ Register 12 ∷ []))
    ∷ giving 13 (op.IndexAddress (Register 4) (whole (pos 3))) ∷ returning ∷ []) ∷ [])

-- ---- func main() { a, b := make(chan int, 1), make(chan int, 1); a <- 1; b <- 2; select of <-a and <-b }, which
-- prints the number of the case, and what is received from either

unfoldable pub select_code : Code
select_code =
    sample_of []
    (straight (10 ∷ 10 ∷ 11 ∷ 0 ∷ 0 ∷ 0 ∷ [])
    (giving 0 (op.MakeChan (type_number 10) (whole (pos 1)))
    ∷ giving 1 (op.MakeChan (type_number 10) (whole (pos 1)))
    ∷ doing (op.Send (Register 0) (whole (pos 1)))
    ∷ doing (op.Send (Register 1) (whole (pos 2)))
    ∷ giving 2 (op.Select true (case.Receive (Register 0) ∷ case.Receive (Register 1) ∷ []))
    ∷ giving 3 (op.Extract (Register 2) 0)
    ∷ giving 4 (op.Extract (Register 2) 2)
    ∷ giving 5 (op.Extract (Register 2) 3)
    ∷ doing (printing (Register 3 ∷ Register 4 ∷ Register 5 ∷ [])) ∷ returning ∷ []) ∷ [])

-- ---- type T int; func (t T) M() { println("M", int(t)) }; func main() { var i interface{ M() } = T(5); i.M() }

unfoldable pub invoke_code : Code
invoke_code =
    sample_of
    (record {
      receiver = type_number 14;
      name = record { number = 0 };
      «package» = exported;
      function = function_number 1;
    }
    ∷ [])
    (straight (12 ∷ [])
    (giving 0 (op.MakeInterface (type_number 12) (Constant (constant.Int (pos 5)) (type_number 14)))
    ∷ doing (op.Call (call.Invoke (Register 0) (record { number = 0 }) exported [])) ∷ returning ∷ [])
    ∷ source (codes "(main.T).M") (type_number 14 ∷ []) [] (types_of (0 ∷ []))
    (block_of []
    (giving 0 (op.ChangeType (type_number 0) (Param 0))
    ∷ doing (printing (letters (codes "M") ∷ Register 0 ∷ [])) ∷ returning ∷ []) ∷ []) None ∷ [])

-- ---- func main() { defer println("d"); println(1 / zero) }, where zero is 0

unfoldable pub fault_code : Code
fault_code =
    sample_of []
    (source (codes "main.main") [] [] (types_of (0 ∷ []))
    (block_of []
    (doing (op.Defer (call.Builtin builtin.Println (letters (codes "d") ∷ [])))
    ∷ giving 0 (op.Binary (infix_of.Operate binary.Div) (whole (pos 1)) (whole (pos 0)))
    ∷ doing (printing (Register 0 ∷ [])) ∷ doing op.RunDefers ∷ returning ∷ [])
    ∷ block_of [] (returning ∷ []) ∷ []) (Some (block_number 1)) ∷ [])

-- ---- func main() { x := -9223372036854775808; println(x / -1, x % -1); os.Exit(-1) }

unfoldable pub exit_code : Code
exit_code =
    sample_of []
    (straight (0 ∷ 0 ∷ [])
    (giving 0 (op.Binary (infix_of.Operate binary.Div) (whole (negsuc 9223372036854775807)) (whole (negsuc 0)))
    ∷ giving 1 (op.Binary (infix_of.Operate binary.Rem) (whole (negsuc 9223372036854775807)) (whole (negsuc 0)))
    ∷ doing (printing (Register 0 ∷ Register 1 ∷ []))
    ∷ doing (op.Call (call.Static (function_number 1) (whole (negsuc 0) ∷ []))) ∷ returning ∷ [])
    ∷ record {
      name = codes "os.Exit";
      kind = kind.External;
      params = type_number 0 ∷ [];
      variadic = false;
      free = [];
      results = [];
      registers = [];
      blocks = [];
      recover = None;
    } ∷ [])
