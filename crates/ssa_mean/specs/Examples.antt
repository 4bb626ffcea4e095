-- Codes written by hand, whose runs the laws tell.
use Rattle.std.specs.Prelude.{ℕ, List, [], ◌∷◌, pos, Bool, true, false, Option, Some, None, codes}
use Rattle.std.specs.List.{repeat}
use Rattle.go_base.specs.declared.ids.BlockId.{BlockId}
use Rattle.go_base.specs.declared.ids.FuncId.{FuncId}
use Rattle.go_base.specs.declared.ids.TypeId.{TypeId}
use Rattle.go_base.specs.declared.place.Pos.{Pos}
use Rattle.go_type.specs.Table.{Table, no_definition}
use Rattle.go_type.specs.declared.operators.BinaryOp.TheVariants as binary
use Rattle.go_type.specs.declared.operators.Builtin.TheVariants as builtin
use Rattle.go_type.specs.declared.operators.CompareOp.TheVariants as comparison
use Rattle.go_type.specs.declared.term.Basic.TheVariants as basic
use Rattle.go_type.specs.declared.term.Dir.TheVariants.{Both}
use Rattle.go_type.specs.declared.term.TypeTerm.TheVariants as term
use Rattle.ssa_ir.specs.declared.code.Block.{Block}
use Rattle.ssa_ir.specs.declared.code.Code.{Code}
use Rattle.ssa_ir.specs.declared.code.Function.{Function}
use Rattle.ssa_ir.specs.declared.code.FunctionKind.TheVariants as kind
use Rattle.ssa_ir.specs.declared.operands.ConstValue.TheVariants as constant
use Rattle.ssa_ir.specs.declared.operands.Operand.{Operand}
use Rattle.ssa_ir.specs.declared.operands.Operand.TheVariants.{Param, Register, Constant}
use Rattle.ssa_ir.specs.declared.ops.Call.TheVariants as call
use Rattle.ssa_ir.specs.declared.ops.Infix.TheVariants as infix_of
use Rattle.ssa_ir.specs.declared.ops.Instr.{Instr}
use Rattle.ssa_ir.specs.declared.ops.Op.{Op}
use Rattle.ssa_ir.specs.declared.ops.Op.TheVariants as op

-- ---- what the codes are made of

abbrev pub int_type : TypeId
int_type = record { number = 0 }

abbrev pub bool_type : TypeId
bool_type = record { number = 1 }

abbrev pub any_type : TypeId
any_type = record { number = 2 }

abbrev pub pointer_type : TypeId
pointer_type = record { number = 3 }

abbrev pub text_type : TypeId
text_type = record { number = 4 }

abbrev pub chan_type : TypeId
chan_type = record { number = 5 }

abbrev pub map_type : TypeId
map_type = record { number = 6 }

abbrev pub range_type : TypeId
range_type = record { number = 7 }

abbrev pub turn_type : TypeId
turn_type = record { number = 8 }

-- the types `int`, `bool`, `interface{}`, `*int`, `string`, `chan int`, `map[int]bool`, and the state of a range over
-- that, with the tuple of its turns
abbrev pub few_types : Table
few_types =
    record {
      terms =
          term.Basic basic.Int ∷ term.Basic basic.Bool ∷ term.Interface [] ∷ term.Pointer int_type
          ∷ term.Basic basic.Text ∷ term.Chan Both int_type ∷ term.Map int_type bool_type ∷ term.Iter map_type
          ∷ term.Tuple (bool_type ∷ int_type ∷ bool_type ∷ []) ∷ [];
      definitions = repeat 9 (no_definition ∷ []);
      error = record { number = 2 };
      blank = None;
    }

abbrev pub function_number : ℕ → FuncId
function_number n = record { number = n }

abbrev pub no_place : Pos
no_place = record { file = 0; offset = 0 }

abbrev pub block_number : ℕ → BlockId
block_number n = record { number = n }

-- an instruction that gives a register, and one that gives none
abbrev pub giving : ℕ → Op → Instr
giving register it = record { op = it; register = Some register; at = no_place }

abbrev pub doing : Op → Instr
doing it = record { op = it; register = None; at = no_place }

abbrev pub integer : ℕ → Operand
integer n = Constant (constant.Int (pos n)) int_type

abbrev pub truth_of : Bool → Operand
truth_of it = Constant (constant.Truth it) bool_type

abbrev pub words : List ℕ → Operand
words text = Constant (constant.Text text) text_type

abbrev pub phi_of_two : ℕ → Operand → ℕ → Operand → Op
phi_of_two from first other second =
    op.Phi
    (record { from = block_number from; value = first }
    ∷ record { from = block_number other; value = second } ∷ [])

abbrev pub printing : List Operand → Op
printing operands = op.Call (call.Builtin builtin.Println operands)

abbrev pub block_of : List BlockId → List Instr → Block
block_of preds instrs = record { preds = preds; instrs = instrs }

-- a source function of parameters, results, registers, blocks and a recover block
abbrev pub source : List ℕ → List TypeId → List TypeId → List TypeId → List Block → Option BlockId → Function
source name params results registers blocks recover =
    record {
      name = name;
      kind = kind.Source;
      params = params;
      variadic = false;
      free = [];
      results = results;
      registers = registers;
      blocks = blocks;
      recover = recover;
    }

abbrev pub code_of : List Function → Code
code_of functions =
    record {
      types = few_types;
      names = [];
      packages = codes "main" ∷ [];
      declared = [];
      variables = [];
      methods = [];
      functions = functions;
    }

-- ---- a loop whose two phis swap 1 and 2 three times

abbrev pub swap_blocks : List Block
swap_blocks =
    block_of [] (doing (op.Jump (block_number 1)) ∷ [])
    ∷ block_of (block_number 0 ∷ block_number 2 ∷ [])
    (giving 0 (phi_of_two 0 (integer 1) 2 (Register 1))
    ∷ giving 1 (phi_of_two 0 (integer 2) 2 (Register 0))
    ∷ giving 2 (phi_of_two 0 (integer 0) 2 (Register 4))
    ∷ giving 3 (op.Binary (infix_of.Compare comparison.Less) (Register 2) (integer 3))
    ∷ doing (op.If (Register 3) (block_number 2) (block_number 3)) ∷ [])
    ∷ block_of (block_number 1 ∷ [])
    (doing op.Tick
    ∷ giving 4 (op.Binary (infix_of.Operate binary.Add) (Register 2) (integer 1))
    ∷ doing (op.Jump (block_number 1)) ∷ [])
    ∷ block_of (block_number 1 ∷ [])
    (doing (printing (Register 0 ∷ Register 1 ∷ [])) ∷ doing (op.Return []) ∷ []) ∷ []

abbrev pub swap_main : Function
swap_main =
    source (codes "main.main") [] []
    (int_type ∷ int_type ∷ int_type ∷ bool_type ∷ int_type ∷ []) swap_blocks None

unfoldable pub swap_code : Code
swap_code = code_of (swap_main ∷ [])

-- ---- func main() { println(f()) }
-- func f() (r int) { defer g(&r); panic(5) }
-- func g(p *int) { recover(); *p = 7 }

abbrev pub print_blocks : List Block
print_blocks =
    block_of []
    (giving 0 (op.Call (call.Static (function_number 1) []))
    ∷ doing (printing (Register 0 ∷ [])) ∷ doing (op.Return []) ∷ []) ∷ []

-- block 1 gives the result after a recovery
abbrev pub panic_blocks : List Block
panic_blocks =
    block_of []
    (giving 0 (op.New int_type)
    ∷ doing (op.Defer (call.Static (function_number 2) (Register 0 ∷ [])))
    ∷ giving 1 (op.MakeInterface any_type (integer 5))
    ∷ doing (op.Panic (Register 1)) ∷ [])
    ∷ block_of [] (giving 2 (op.Load (Register 0)) ∷ doing (op.Return (Register 2 ∷ [])) ∷ []) ∷ []

abbrev pub recover_blocks : List Block
recover_blocks =
    block_of []
    (giving 0 (op.Call (call.Builtin builtin.Recover []))
    ∷ doing (op.Store (Param 0) (integer 7)) ∷ doing (op.Return []) ∷ []) ∷ []

unfoldable pub recover_code : Code
recover_code =
    code_of
    (source (codes "main.main") [] [] (int_type ∷ []) print_blocks None
    ∷ source (codes "main.f") [] (int_type ∷ []) (pointer_type ∷ any_type ∷ int_type ∷ []) panic_blocks
    (Some (block_number 1))
    ∷ source (codes "main.g") (pointer_type ∷ []) [] (any_type ∷ []) recover_blocks None ∷ [])

-- ---- func main() { go g(); println("m") }
-- func g() { println("g") }

abbrev pub saying : List ℕ → Instr
saying text = doing (printing (words text ∷ []))

unfoldable pub go_code : Code
go_code =
    code_of
    (source (codes "main.main") [] [] []
    (block_of []
    (doing (op.Go (call.Static (function_number 1) [])) ∷ saying (codes "m") ∷ doing (op.Return []) ∷ []) ∷ []) None
    ∷ source (codes "main.g") [] [] [] (block_of [] (saying (codes "g") ∷ doing (op.Return []) ∷ []) ∷ []) None ∷ [])

-- ---- func main() { ch := make(chan int); ch <- 1 }

unfoldable pub send_code : Code
send_code =
    code_of
    (source (codes "main.main") [] [] (chan_type ∷ [])
    (block_of []
    (giving 0 (op.MakeChan chan_type (integer 0))
    ∷ doing (op.Send (Register 0) (integer 1)) ∷ doing (op.Return []) ∷ []) ∷ []) None ∷ [])

-- ---- func main() { m := map[int]bool{1: true, 2: true, 3: true}; for k := range m { println(k); delete(m, 2) } }

abbrev pub map_blocks : List Block
map_blocks =
    block_of []
    (giving 0 (op.MakeMap map_type)
    ∷ doing (op.Update (Register 0) (integer 1) (truth_of true))
    ∷ doing (op.Update (Register 0) (integer 2) (truth_of true))
    ∷ doing (op.Update (Register 0) (integer 3) (truth_of true))
    ∷ giving 1 (op.Range (Register 0))
    ∷ doing (op.Jump (block_number 1)) ∷ [])
    ∷ block_of (block_number 0 ∷ block_number 2 ∷ [])
    (giving 2 (op.Next (Register 1))
    ∷ giving 3 (op.Extract (Register 2) 0)
    ∷ doing (op.If (Register 3) (block_number 2) (block_number 3)) ∷ [])
    ∷ block_of (block_number 1 ∷ [])
    (giving 4 (op.Extract (Register 2) 1)
    ∷ doing op.Tick
    ∷ doing (printing (Register 4 ∷ []))
    ∷ doing (op.Call (call.Builtin builtin.Delete (Register 0 ∷ integer 2 ∷ [])))
    ∷ doing (op.Jump (block_number 1)) ∷ [])
    ∷ block_of (block_number 1 ∷ []) (doing (op.Return []) ∷ []) ∷ []

unfoldable pub map_code : Code
map_code =
    code_of
    (source (codes "main.main") [] [] (map_type ∷ range_type ∷ turn_type ∷ bool_type ∷ int_type ∷ []) map_blocks None
    ∷ [])
