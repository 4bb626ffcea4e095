-- The registers that instructions use and give.
use Rattle.std.specs.Prelude.{ℕ, List, [], ◌∷◌, ◌++◌, Option, Some, None}
use Rattle.std.specs.List.{flat_map}
use Rattle.ssa_ir.specs.declared.operands.Operand.{Operand}
use Rattle.ssa_ir.specs.declared.operands.Operand.TheVariants.{Register}
use Rattle.ssa_ir.specs.declared.ops.Op.{Op}
use Rattle.ssa_ir.specs.declared.ops.Op.TheVariants as op
use Rattle.ssa_ir.specs.declared.ops.Call.{Call}
use Rattle.ssa_ir.specs.declared.ops.Call.TheVariants.{Static, Dynamic, Invoke, Builtin}
use Rattle.ssa_ir.specs.declared.ops.SelectCase.{SelectCase}
use Rattle.ssa_ir.specs.declared.ops.SelectCase.TheVariants.{Send, Receive}
use Rattle.ssa_ir.specs.declared.ops.Instr.{Instr}

abbrev pub registers_in : Operand → List ℕ
registers_in (Register register) = register ∷ []
registers_in _ = []

abbrev pub registers_in_all : List Operand → List ℕ
registers_in_all operands = flat_map registers_in operands

abbrev pub registers_in_option : Option Operand → List ℕ
registers_in_option (Some operand) = registers_in operand
registers_in_option None = []

abbrev pub registers_in_call : Call → List ℕ
registers_in_call (Static function arguments) = registers_in_all arguments
registers_in_call (Dynamic callee arguments) = registers_in callee ++ registers_in_all arguments
registers_in_call (Invoke receiver name package_number arguments) = registers_in receiver ++ registers_in_all arguments
registers_in_call (Builtin builtin arguments) = registers_in_all arguments

abbrev pub registers_in_case : SelectCase → List ℕ
registers_in_case (Send channel value) = registers_in channel ++ registers_in value
registers_in_case (Receive channel) = registers_in channel

abbrev pub registers_in_cases : List SelectCase → List ℕ
registers_in_cases cases = flat_map registers_in_case cases

-- the registers among the operands, but for those of a phi, which are read where a block before ends
abbrev pub used_registers : Op → List ℕ
used_registers (op.New of) = []
used_registers (op.Phi edges) = []
used_registers (op.Binary operator left right) = registers_in left ++ registers_in right
used_registers (op.Unary operator operand) = registers_in operand
used_registers (op.Load at) = registers_in at
used_registers (op.Store at value) = registers_in at ++ registers_in value
used_registers (op.Field operand field) = registers_in operand
used_registers (op.FieldAddress operand field) = registers_in operand
used_registers (op.Index operand index) = registers_in operand ++ registers_in index
used_registers (op.IndexAddress operand index) = registers_in operand ++ registers_in index
used_registers (op.Lookup map key comma_ok) = registers_in map ++ registers_in key
used_registers (op.Update map key value) = registers_in map ++ (registers_in key ++ registers_in value)
used_registers (op.Slice operand low high max) =
    registers_in operand ++ (registers_in_option low ++ (registers_in_option high ++ registers_in_option max))
used_registers (op.Convert to operand) = registers_in operand
used_registers (op.ChangeType to operand) = registers_in operand
used_registers (op.MakeInterface to operand) = registers_in operand
used_registers (op.ChangeInterface to operand) = registers_in operand
used_registers (op.MakeClosure function captured) = registers_in_all captured
used_registers (op.MakeMap of) = []
used_registers (op.MakeChan of size) = registers_in size
used_registers (op.MakeSlice of len cap) = registers_in len ++ registers_in cap
used_registers (op.TypeAssert operand to comma_ok) = registers_in operand
used_registers (op.Call call) = registers_in_call call
used_registers (op.Go call) = registers_in_call call
used_registers (op.Defer call) = registers_in_call call
used_registers op.RunDefers = []
used_registers (op.Send channel value) = registers_in channel ++ registers_in value
used_registers (op.Receive channel comma_ok) = registers_in channel
used_registers (op.Select blocking cases) = registers_in_cases cases
used_registers (op.Range operand) = registers_in operand
used_registers (op.Next operand) = registers_in operand
used_registers (op.Extract operand part) = registers_in operand
used_registers op.Tick = []
used_registers (op.Jump to) = []
used_registers (op.If test then_to else_to) = registers_in test
used_registers (op.Return results) = registers_in_all results
used_registers (op.Panic value) = registers_in value

abbrev pub given_register : Instr → List ℕ
given_register instr = registers_given instr.register
  where
    registers_given : Option ℕ → List ℕ
    registers_given (Some register) = register ∷ []
    registers_given None = []

-- the registers that instructions give, in order
abbrev pub given_registers : List Instr → List ℕ
given_registers instrs = flat_map given_register instrs
