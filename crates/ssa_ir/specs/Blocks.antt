-- The instructions of blocks, the ends of blocks, and what they lead to.
use Rattle.std.specs.Prelude.{ℕ, Bool, true, false, List, [], Option, Some, None, slice_get}
use Rattle.go_base.specs.declared.ids.BlockId.{BlockId}
use Rattle.ssa_ir.specs.declared.code.Block.{Block}
use Rattle.ssa_ir.specs.declared.code.Function.{Function}
use Rattle.ssa_ir.specs.declared.ops.Instr.{Instr}
use Rattle.ssa_ir.specs.declared.ops.Op.{Op}
use Rattle.ssa_ir.specs.declared.ops.Op.TheVariants.{Jump, If, Return, Panic}

abbrev pub instrs_in : Option Block → List Instr
instrs_in None = []
instrs_in (Some block) = block.instrs

-- the instructions of a block; none where there is no such block
abbrev pub instrs_at : Function → ℕ → List Instr
instrs_at f block = instrs_in (slice_get f.blocks block)

-- whether a block ends with it
abbrev pub is_end_op : Op → Bool
is_end_op (Jump to) = true
is_end_op (If test then_to else_to) = true
is_end_op (Return results) = true
is_end_op (Panic value) = true
is_end_op _ = false

-- the blocks that it may lead to
abbrev pub targets_of : Op → Option BlockId × Option BlockId
targets_of (Jump to) = (Some to, None)
targets_of (If test then_to else_to) = (Some then_to, Some else_to)
targets_of _ = (None, None)
