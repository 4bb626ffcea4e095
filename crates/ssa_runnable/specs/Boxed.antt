-- The types that the code puts into interfaces, in the order of its instructions.
use Rattle.std.specs.Prelude.{List, [], ◌∷◌, ◌++◌, Option, Some, None, if◌then◌else◌}
use Rattle.std.specs.List.{flat_map}
use Rattle.go_base.specs.declared.ids.TypeId.{TypeId}
use Rattle.go_type.specs.Table.{Table}
use Rattle.go_value.specs.Interfaces.{is_interface_type}
use Rattle.ssa_ir.specs.declared.code.Code.{Code}
use Rattle.ssa_ir.specs.declared.code.Block.{Block}
use Rattle.ssa_ir.specs.declared.code.Function.{Function}
use Rattle.ssa_ir.specs.declared.ops.Instr.{Instr}
use Rattle.ssa_ir.specs.declared.ops.Op.{Op}
use Rattle.ssa_ir.specs.declared.ops.Op.TheVariants as op
use Rattle.ssa_mean.specs.Faults.{error_string}
use Rattle.ssa_mean.specs.Operands.{type_of}

-- a value of an interface type is put into no other interface
abbrev pub types_where : Table → Option TypeId → List TypeId
types_where types None = []
types_where types (Some of) = if is_interface_type types of then [] else of ∷ []

abbrev pub boxed_by : Code → Function → Op → List TypeId
boxed_by c f (op.MakeInterface to it) = types_where c.types (type_of c f it)
boxed_by c f _ = []

abbrev pub boxed_all : Code → Function → List Instr → List TypeId
boxed_all c f instrs = flat_map (λ instr. boxed_by c f instr.op) instrs

abbrev pub boxed_blocks : Code → Function → List Block → List TypeId
boxed_blocks c f blocks = flat_map (λ block. boxed_all c f block.instrs) blocks

abbrev pub boxed_functions : Code → List Function → List TypeId
boxed_functions c functions = flat_map (λ f. boxed_blocks c f f.blocks) functions

abbrev pub types_if : Option TypeId → List TypeId
types_if None = []
types_if (Some of) = of ∷ []

abbrev pub boxed_of : Code → List TypeId
boxed_of c = boxed_functions c c.functions ++ types_if (error_string c)
