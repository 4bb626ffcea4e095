-- The parts of what runnable code needs, as tests of a whole code.
use Rattle.std.specs.Prelude.{Bool, true, not, ◌||◌, ◌==◌, List, length, Option}
use Rattle.std.specs.List.{list_all}
use Rattle.std.specs.Option.{option_map_or}
use Rattle.go_base.specs.declared.ids.TypeId.{TypeId}
use Rattle.go_type.specs.Assignable.{underlying_term_of}
use Rattle.go_type.specs.Table.{Table, definition_at}
use Rattle.go_value.specs.Interfaces.{is_interface_type}
use Rattle.ssa_ir.specs.declared.code.Block.{Block}
use Rattle.ssa_ir.specs.declared.code.Code.{Code}
use Rattle.ssa_ir.specs.declared.code.Function.{Function}
use Rattle.ssa_ir.specs.declared.ops.Instr.{Instr}
use Rattle.ssa_mean.specs.BuiltIns.{is_text_term}
use Rattle.ssa_runnable.specs.Runnable.{runs, fits_external}

abbrev pub all_run : Code → Function → List Instr → Bool
all_run c f instrs = list_all (λ instr. runs c f instr.op) instrs

abbrev pub blocks_run : Code → Function → List Block → Bool
blocks_run c f blocks = list_all (λ block. all_run c f block.instrs) blocks

abbrev pub functions_run : Code → List Function → Bool
functions_run c functions = list_all (λ f. blocks_run c f f.blocks) functions

abbrev pub externals_fit : Table → List Function → Bool
externals_fit types functions = list_all (λ f. fits_external types f f.kind) functions

abbrev pub fits_error : Table → Option TypeId → Bool
fits_error types of = option_map_or (λ it. is_text_term (underlying_term_of types it)) of true

-- an interface type has no methods but those of its term
abbrev pub fits_interface : Table → TypeId → Bool
fits_interface types of = not (is_interface_type types of) || (length (definition_at types of).methods == 0)
