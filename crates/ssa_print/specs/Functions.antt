-- The texts of functions, line by line.
use Rattle.std.specs.Prelude.{ℕ, ◌+◌, ◌-◌, ◌==◌, nat_eq, Bool, true, false, ◌&&◌, List, [], ◌∷◌, ◌++◌, if◌then◌else◌}
use Rattle.std.specs.Prelude.{length, codes, decimal, slice_get, fold, Option, Some, None}
use Rattle.std.specs.List.{enumerate_from, flat_map}
use Rattle.indexmap.specs.IndexSet.{insert_all}
use Rattle.go_base.specs.declared.ids.BlockId.{BlockId}
use Rattle.go_base.specs.declared.ids.TypeId.{TypeId}
use Rattle.go_text.specs.Joined.{joined}
use Rattle.go_text.specs.TypeText.{type_text_of, results_text, last_param_text}
use Rattle.ssa_ir.specs.Blocks.{targets_of}
use Rattle.ssa_ir.specs.Uses.{given_register}
use Rattle.ssa_ir.specs.declared.code.Block.{Block}
use Rattle.ssa_ir.specs.declared.code.Function.{Function}
use Rattle.ssa_ir.specs.declared.ops.Instr.{Instr}
use Rattle.ssa_print.specs.Instructions.{op_text}
use Rattle.ssa_print.specs.Operands.{Setting, register_text}

-- ---- the first line

abbrev pub param_type_text : Setting → Bool → TypeId → List ℕ
param_type_text s true param = last_param_text s.naming (type_text_of s.naming) param
param_type_text s false param = type_text_of s.naming param

-- a parameter by its number; the last of a variadic function is written by its elements
abbrev pub param_text : Setting → Bool → ℕ → ℕ × TypeId → List ℕ
param_text s variadic count param =
    codes "p" ++ (decimal param.0 ++ (codes " " ++ param_type_text s (variadic && (param.0 + 1 == count)) param.1))

abbrev pub free_text : Setting → ℕ × TypeId → List ℕ
free_text s free = codes "f" ++ (decimal free.0 ++ (codes " " ++ type_text_of s.naming free.1))

abbrev pub frees_text : Setting → List TypeId → List ℕ
frees_text s [] = []
frees_text s (x ∷ rest) = codes " free " ++ joined (codes ", ") (free_text s) (enumerate_from 0 (x ∷ rest))

abbrev pub recover_text : Option BlockId → List ℕ
recover_text None = []
recover_text (Some block) = codes " recover " ++ decimal block.number

-- how the first line ends; that of a function without a body says so
abbrev pub ending_by_blocks : List Block → List ℕ
ending_by_blocks [] = codes ": external\n"
ending_by_blocks (block ∷ rest) = codes ":\n"

abbrev pub ending_text : Function → List ℕ
ending_text function = ending_by_blocks function.blocks

abbrev pub title_text : Function → List ℕ
title_text f = codes "func " ++ f.name

-- the parameters and the results
abbrev pub signature_text : Setting → Function → List ℕ
signature_text s f =
    codes "(" ++ (joined (codes ", ") (param_text s f.variadic (length f.params)) (enumerate_from 0 f.params)
    ++ (codes ")" ++ results_text (type_text_of s.naming) f.results))

-- what stands behind the results
abbrev pub notes_text : Setting → Function → List ℕ
notes_text s f = frees_text s f.free ++ (recover_text f.recover ++ ending_text f)

abbrev pub header_text : Setting → Function → List ℕ
header_text s f = title_text f ++ (signature_text s f ++ notes_text s f)

-- ---- instructions

abbrev pub given_text : List ℕ → Option ℕ → List ℕ
given_text given None = []
given_text given (Some register) = register_text given register ++ codes " = "

abbrev pub register_type_text : Setting → Option TypeId → List ℕ
register_type_text s None = []
register_type_text s (Some of) = type_text_of s.naming of

abbrev pub type_of_given : Setting → List TypeId → Option ℕ → List ℕ
type_of_given s registers None = []
type_of_given s registers (Some register) = codes "\t" ++ register_type_text s (slice_get registers register)

-- the line of an instruction, with the register that it gives and that register's type
abbrev pub line_text : Setting → List ℕ → List TypeId → Instr → List ℕ
line_text s given registers instr =
    codes "\t"
    ++ (given_text given instr.register
    ++ (op_text s given instr.op ++ (type_of_given s registers instr.register ++ codes "\n")))

-- ---- blocks

-- a block counts once, also where it is both targets
abbrev pub distinct_count : Option BlockId × Option BlockId → ℕ
distinct_count (None, None) = 0
distinct_count (Some first, None) = 1
distinct_count (None, Some second) = 1
distinct_count (Some first, Some second) = if first.number == second.number then 1 else 2

abbrev pub count_at : Option Instr → ℕ
count_at None = 0
count_at (Some last) = distinct_count (targets_of last.op)

-- how many blocks the last instruction may lead to
abbrev pub target_count : List Instr → ℕ
target_count instrs = count_at (slice_get instrs (length instrs - 1))

abbrev pub block_line : ℕ → Block → List ℕ
block_line number block =
    decimal number
    ++ (codes ":\tP:"
    ++ (decimal (length block.preds) ++ (codes " S:" ++ (decimal (target_count block.instrs) ++ codes "\n"))))

abbrev pub block_text : Setting → List ℕ → List TypeId → ℕ × Block → List ℕ
block_text s given registers block = block_line block.0 block.1 ++ flat_map (line_text s given registers) block.1.instrs

-- ---- a function

-- the registers that are met, and behind them those that instructions give, each once
abbrev pub numbering_in : List ℕ → List Instr → List ℕ
numbering_in met instrs = fold (λ given instr. insert_all nat_eq given (given_register instr)) met instrs

-- the registers that blocks give, in the order of the text
abbrev pub numbering : List Block → List ℕ
numbering blocks = fold (λ given block. numbering_in given block.instrs) [] blocks

unfoldable pub function_lines : Setting → Function → List ℕ
function_lines s f =
    header_text s f ++ flat_map (block_text s (numbering f.blocks) f.registers) (enumerate_from 0 f.blocks)
