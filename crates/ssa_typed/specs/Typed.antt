-- Typed code: each instruction has operands and a register of the types that it needs. The first line of a function
-- counts as instruction 0 of its block 0.
use Rattle.std.specs.Prelude.{◌≡◌, ℕ, ◌-◌, ◌==◌, ◌<◌, nat_eq, Bool, true, false, not, ◌&&◌, ◌||◌, List, ◌++◌, length}
use Rattle.std.specs.Prelude.{take, Option, Some, None, is_some, IsTrue, slice_get}
use Rattle.std.specs.Bool.{beq}
use Rattle.std.specs.List.{flat_map, list_all, list_any}
use Rattle.go_base.specs.declared.ids.TypeId.{TypeId}
use Rattle.go_type.specs.Table.{Table, term_at}
use Rattle.ssa_ir.specs.Blocks.{instrs_at}
use Rattle.ssa_ir.specs.Uses.{given_registers}
use Rattle.ssa_ir.specs.declared.code.Block.{Block}
use Rattle.ssa_ir.specs.declared.code.Code.{Code}
use Rattle.ssa_ir.specs.declared.code.Function.{Function}
use Rattle.ssa_ir.specs.declared.code.FunctionKind.{FunctionKind}
use Rattle.ssa_ir.specs.declared.code.FunctionKind.TheVariants as kind
use Rattle.ssa_ir.specs.declared.ops.Call.TheVariants as call
use Rattle.ssa_ir.specs.declared.ops.Instr.{Instr}
use Rattle.ssa_ir.specs.declared.ops.Op.{Op}
use Rattle.ssa_ir.specs.declared.ops.Op.TheVariants as op
use Rattle.ssa_typed.specs.Calls.{term_where}
use Rattle.ssa_typed.specs.Forms.{FitsOp}
use Rattle.ssa_typed.specs.Operands.{register_at}
use Rattle.type_shapes.specs.Shapes.{is_slice, is_value_type}

-- ---- the first line of a function

abbrev pub is_wrapper : FunctionKind → Bool
is_wrapper kind.Wrapper = true
is_wrapper _ = false

abbrev pub is_external : FunctionKind → Bool
is_external kind.External = true
is_external _ = false

abbrev pub is_init : FunctionKind → Bool
is_init kind.Init = true
is_init _ = false

abbrev pub are_value_types : Table → List TypeId → Bool
are_value_types types ids = list_all (λ of. is_value_type (term_at types of)) ids

-- the last parameter of a variadic function has a type of the form `[]T`
abbrev pub has_rest : Table → Bool → List TypeId → Bool
has_rest types variadic params = not variadic || is_slice (term_where types (slice_get params (length params - 1)))

abbrev pub is_bare : Function → Bool
is_bare f = (length f.params == 0) && ((length f.free == 0) && (length f.results == 0))

-- external functions alone have no blocks, and the initialisation of a package has no parameters, free variables and
-- results
abbrev pub fits_kind : Function → Bool
fits_kind f = beq (is_external f.kind) (length f.blocks == 0) && (not (is_init f.kind) || is_bare f)

abbrev pub fits_header : Code → Function → Bool
fits_header c f =
    are_value_types c.types f.params && (are_value_types c.types f.free
    && (are_value_types c.types f.results && (has_rest c.types f.variadic f.params && fits_kind f)))

-- ---- instructions

-- a wrapper has no dynamic call, `go` or `defer`, and what has a `defer` has a recover block
abbrev pub is_allowed : Function → Op → Bool
is_allowed f (op.Call (call.Dynamic callee arguments)) = not (is_wrapper f.kind)
is_allowed f (op.Go called) = not (is_wrapper f.kind)
is_allowed f (op.Defer called) = not (is_wrapper f.kind) && is_some f.recover
is_allowed f _ = true

abbrev pub FitsTyped : Code → Function → Op → Option TypeId → Type 0
FitsTyped c f instr None = ⊥
FitsTyped c f instr (Some of) = FitsOp c f instr (Some of)

-- a register that is given has a type, and none of those given before is it
abbrev pub FitsRegister : Code → Function → Op → List ℕ → Option ℕ → Type 0
FitsRegister c f instr given None = FitsOp c f instr None
FitsRegister c f instr given (Some register) =
    FitsTyped c f instr (register_at f register) × IsTrue (not (list_any (nat_eq register) given))

-- an instruction, where registers were given before
abbrev pub IsTypedInstr : Code → Function → List ℕ → Instr → Type 0
IsTypedInstr c f given instr = IsTrue (is_allowed f instr.op) × FitsRegister c f instr.op given instr.register

-- ---- places

-- the instruction at an index is typed, where there is one
abbrev pub IsTypedIn : Code → Function → List ℕ → List Instr → ℕ → Type 0
IsTypedIn c f given instrs index =
    (instr : Instr) → slice_get instrs index ≡ Some instr
    → IsTypedInstr c f (given ++ given_registers (take index instrs)) instr

-- the registers that blocks give
abbrev pub given_in : List Block → List ℕ
given_in blocks = flat_map (λ block. given_registers block.instrs) blocks

abbrev pub IsTypedAt : Code → Function → ℕ → ℕ → Type 0
IsTypedAt c f block index = IsTypedIn c f (given_in (take block f.blocks)) (instrs_at f block) index

-- the first instruction of a list that is not typed
pub record IsFirstIllIn (c : Code) (f : Function) (given : List ℕ) (instrs : List Instr) (index : ℕ) : Type 0 where
  pub before : (k : ℕ) → k < index → IsTypedIn c f given instrs k
  pub instr : Instr
  pub stands : slice_get instrs index ≡ Some instr
  pub ill : IsTypedInstr c f (given ++ given_registers (take index instrs)) instr → ⊥

-- the first place of a function that is not typed
pub data IsFirstIllAt (c : Code) (f : Function) : ℕ → ℕ → Type 0 where
  in_header : fits_header c f ≡ false → IsFirstIllAt c f 0 0
  in_block : (block index : ℕ) → fits_header c f ≡ true → ((k i : ℕ) → k < block → IsTypedAt c f k i)
      → IsFirstIllIn c f (given_in (take block f.blocks)) (instrs_at f block) index → IsFirstIllAt c f block index

pub record IsTypedFunction (c : Code) (f : Function) : Type 0 where
  pub header : fits_header c f ≡ true
  pub instrs : (block index : ℕ) → IsTypedAt c f block index

-- ---- a whole code

abbrev pub IsTypedBelow : Code → ℕ → Type 0
IsTypedBelow c number = (k : ℕ) (f : Function) → k < number → slice_get c.functions k ≡ Some f → IsTypedFunction c f

-- each function is typed
abbrev pub IsTyped : Code → Type 0
IsTyped c = IsTypedBelow c (length c.functions)

-- the first place that is not typed, by function, block and instruction
pub record IsFirstIllTyped (c : Code) (number block index : ℕ) : Type 0 where
  pub before : IsTypedBelow c number
  pub function : Function
  pub stands : slice_get c.functions number ≡ Some function
  pub ill : IsFirstIllAt c function block index
