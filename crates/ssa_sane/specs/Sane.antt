-- Which registers are available, and which functions are sane.
use Rattle.std.specs.Prelude.{◌≡◌, ◌↔◌, ◌⊎◌, ℕ, ◌+◌, ◌<◌, ◌≤◌, Bool, true, false, List, [], ◌∷◌, ◌++◌, length, take}
use Rattle.std.specs.Prelude.{Contains, Some, slice_get, ⊤}
use Rattle.std.specs.List.{flat_map, take_while}
use Rattle.std.specs.List.Sorted.{IsStrictlyIncreasing}
use Rattle.go_base.specs.declared.ids.BlockId.{BlockId}
use Rattle.ssa_ir.specs.Blocks.{instrs_at, is_end_op, targets_of}
use Rattle.ssa_ir.specs.Uses.{used_registers, registers_in, given_registers}
use Rattle.ssa_ir.specs.declared.code.Block.{Block}
use Rattle.ssa_ir.specs.declared.code.Function.{Function}
use Rattle.ssa_ir.specs.declared.ops.Instr.{Instr}
use Rattle.ssa_ir.specs.declared.ops.Op.{Op}
use Rattle.ssa_ir.specs.declared.ops.Op.TheVariants.{New, Phi}
use Rattle.ssa_ir.specs.declared.ops.PhiEdge.{PhiEdge}
use Rattle.ssa_sane.specs.declared.checking.SanityError.{SanityError}
use Rattle.ssa_sane.specs.declared.checking.SanityError.TheVariants.{Insane, OutOfMemory}

-- ---- blocks and what they lead to

-- a target of an instruction
abbrev pub IsTarget : Op → ℕ → Type 0
IsTarget op to =
    ((id : BlockId) × (((targets_of op).0 ≡ Some id) × (id.number ≡ to)))
    ⊎ ((id : BlockId) × (((targets_of op).1 ≡ Some id) × (id.number ≡ to)))

-- a block leads to another that exists: a target of its last instruction
pub record Leads (f : Function) (from to : ℕ) : Type 0 where
  pub front : List Instr
  pub last : Instr
  pub stands : instrs_at f from ≡ front ++ last ∷ []
  pub target : IsTarget last.op to
  pub exists : to < length f.blocks

-- ---- walks

abbrev pub is_new : Instr → Bool
is_new instr = is_new_op instr.op
  where
    is_new_op : Op → Bool
    is_new_op (New of) = true
    is_new_op _ = false

-- the registers of the `new` with which block 0 begins
abbrev pub first_cells : Function → List ℕ
first_cells f = given_registers (take_while is_new (instrs_at f 0))

-- a walk to the entry of a block, with the registers that are given on it; one from a recover block begins with the
-- first cells of block 0
pub data Walk (f : Function) : ℕ → List ℕ → Type 0 where
  enters : Walk f 0 []
  recovers : (block : BlockId) → f.recover ≡ Some block → 0 < block.number → Walk f block.number (first_cells f)
  goes : (from to : ℕ) (given : List ℕ) → Walk f from given → Leads f from to
      → Walk f to (given ++ given_registers (instrs_at f from))

-- every walk gives the register before the instruction
abbrev pub IsAvailable : Function → ℕ → ℕ → ℕ → Type 0
IsAvailable f block instr register =
    (given : List ℕ) → Walk f block given
    → Contains (given ++ given_registers (take instr (instrs_at f block))) register

-- the same where a block ends
abbrev pub IsAvailableBehind : Function → ℕ → ℕ → Type 0
IsAvailableBehind f block register = IsAvailable f block (length (instrs_at f block)) register

-- ---- faults

-- an entry of the function
abbrev pub IsEntry : Function → ℕ → Type 0
IsEntry f block = (block ≡ 0) ⊎ ((id : BlockId) × ((f.recover ≡ Some id) × (id.number ≡ block)))

-- numbers are those of the blocks that lead to a block, each once
pub record ArePreds (f : Function) (block : ℕ) (numbers : List ℕ) : Type 0 where
  pub once : (front back : List ℕ) (number : ℕ) → numbers ≡ front ++ number ∷ back → Contains (front ++ back) number → ⊥
  pub each : (number : ℕ) → Contains numbers number ↔ Leads f number block

abbrev pub numbers_of : List BlockId → List ℕ
numbers_of ids = flat_map (λ id. id.number ∷ []) ids

abbrev pub froms_of : List PhiEdge → List ℕ
froms_of edges = flat_map (λ edge. edge.from.number ∷ []) edges

-- a block can be reached, holds an instruction, and its list of predecessors is right: an entry has none
pub record IsBlock (f : Function) (number : ℕ) (block : Block) : Type 0 where
  pub reached : (given : List ℕ) × Walk f number given
  pub holds : 0 < length block.instrs
  pub preds : ArePreds f number (numbers_of block.preds)
  pub entry : IsEntry f number → block.preds ≡ []

abbrev pub is_phi : Instr → Bool
is_phi instr = is_phi_op instr.op
  where
    is_phi_op : Op → Bool
    is_phi_op (Phi edges) = true
    is_phi_op _ = false

-- the operands of an instruction are available: those of a phi where their predecessors end
abbrev pub HasOperands : Function → ℕ → ℕ → Op → Type 0
HasOperands f block instr (Phi edges) =
    ArePreds f block (froms_of edges)
    × ((before : ℕ) (other : Instr) → before < instr → slice_get (instrs_at f block) before ≡ Some other
    → is_phi other ≡ true)
    × ((edge : PhiEdge) (register : ℕ) → Contains edges edge → Contains (registers_in edge.value) register
    → IsAvailableBehind f edge.from.number register)
HasOperands f block instr op =
    (register : ℕ) → Contains (used_registers op) register → IsAvailable f block instr register

-- an instruction is right at its place
pub record IsInstr (f : Function) (block instr : ℕ) (at : Instr) : Type 0 where
  pub ends : (is_end_op at.op ≡ true) ↔ (instr + 1 ≡ length (instrs_at f block))
  pub targets : (to : ℕ) → IsTarget at.op to → to < length f.blocks
  pub operands : HasOperands f block instr at.op

-- nothing is wrong
pub record IsSane (f : Function) : Type 0 where
  pub recover : (block : BlockId) → f.recover ≡ Some block → block.number < length f.blocks
  pub blocks : (number : ℕ) (block : Block) → slice_get f.blocks number ≡ Some block → IsBlock f number block
  pub instrs : (number instr : ℕ) (at : Instr) → slice_get (instrs_at f number) instr ≡ Some at
      → IsInstr f number instr at

-- a place at which something is wrong. A fault of a block stands at its instruction 0, and a recover block that does
-- not exist at the function's first place
pub data IsFault (f : Function) : ℕ → ℕ → Type 0 where
  no_recover : (block : BlockId) → f.recover ≡ Some block → length f.blocks ≤ block.number → IsFault f 0 0
  at_block : (number : ℕ) (block : Block) → slice_get f.blocks number ≡ Some block → (IsBlock f number block → ⊥)
      → IsFault f number 0
  at_instr : (number instr : ℕ) (at : Instr) → slice_get (instrs_at f number) instr ≡ Some at
      → (IsInstr f number instr at → ⊥) → IsFault f number instr

-- the first of such places, by block, then by instruction
pub record IsFirstFault (f : Function) (block instr : ℕ) : Type 0 where
  pub fault : IsFault f block instr
  pub first : (other at : ℕ) → IsFault f other at → (block < other) ⊎ ((block ≡ other) × (instr ≤ at))

-- of each block the registers that are available at its entry, ascending
pub record ListsAvailable (f : Function) (lists : List (List ℕ)) : Type 0 where
  pub counts : length lists ≡ length f.blocks
  pub ascend : (block : ℕ) (list : List ℕ) → slice_get lists block ≡ Some list → IsStrictlyIncreasing list
  pub exact : (block : ℕ) (list : List ℕ) → slice_get lists block ≡ Some list → (register : ℕ)
      → Contains list register ↔ IsAvailable f block 0 register

-- an error names the first fault; there may be no memory at any time
abbrev pub IsInsaneAt : Function → SanityError → Type 0
IsInsaneAt f (Insane block instr) = IsFirstFault f block instr
IsInsaneAt f OutOfMemory = ⊤
