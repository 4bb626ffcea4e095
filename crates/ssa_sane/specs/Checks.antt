-- What a check of blocks has seen, and finds.
use Rattle.std.specs.Prelude.{◌≡◌, ◌<◌, ◌≤◌, ◌==◌, ◌&&◌, ◌||◌, not, ℕ, Bool, true, false, List, take, length, Contains}
use Rattle.std.specs.Prelude.{Option, Some, None, slice_get}
use Rattle.std.specs.HashMap.{HashMap, get}
use Rattle.std.specs.Prelude.{nat_eq}
use Rattle.std.specs.declared.hash.BuildHasherDefault.{BuildHasherDefault}
use Rattle.std.specs.declared.hash.FoldHasher.{FoldHasher}
use Rattle.go_base.specs.declared.ids.BlockId.{BlockId}
use Rattle.ssa_ir.specs.Blocks.{instrs_at}
use Rattle.ssa_ir.specs.Uses.{given_registers, registers_in}
use Rattle.ssa_ir.specs.declared.code.Block.{Block}
use Rattle.ssa_ir.specs.declared.code.Function.{Function}
use Rattle.ssa_ir.specs.declared.ops.Instr.{Instr}
use Rattle.ssa_ir.specs.declared.ops.Op.{Op}
use Rattle.ssa_ir.specs.declared.ops.Op.TheVariants.{Phi}
use Rattle.ssa_ir.specs.declared.ops.PhiEdge.{PhiEdge}
use Rattle.ssa_sane.specs.Sane.{IsBlock, IsInstr, IsFault, is_phi, IsAvailableBehind, ArePreds, froms_of}
use Rattle.cg_solve.specs.LeastSets.{marked}
use Rattle.ssa_sane.specs.Flow.{ArePredRows, is_entry_of}
use Rattle.ssa_sane.specs.Places.{ArePlaces}
use Rattle.ssa_sane.specs.Walks.{has}
use Rattle.ssa_sane.specs.declared.counts.Counts.{Counts}
use Rattle.ssa_sane.specs.declared.places.Places.{Places}
use Rattle.cg_solve.specs.declared.table.Table.{Table}

-- the recover block exists, where one is named
abbrev pub Recovers : Function → Type 0
Recovers f = (id : BlockId) → f.recover ≡ Some id → id.number < length f.blocks

-- tables are those of a function whose recover block exists
pub record IsCheck (f : Function) (preds : Table ℕ) (places : Places) : Type 0 where
  pub recovers : Recovers f
  pub rows : ArePredRows f preds
  pub totals : Counts
  pub are : ArePlaces f places totals

abbrev pub Seen : Type 0
Seen = HashMap ℕ ℕ (BuildHasherDefault FoldHasher)

abbrev pub is_seen : Option ℕ → ℕ → Bool
is_seen (Some block) number = block == number
is_seen None number = false

-- the last block that gives a register, of those before a place
pub record HasSeen (f : Function) (block instr : ℕ) (seen : Seen) : Type 0 where
  pub here : (register : ℕ)
      → is_seen (get nat_eq seen register) block ≡ has (given_registers (take instr (instrs_at f block))) register
  pub past : (register other : ℕ) → get nat_eq seen register ≡ Some other → other ≤ block

-- a block holds an instruction and can be reached, and none leads to it if it is an entry
abbrev pub may_stand_in : Function → Places → ℕ → Block → Bool
may_stand_in f places number block =
    not (length block.instrs == 0)
    && (marked places.reached.items number && (length block.preds == 0 || not (is_entry_of f number)))

-- an instruction of a block was seen
pub record Sees (instr : Instr) (block : ℕ) (old new : Seen) : Type 0 where
  pub here : (register : ℕ) → instr.register ≡ Some register → get nat_eq new register ≡ Some block
  pub others : (register : ℕ) → (instr.register ≡ Some register → ⊥) → get nat_eq new register ≡ get nat_eq old register

-- the values of a phi
abbrev pub phi_edges : Op → Option (List PhiEdge)
phi_edges (Phi edges) = Some edges
phi_edges op = None

-- operands of a phi are available where their blocks end
abbrev pub IsEdgeRight : Function → PhiEdge → Type 0
IsEdgeRight f edge =
    (register : ℕ) → Contains (registers_in edge.value) register → IsAvailableBehind f edge.from.number register

-- the values of a phi are one for each block that leads to its own, and right
abbrev pub ArePhiRight : Function → ℕ → List PhiEdge → Type 0
ArePhiRight f block edges =
    ArePreds f block (froms_of edges) × ((edge : PhiEdge) → Contains edges edge → IsEdgeRight f edge)

-- an instruction has phis alone before it
abbrev pub ArePhisBefore : Function → ℕ → ℕ → Type 0
ArePhisBefore f block instr =
    (before : ℕ) (other : Instr) → before < instr → slice_get (instrs_at f block) before ≡ Some other
    → is_phi other ≡ true

-- instructions of a block are right
abbrev pub AreInstrsBelow : Function → ℕ → ℕ → Type 0
AreInstrsBelow f block count =
    (instr : ℕ) (at : Instr) → instr < count → slice_get (instrs_at f block) instr ≡ Some at → IsInstr f block instr at

-- a block is right, with its instructions
pub record IsRight (f : Function) (number : ℕ) (block : Block) : Type 0 where
  pub itself : IsBlock f number block
  pub instrs : (instr : ℕ) (at : Instr) → slice_get (instrs_at f number) instr ≡ Some at → IsInstr f number instr at

-- the first fault in a block
pub record IsFirstIn (f : Function) (block instr : ℕ) : Type 0 where
  pub fault : IsFault f block instr
  pub before : (other : ℕ) → IsFault f block other → instr ≤ other

-- the first instruction of a block that is not right
pub record IsFirstWrong (f : Function) (block instr : ℕ) : Type 0 where
  pub at : Instr
  pub stands : slice_get (instrs_at f block) instr ≡ Some at
  pub wrong : IsInstr f block instr at → ⊥
  pub before : AreInstrsBelow f block instr

abbrev pub AreRightBelow : Function → ℕ → Type 0
AreRightBelow f count =
    (number : ℕ) (block : Block) → number < count → slice_get f.blocks number ≡ Some block → IsRight f number block
