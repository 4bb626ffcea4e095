-- Where an instruction is done: what its operands are known to be, and what they are.
use Rattle.std.proofs.Common.{◌≡◌, ◌⊎◌, ℕ, true, List, [], ◌∷◌, Option, Some, None, slice_get}
use Rattle.ssa_runnable.specs.Runnable.{operands_of, runs}
use Rattle.code_safety.specs.Safety.{IsSafe}
use Rattle.code_safety.proofs.Values.{Typing, IsOf, Points, IsStore}
use Rattle.code_safety.proofs.Machines.{OpenFits, FrameFits, Stands, IsBegun, IsFresh, Takes, AreBelow, LaterFitsWhere}
use Rattle.go_base.specs.declared.ids.TypeId.{TypeId}
use Rattle.go_value.specs.Values.{Val, pointer, closure}
use Rattle.go_value.specs.declared.address.Pointer.{Pointer}
use Rattle.ssa_ir.specs.Blocks.{instrs_at}
use Rattle.ssa_ir.specs.declared.code.Code.{Code}
use Rattle.ssa_ir.specs.declared.code.Function.{Function}
use Rattle.ssa_ir.specs.declared.operands.Operand.{Operand}
use Rattle.ssa_ir.specs.declared.ops.Instr.{Instr}
use Rattle.ssa_ir.specs.declared.ops.Op.{Op}
use Rattle.ssa_mean.specs.Answers.{AreAnswers}
use Rattle.ssa_mean.specs.Operands.{function_at}
use Rattle.ssa_mean.specs.State.{running}
use Rattle.ssa_mean.specs.Step.{Site, value}
use Rattle.ssa_sane.specs.Sane.{IsInstr}
use Rattle.ssa_typed.specs.Forms.{FitsOp}
use Rattle.ssa_typed.specs.Operands.{known}
use Rattle.ssa_typed.specs.declared.known.Known.{Known}
use Rattle.ssa_typed.specs.declared.known.Known.TheVariants as known_as

-- ---- operands

abbrev pub Among : Operand → List Operand → Type 0
Among it [] = ⊥
Among it (other ∷ others) = (other ≡ it) ⊎ Among it others

-- a value is what is known of it
abbrev pub KnownFits : Code → Typing → Known → Val → Type 0
KnownFits c t (known_as.Held of) it = IsOf c t it of
KnownFits c t (known_as.Function id) it =
    (it ≡ closure id []) × ((f : Function) × ((function_at c id ≡ Some f) × (f.free ≡ [])))
KnownFits c t (known_as.Address base) it = (at : Pointer) × ((it ≡ pointer at) × Points c t at base)

pub record Valued (c : Code) (t : Typing) (k : Known) (found : Option Val) : Type 0 where
  pub it : Val
  pub is : found ≡ Some it
  pub fits : KnownFits c t k it

-- an operand of which something is known has a value, which is that
abbrev pub HasValue : Typing → Site → Operand → Type 0
HasValue t s it = (k : Known) → known s.code s.function it ≡ Some k → Valued s.code t k (value s it)

-- what the values that an instruction needs may be told from
pub record Reads (t : Typing) (s : Site) (at : Op) : Type 0 where
  pub safe : IsSafe s.code
  pub number : ℕ
  pub there : slice_get s.code.functions number ≡ Some s.function
  pub block : ℕ
  pub place : ℕ
  pub instr : Instr
  pub stands : slice_get (instrs_at s.function block) place ≡ Some instr
  pub is_op : instr.op ≡ at
  pub told : AreAnswers s.code.types s.answers
  pub store : IsStore s.code t s.machine.store
  pub values : (it : Operand) → Among it (operands_of at) → HasValue t s it
  pub runnable : runs s.code s.function at ≡ true

-- ---- registers

-- the type of the register that is given, where one is
abbrev pub register_type : Function → Option ℕ → Option TypeId
register_type f None = None
register_type f (Some register) = slice_get f.registers register

-- where one is given it has a type
abbrev pub IsRegister : Function → Option ℕ → Option TypeId → Type 0
IsRegister f None of = of ≡ None
IsRegister f (Some register) of = (id : TypeId) × ((of ≡ Some id) × (slice_get f.registers register ≡ Some id))

-- ---- the frame that runs, at an instruction

pub record SiteFits (t : Typing) (s : Site) (instr : Instr) : Type 0 where
  pub safe : IsSafe s.code
  pub told : AreAnswers s.code.types s.answers
  -- the machine around the frame
  pub machine : OpenFits s.code t s.machine
  pub there : slice_get s.machine.goroutines s.machine.sched.current.number ≡ Some s.goroutine
  pub frames : s.goroutine.frames ≡ s.frame ∷ s.below
  pub begin : LaterFitsWhere s.code t s.goroutine.begin
  pub calm : s.goroutine.fault ≡ None
  -- the frame
  pub fits : FrameFits s.code t s.function s.frame
  pub is_running : s.frame.state ≡ running
  pub stands : Stands s.function s.frame None
  pub started : IsBegun s.function s.frame ⊎ IsFresh s.function s.frame
  pub takes : Takes s.code s.function s.frame.result s.below
  pub lower : AreBelow s.code t s.frame.result s.below
  -- the instruction
  pub at : slice_get (instrs_at s.function s.frame.block) s.frame.place ≡ Some instr
  pub of : Option TypeId
  pub register : IsRegister s.function instr.register of
  pub typed : FitsOp s.code s.function instr.op of
  pub sane : IsInstr s.function s.frame.block s.frame.place instr
  pub runnable : runs s.code s.function instr.op ≡ true
