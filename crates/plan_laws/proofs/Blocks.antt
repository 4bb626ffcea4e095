-- Functions and blocks of a code, and what is planned of them.
use Rattle.std.proofs.Common.{◌≡◌, ℕ, List, [], Option, Some, None, ap, refl, sym, subst}
use Rattle.std.specs.Prelude.{drop, slice_get}
use Rattle.std.specs.Option.{IsSomeAnd, MatchOption}
use Rattle.std.proofs.lemmas.Slice.Zip.{AllZip-left, AllZip-right}
use Rattle.code_plan.specs.Plans.{Goes, IsBlock, IsFunction}
use Rattle.code_plan.specs.Registers.{Marks}
use Rattle.code_plan.specs.declared.steps.PlannedBlock.{PlannedBlock}
use Rattle.code_plan.specs.declared.steps.PlannedFunction.{PlannedFunction}
use Rattle.plan_laws.proofs.Alike.{Known, IsKnown, IsFunctionAt, IsFrame}
use Rattle.plan_mean.specs.State as plans
use Rattle.ssa_ir.specs.Blocks.{instrs_at, instrs_in}
use Rattle.ssa_ir.specs.declared.code.Block.{Block}
use Rattle.ssa_ir.specs.declared.code.Code.{Code}
use Rattle.ssa_ir.specs.declared.code.Function.{Function}
use Rattle.ssa_ir.specs.declared.ops.Instr.{Instr}
use Rattle.ssa_mean.specs.State as codes
use Rattle.ssa_mean.specs.Unwinding.{phis_first}

-- ---- functions

both_there : (code : Code) (marks : Marks) (found : Option Function) (planned : Option PlannedFunction)
    → IsFunctionAt code marks found planned → (function : Function) (it : PlannedFunction)
    → found ≡ Some function → planned ≡ Some it → IsFunction code marks function it
both_there code marks found planned is function it p q =
    subst (λ (x : Option PlannedFunction). IsFunctionAt code marks (Some function) x) q
    (subst (λ (x : Option Function). IsFunctionAt code marks x planned) p is)

-- the function of a frame is planned as the function of the planned frame
pub function_of : (k : Known) → IsKnown k → (function : Function) (frame : codes.Frame) (row : _) (planned : plans.Frame)
    → IsFrame k function frame row planned
    → IsFunction k.code (k.marks frame.function.number) function planned.function
function_of k known function frame row planned is =
    both_there k.code _ _ _ (known.functions frame.function.number) function planned.function is.there is.planned_there

-- ---- blocks

pub record BlockAt (code : Code) (marks : Marks) (function : Function) (planned : PlannedFunction) (n : ℕ) : Type 0 where
  pub block : Block
  pub it : PlannedBlock
  pub there : slice_get function.blocks n ≡ Some block
  pub planned_there : slice_get planned.blocks.items n ≡ Some it
  pub is : IsBlock code function marks block it

some_and : {A : Type 0} {P : A → Type 0} (found : Option A) → IsSomeAnd found P → (x : A) × ((found ≡ Some x) × P x)
some_and (Some x) p = (x, (refl, p))
some_and None p = absurd p

pub planned_block : (code : Code) (marks : Marks) (function : Function) (planned : PlannedFunction)
    → IsFunction code marks function planned → (n : ℕ) (it : PlannedBlock) → slice_get planned.blocks.items n ≡ Some it
    → BlockAt code marks function planned n
planned_block code marks function planned is n it there =
    let found = some_and (slice_get function.blocks n)
    (subst (λ (x : Option PlannedBlock). MatchOption x (Unit {0}) (λ y. IsSomeAnd (slice_get function.blocks n) (λ x. IsBlock code function marks x y)))
    there (AllZip-right (IsBlock code function marks) function.blocks planned.blocks.items is.blocks n)) in
    record { block = found.0; it = it; there = found.1.0; planned_there = there; is = found.1.1 }

pub code_block : (code : Code) (marks : Marks) (function : Function) (planned : PlannedFunction)
    → IsFunction code marks function planned → (n : ℕ) (block : Block) → slice_get function.blocks n ≡ Some block
    → BlockAt code marks function planned n
code_block code marks function planned is n block there =
    let found = some_and (slice_get planned.blocks.items n)
    (subst (λ (x : Option Block). MatchOption x (Unit {0}) (λ x. IsSomeAnd (slice_get planned.blocks.items n) (λ y. IsBlock code function marks x y)))
    there (AllZip-left (IsBlock code function marks) function.blocks planned.blocks.items is.blocks n)) in
    record { block = block; it = found.0; there = there; planned_there = found.1.0; is = found.1.1 }

-- at the beginning of a block, behind its phis
pub begins : (code : Code) (marks : Marks) (function : Function) (planned : PlannedFunction) (n : ℕ)
    → (at : BlockAt code marks function planned n)
    → Goes code function marks [] (drop (phis_first (instrs_at function n)) (instrs_at function n)) at.it.steps.items
    at.is.last
begins code marks function planned n at =
    subst (λ (instrs : List Instr). Goes code function marks [] (drop (phis_first instrs) instrs) at.it.steps.items at.is.last)
    (sym (ap instrs_in at.there)) at.is.steps
