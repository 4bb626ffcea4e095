-- Where jumps lead, one block further at a time.
use Rattle.std.proofs.Common.{◌≡◌, ℕ, List, Some, ap, sym, ◌∙◌}
use Rattle.std.specs.Prelude.{slice_get}
use Rattle.code_plan.specs.Forms.{LeadsOn, here, on, next_of}
use Rattle.code_plan.specs.Sites.{IsPassedOver}
use Rattle.go_base.specs.declared.ids.BlockId.{BlockId}
use Rattle.ssa_ir.specs.Blocks.{instrs_at, instrs_in}
use Rattle.ssa_ir.specs.declared.code.Block.{Block}
use Rattle.ssa_ir.specs.declared.code.Function.{Function}
use Rattle.ssa_mean.specs.Unwinding.{phis_first}

further : (function : Function) (from at : ℕ) (next : BlockId) → LeadsOn function from at
    → next_of (instrs_at function at) ≡ Some next → phis_first (instrs_at function next.number) ≡ 0
    → LeadsOn function from next.number
further function from at next (here block) e k = on block next.number next e k (here next.number)
further function from at next (on block to step e' k' rest) e k =
    on block next.number step e' k' (further function step.number to next rest e k)

-- over a block more
pub leads_further : (function : Function) (blocks : List Block) (from at : ℕ) (next : BlockId)
    → blocks ≡ function.blocks → LeadsOn function from at → IsPassedOver blocks at next
    → LeadsOn function from next.number
leads_further function blocks from at next e h passed =
    further function from at next h
    (sym (ap (λ (b : List Block). next_of (instrs_in (slice_get b at))) e) ∙ passed.leads)
    (sym (ap (λ (b : List Block). phis_first (instrs_in (slice_get b next.number))) e) ∙ passed.phis)
