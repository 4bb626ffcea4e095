-- The phis in front of a block are its first instructions.
use Rattle.std.proofs.Common.{◌≡◌, ℕ, suc, Bool, true, false, List, [], ◌∷◌, ◌-◌, ◌≤◌, refl, ap, subst, ◌∙◌, drop, length, take, arith, length-drop}
use Rattle.std.proofs.lemmas.List.{take_all}
use Rattle.std.specs.List.{AllZip}
use Rattle.std.specs.Prelude.{if◌then◌else◌}
use Rattle.code_plan.specs.Plans.{Goes, IsBlock, IsPhi}
use Rattle.code_plan.specs.Sites.{HasSteps, site_with}
use Rattle.code_plan.specs.declared.blocks.Body.{Body}
use Rattle.code_plan.specs.declared.steps.PlannedBlock.{PlannedBlock}
use Rattle.ssa_ir.specs.declared.code.Block.{Block}
use Rattle.ssa_ir.specs.declared.ops.Instr.{Instr}
use Rattle.ssa_mean.specs.Step.{front_phis}
use Rattle.ssa_mean.specs.Unwinding.{is_phi, phis_first}

one_more : (b : Bool) (instr : Instr) (instrs : List Instr) → take (phis_first instrs) instrs ≡ front_phis instrs
    → take (if b then suc (phis_first instrs) else 0) (instr ∷ instrs) ≡ (if b then instr ∷ front_phis instrs else [])
one_more true instr instrs h = ap (λ l. instr ∷ l) h
one_more false instr instrs h = refl

pub take-phis_first : (instrs : List Instr) → take (phis_first instrs) instrs ≡ front_phis instrs
take-phis_first [] = refl
take-phis_first (instr ∷ instrs) = one_more (is_phi instr.op) instr instrs (take-phis_first instrs)

-- a block of instructions, of which so many stand in front
pub block_by : (body : Body) (block : Block) (instrs : List Instr) (front : ℕ) (it : PlannedBlock)
    → instrs ≡ block.instrs → front ≡ phis_first instrs
    → AllZip (IsPhi (site_with body [])) (take front instrs) it.phis.items
    → HasSteps (site_with body []) (take (length instrs - front) (drop front instrs)) it.steps.items
    → IsBlock body.planner.now.code.now body.function.now (site_with body []).marks block it
block_by body block instrs front it e f phis steps =
    let s = site_with body [] in
    let first : take front instrs ≡ front_phis block.instrs =
    ap (λ (n : ℕ). take n instrs) f ∙ take-phis_first instrs ∙ ap front_phis e in
    let short : length (drop front instrs) ≤ length instrs - front = omega (arith, length-drop front instrs) in
    let behind : take (length instrs - front) (drop front instrs) ≡ drop (phis_first block.instrs) block.instrs =
    take_all (length instrs - front) (drop front instrs) short ∙ ap (λ (n : ℕ). drop n instrs) f ∙ ap (λ (l : List Instr). drop (phis_first l) l) e in
    record {
      phis = subst (λ (l : List Instr). AllZip (IsPhi s) l it.phis.items) first phis;
      last = steps.0;
      steps = subst (λ (l : List Instr). Goes s.code s.function s.marks [] l it.steps.items steps.0) behind steps.1;
    }
