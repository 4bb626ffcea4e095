-- Frames that stand where a goroutine may wait.
use Rattle.std.proofs.Common.{refl, ap, sym, ◌∙◌, subst, subst₂, true≢false}
use Rattle.std.proofs.lemmas.Option.{none-some, same_Some}
use Rattle.std.specs.Option.{option_map}
use Rattle.std.specs.Prelude.{ℕ, suc, ◌≡◌, Bool, true, false, List, [], ◌∷◌, Some, drop, slice_get, if◌then◌else◌}
use Rattle.code_plan.specs.Forms.{IsStep, jump_of, next_of}
use Rattle.code_plan.specs.Plans.{Goes, here, late, made}
use Rattle.code_plan.specs.Registers.{Marks, Pending, may_give, may_write, before, behind}
use Rattle.code_plan.specs.declared.steps.Step.{Step}
use Rattle.plan_laws.proofs.Alike.{Known, IsPlaced, standing, on_way, IsAt}
use Rattle.plan_laws.proofs.Items.{drop_at, drop_behind, get_at, nil_cons, same_head}
use Rattle.plan_laws.proofs.Receiving.{IsWaiting}
use Rattle.plan_mean.specs.State as plans
use Rattle.ssa_ir.specs.Blocks.{instrs_at}
use Rattle.ssa_ir.specs.declared.code.Code.{Code}
use Rattle.ssa_ir.specs.declared.code.Function.{Function}
use Rattle.ssa_ir.specs.declared.ops.Instr.{Instr}
use Rattle.ssa_ir.specs.declared.ops.Op.{Op}
use Rattle.ssa_ir.specs.declared.ops.Op.TheVariants as op
use Rattle.ssa_mean.specs.Channels as channels
use Rattle.ssa_mean.specs.State as codes

-- ---- the step of an instruction that waits

abbrev pub is_load : Op → Bool
is_load (op.Load at) = true
is_load _ = false

pub waiting_no_load : (at : Op) → IsWaiting at → is_load at ≡ false
waiting_no_load (op.Load at) waits = absurd waits
waiting_no_load _ waits = refl

-- nothing is pending at its operands, nor behind a step where nothing was
pub before_none : (at : Op) → before at [] ≡ []
before_none (op.Send channel it) = refl
before_none (op.Receive channel comma_ok) = refl
before_none (op.Select blocking cases) = refl
before_none _ = refl

either_none : (b : Bool) → ◌≡◌ {A = Pending} (if b then [] else []) []
either_none true = refl
either_none false = refl

pub behind_none : (step : Step) → behind step [] ≡ []
behind_none step = either_none (may_write step)

-- an instruction that was made a step, and the step
pub record IsMade (code : Code) (function : Function) (marks : Marks) (pending : Pending) (instr : Instr)
    (instrs : List Instr) (steps : List Step) (last : Pending) : Type 0 where
  pub step : Step
  pub others : List Step
  pub is : steps ≡ step ∷ others
  pub may : may_give marks instr.op instr.register ≡ true
  pub made : IsStep (record { code = code; function = function; marks = marks; pending = before instr.op pending })
      instr.register instr.op step
  pub goes : Goes code function marks (behind step (before instr.op pending)) instrs others last

pub made_at : (code : Code) (function : Function) (marks : Marks) (pending : Pending) (all : List Instr)
    (steps : List Step) (last : Pending) → Goes code function marks pending all steps last
    → (instr : Instr) (instrs : List Instr) → all ≡ instr ∷ instrs → is_load instr.op ≡ false
    → IsMade code function marks pending instr instrs steps last
made_at code function marks pending all steps last (here _) instr instrs is no_load = absurd (nil_cons instr instrs is)
made_at code function marks pending all steps last (late _ _ first others _ register cell loads _ is_plain within _ _ _ _) instr instrs is
    no_load =
    absurd (true≢false (sym (ap is_load loads)
    ∙ ap (λ (one : Instr). is_load one.op) (same_head first instr others instrs is) ∙ no_load))
made_at code function marks pending all steps last (made _ _ first others step rest may is_step goes) instr instrs is
    no_load =
    subst₂ (λ (one : Instr) (its : List Instr). IsMade code function marks pending one its (step ∷ rest) last)
    (same_head first instr others instrs is) (ap (drop 1) is)
    (record { step = step; others = rest; is = refl; may = may; made = is_step; goes = goes })

-- ---- a frame that stands where it may wait

-- the step at which the planned frame stands then, and both behind
pub record StandsAt (k : Known) (function : Function) (frame : codes.Frame) (planned : plans.Frame) (instr : Instr) :
    Type 0 where
  pub step : Step
  pub is : slice_get planned.steps planned.step ≡ Some step
  pub may : may_give (k.marks frame.function.number) instr.op instr.register ≡ true
  pub made : IsStep (record { code = k.code; function = function; marks = k.marks frame.function.number; pending = before instr.op [] })
      instr.register instr.op step
  pub behind : IsPlaced k function [] (codes.advanced frame) (plans.advanced planned)

waiting_no_jump : (at : Op) (to : ℕ) → IsWaiting at → option_map (λ it. it.number) (jump_of at) ≡ Some to → ⊥
waiting_no_jump (op.Send channel it) to waits is = none-some to is
waiting_no_jump (op.Receive channel comma_ok) to waits is = none-some to is
waiting_no_jump (op.Select blocking cases) to waits is = none-some to is
waiting_no_jump _ to waits is = absurd waits

waiting_not_on_way : (instrs : List Instr) (instr : Instr) (to : ℕ) → slice_get instrs 0 ≡ Some instr
    → option_map (λ it. it.number) (next_of instrs) ≡ Some to → IsWaiting instr.op → ⊥
waiting_not_on_way [] instr to there is waits = none-some to is
waiting_not_on_way (only ∷ []) instr to there is waits =
    waiting_no_jump only.op to
    (subst (λ (one : Instr). IsWaiting one.op) (sym (same_Some only instr there)) waits) is
waiting_not_on_way (first ∷ second ∷ others) instr to there is waits = none-some to is

stands_by : (k : Known) (function : Function) (frame : codes.Frame) (planned : plans.Frame) (instr : Instr)
    → (at : IsAt k function [] frame planned)
    → IsMade k.code function (k.marks frame.function.number) [] instr
    (drop (suc frame.place) (instrs_at function frame.block)) (drop planned.step planned.steps) at.last
    → StandsAt k function frame planned instr
stands_by k function frame planned instr at it =
    record {
      step = it.step;
      is = get_at planned.steps planned.step it.step it.others it.is;
      may = it.may;
      made = it.made;
      behind = standing [] (codes.advanced frame) (plans.advanced planned) (record {
        same = at.same;
        block = at.block;
        is = at.is;
        steps = at.steps;
        last = at.last;
        goes = subst₂ (λ (pending : Pending) (steps : List Step). Goes k.code function (k.marks frame.function.number) pending
            (drop (suc frame.place) (instrs_at function frame.block)) steps at.last)
            (ap (behind it.step) (before_none instr.op) ∙ behind_none it.step)
            (sym (drop_behind planned.steps planned.step it.step it.others it.is)) it.goes;
      });
    }

pub stands_at : (k : Known) (function : Function) (frame : codes.Frame) (planned : plans.Frame)
    → IsPlaced k function [] frame planned → (instr : Instr) → channels.instr_at function frame ≡ Some instr
    → IsWaiting instr.op → StandsAt k function frame planned instr
stands_at k function frame planned (standing _ _ _ at) instr there waits =
    stands_by k function frame planned instr at (made_at k.code function (k.marks frame.function.number) []
    (drop frame.place (instrs_at function frame.block)) (drop planned.step planned.steps) at.last at.goes instr
    (drop (suc frame.place) (instrs_at function frame.block))
    (drop_at (instrs_at function frame.block) frame.place instr there) (waiting_no_load instr.op waits))
stands_at k function frame planned (on_way _ _ on) instr there waits =
    absurd (waiting_not_on_way (instrs_at function frame.block) instr on.number
    (sym (ap (slice_get (instrs_at function frame.block)) on.first) ∙ there) on.next waits)
