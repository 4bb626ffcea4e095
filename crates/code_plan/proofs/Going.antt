-- The steps of instructions, one instruction more at a time.
use Rattle.std.proofs.Common.{◌≡◌, ℕ, ◌+◌, ◌<◌, ◌≤◌, Bool, true, false, List, [], ◌∷◌, ◌++◌, refl, sym, ap, subst, ◌∙◌, length, get_or, take}
use Rattle.std.proofs.lemmas.List.{append-nil, take_all, take_more}
use Rattle.std.specs.Prelude.{if◌then◌else◌}
use Rattle.code_plan.specs.Forms.{IsStep}
use Rattle.code_plan.specs.Plans.{Goes, here, late, made}
use Rattle.code_plan.specs.Registers.{Marks, Pending, Site, may_write, before, behind}
use Rattle.code_plan.specs.Sites.{GoesOn, HasRun, HasSteps, IsLateLoad, IsMade, pending_of, site_with}
use Rattle.code_plan.specs.declared.blocks.Body.{Body}
use Rattle.code_plan.specs.declared.blocks.Run.{Run}
use Rattle.code_plan.specs.declared.late.LateLoad.{LateLoad}
use Rattle.code_plan.specs.declared.steps.Step.{Step}
use Rattle.ssa_ir.specs.declared.code.Code.{Code}
use Rattle.ssa_ir.specs.declared.code.Function.{Function}
use Rattle.ssa_ir.specs.declared.ops.Instr.{Instr}

goes_on : (code : Code) (function : Function) (marks : Marks) (first between last : Pending) (instrs more : List Instr)
    (steps further : List Step) → Goes code function marks first instrs steps between
    → Goes code function marks between more further last
    → Goes code function marks first (instrs ++ more) (steps ++ further) last
goes_on code function marks first between last instrs more steps further (here pending) g = g
goes_on code function marks first between last instrs more steps further
    (late pending end instr others those register cell a b c d e f i rest) g =
    late pending last instr (others ++ more) (those ++ further) register cell a b c d e f i
    (goes_on code function marks _ between last others more those further rest g)
goes_on code function marks first between last instrs more steps further
    (made pending end instr others step those a b rest) g =
    made pending last instr (others ++ more) step (those ++ further) a b
    (goes_on code function marks _ between last others more those further rest g)

-- ---- a load that is made later

pending_more : (loads : List LateLoad) (load : LateLoad)
    → pending_of (loads ++ load ∷ []) ≡ pending_of loads ++ (load.register, load.cell) ∷ []
pending_more [] load = refl
pending_more (first ∷ loads) load = ap (λ l. (first.register, first.cell) ∷ l) (pending_more loads load)

pub late_more : (body : Body) (instr : Instr) (load : LateLoad) (loads more : List LateLoad) (steps : List Step)
    (instrs : List Instr) → IsLateLoad (site_with body []) instr load → more ≡ loads ++ load ∷ []
    → Goes body.planner.now.code.now body.function.now (site_with body []).marks [] instrs steps (pending_of loads)
    → Goes body.planner.now.code.now body.function.now (site_with body []).marks [] (instrs ++ instr ∷ []) steps
    (pending_of more)
late_more body instr load loads more steps instrs is_load k h =
    let s = site_with body [] in
    let e = sym (ap pending_of k ∙ pending_more loads load) in
    subst (Goes s.code s.function s.marks [] (instrs ++ instr ∷ []) steps) e
    (subst (λ (l : List Step). Goes s.code s.function s.marks [] (instrs ++ instr ∷ []) l
    (pending_of loads ++ (load.register, load.cell) ∷ [])) (append-nil steps)
    (goes_on s.code s.function s.marks [] (pending_of loads) (pending_of loads ++ (load.register, load.cell) ∷ [])
    instrs (instr ∷ []) steps [] h
    (late (pending_of loads) (pending_of loads ++ (load.register, load.cell) ∷ []) instr [] [] load.register load.cell
    is_load.loads is_load.gives is_load.late is_load.no_cell is_load.within is_load.cell is_load.not_late
    (here (pending_of loads ++ (load.register, load.cell) ∷ [])))))

-- ---- an instruction that makes its step

cleared : (b : Bool) (loads more : List LateLoad) → more ≡ (if b then [] else loads)
    → pending_of more ≡ (if b then [] else pending_of loads)
cleared true loads more e = ap pending_of e
cleared false loads more e = ap pending_of e

pub made_more : (body : Body) (instr : Instr) (step : Step) (waits writes : Bool)
    (loads between read more : List LateLoad) (steps further : List Step) (instrs : List Instr)
    → ((pending : Pending) → before instr.op pending ≡ (if waits then [] else pending))
    → between ≡ (if waits then [] else loads) → read ≡ between → IsMade (site_with body read) instr step
    → writes ≡ may_write step → more ≡ (if writes then [] else between) → further ≡ steps ++ step ∷ []
    → Goes body.planner.now.code.now body.function.now (site_with body []).marks [] instrs steps (pending_of loads)
    → Goes body.planner.now.code.now body.function.now (site_with body []).marks [] (instrs ++ instr ∷ []) further
    (pending_of more)
made_more body instr step waits writes loads between read more steps further instrs w e r it v k f h =
    let s = site_with body [] in
    let first : before instr.op (pending_of loads) ≡ pending_of between =
    w (pending_of loads) ∙ sym (cleared waits loads between e) in
    let second : behind step (pending_of between) ≡ pending_of more =
    ap (λ (b : Bool). if b then [] else pending_of between) (sym v) ∙ sym (cleared writes between more k) in
    let last : behind step (before instr.op (pending_of loads)) ≡ pending_of more = ap (behind step) first ∙ second in
    subst (Goes s.code s.function s.marks [] (instrs ++ instr ∷ []) further) last
    (subst (λ (l : List Step). Goes s.code s.function s.marks [] (instrs ++ instr ∷ []) l
    (behind step (before instr.op (pending_of loads)))) (sym f)
    (goes_on s.code s.function s.marks [] (pending_of loads) (behind step (before instr.op (pending_of loads)))
    instrs (instr ∷ []) steps (step ∷ []) h
    (made (pending_of loads) (behind step (before instr.op (pending_of loads))) instr [] step [] it.given
    (subst (λ (p : Pending). IsStep (record { code = s.code; function = s.function; marks = s.marks; pending = p })
    instr.register instr.op step) (ap pending_of r ∙ sym first) it.made)
    (here (behind step (before instr.op (pending_of loads)))))))

-- ---- runs of instructions

pub first_run : (s : Site) (run : Run) (instrs : List Instr) → run.steps.items ≡ [] → run.pending.items ≡ []
    → HasRun s (take 0 instrs) run
first_run s run instrs e k =
    subst (λ (l : List Step). Goes s.code s.function s.marks [] [] l (pending_of run.pending.items)) (sym e)
    (subst (λ (l : List LateLoad). Goes s.code s.function s.marks [] [] [] (pending_of l)) (sym k) (here []))

pub more_run : (s : Site) (run next : Run) (instrs : List Instr) (i : ℕ) (instr : Instr) → i < length instrs
    → instr ≡ get_or instrs i instr → HasRun s (take i instrs) run → GoesOn s run next instr
    → HasRun s (take (i + 1) instrs) next
more_run s run next instrs i instr l e h goes =
    subst (λ (l : List Instr). HasRun s l next)
    (ap (λ (x : Instr). take i instrs ++ x ∷ []) e ∙ sym (take_more instrs i instr l)) (goes (take i instrs) h)

pub whole_run : (s : Site) (run : Run) (instrs : List Instr) (i : ℕ) → length instrs ≤ i
    → HasRun s (take i instrs) run → HasSteps s instrs run.steps.items
whole_run s run instrs i l h =
    (pending_of run.pending.items, subst (λ (l : List Instr). HasRun s l run) (take_all i instrs l) h)
