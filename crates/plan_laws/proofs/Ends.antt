-- The run of a plan is one of its code.
use Rattle.std.proofs.Common.{◌≡◌, ℕ, false, zero, suc, List, [], ◌∷◌, Some, None, ap, refl, sym, subst, ◌∙◌, ap₂, ◌⊎◌, inl, inr}
use Rattle.std.specs.Prelude.{map, slice_get}
use Rattle.std.specs.List.{AllZip}
use Rattle.std.specs.Option.{option_map}
use Rattle.code_plan.specs.Plans.{IsFunctionOf, IsPlanOf}
use Rattle.code_plan.specs.Registers.{Marks, Pending}
use Rattle.code_plan.specs.declared.steps.PlannedFunction.{PlannedFunction}
use Rattle.go_base.specs.declared.ending.Ending.{Ending}
use Rattle.go_sched.specs.Goroutines.{started}
use Rattle.go_value.specs.Values.{Val, value_of}
use Rattle.plan_laws.proofs.Alike.{Known, IsKnown, IsFunctionAt, IsMachine, IsOther, Follows}
use Rattle.plan_laws.proofs.Stepping.{Soon, now, later, soon_alike}
use Rattle.plan_laws.specs.Runs.{OneRun, IsWorldOf}
use Rattle.plan_mean.specs.Calls as planned_calls
use Rattle.plan_mean.specs.Runs as planned_runs
use Rattle.plan_mean.specs.State as plans
use Rattle.plan_mean.specs.Step as planned
use Rattle.ssa_ir.specs.declared.code.Code.{Code}
use Rattle.ssa_ir.specs.declared.code.Function.{Function}
use Rattle.ssa_mean.specs.Runs as runs
use Rattle.ssa_mean.specs.Runs.{IsRunOf, IsStuck}
use Rattle.ssa_mean.specs.State as codes
use Rattle.ssa_mean.specs.Step as steps

-- ---- the marks of the functions of a plan

no_marks : Marks
no_marks = record { late = λ n. false; cell = λ n. false }

marks_of : (code : Code) (functions : List Function) (its : List PlannedFunction) → AllZip (IsFunctionOf code) functions its
    → ℕ → Marks
marks_of code [] its are n = no_marks
marks_of code (function ∷ functions) [] are n = absurd are
marks_of code (function ∷ functions) (it ∷ its) are zero = are.0.0
marks_of code (function ∷ functions) (it ∷ its) are (suc n) = marks_of code functions its are.1 n

functions_at : (code : Code) (functions : List Function) (its : List PlannedFunction) → (are : AllZip (IsFunctionOf code) functions its)
    → (n : ℕ) → IsFunctionAt code (marks_of code functions its are n) (slice_get functions n) (slice_get its n)
unfolding marks_of
functions_at code [] [] are n = tt
functions_at code [] (it ∷ its) are n = absurd are
functions_at code (function ∷ functions) [] are n = absurd are
functions_at code (function ∷ functions) (it ∷ its) are zero = are.0.1
functions_at code (function ∷ functions) (it ∷ its) are (suc n) = functions_at code functions its are.1 n

known_of : (code : Code) (w : plans.World) → IsPlanOf code w.plan → Known
known_of code w plan =
    record { code = code; w = w; marks = marks_of code code.functions w.plan.functions.items plan.functions }

is_known : (code : Code) (w : plans.World) → (is : IsWorldOf code w) → IsKnown (known_of code w is.plan)
unfolding known_of
is_known code w is =
    record {
      functions = functions_at code code.functions w.plan.functions.items is.plan.functions;
      methods = is.plan.methods;
      error_string = is.plan.error_string;
      naming = is.naming;
    }

-- ---- steps

has_gone : plans.Next → Type 0
has_gone (plans.goes q) = Unit {0}
has_gone (plans.ends e o) = ⊥
has_gone plans.stuck = Unit {0}

-- what has not ended
unended : {A : Type 0} (next : plans.Next) (e : Ending) (o : List ℕ) → next ≡ plans.ends e o → has_gone next → A
unfolding has_gone
unended next e o same gone = absurd (subst has_gone same gone)

ending_of : Ending → plans.Next → Ending
ending_of other (plans.ends e o) = e
ending_of other _ = other

output_of : List ℕ → plans.Next → List ℕ
output_of other (plans.ends e o) = o
output_of other _ = other

-- some steps of the code lead to an end, or nowhere
abbrev pub Comes : Known → codes.Machine → Ending → List ℕ → Type 0
Comes k m e o =
    (n : ℕ) × ((runs.steps n k.w.answers k.code m ≡ codes.ends e o) ⊎ (runs.steps n k.w.answers k.code m ≡ codes.stuck))

-- one step more
one_more : (k : Known) (m next : codes.Machine) (e : Ending) (o : List ℕ)
    → steps.step k.w.answers k.code m ≡ codes.goes next → Comes k next e o → Comes k m e o
one_more k m next e o same (n, inl led) =
    (suc n, inl (ap (runs.then_step (runs.steps n k.w.answers k.code)) same ∙ led))
one_more k m next e o same (n, inr led) =
    (suc n, inr (ap (runs.then_step (runs.steps n k.w.answers k.code)) same ∙ led))

-- the plan's run has an end from all machines that are alike
abbrev pub HasEnd : Known → ℕ → Type 0
HasEnd k j =
    (pending : Pending) (m : codes.Machine) (q : plans.Machine) → IsMachine k pending m q → (e : Ending) (o : List ℕ)
    → planned_runs.steps j k.w q ≡ plans.ends e o → Comes k m e o

after_both : (k : Known) (j : ℕ) → HasEnd k j → (m : codes.Machine) (next : codes.Next) (next' : plans.Next)
    → steps.step k.w.answers k.code m ≡ next → Follows k next next' → (e : Ending) (o : List ℕ)
    → planned_runs.then_step (planned_runs.steps j k.w) next' ≡ plans.ends e o → Comes k m e o
unfolding has_gone ending_of output_of
after_both k j rest m (codes.goes m') (plans.goes q) same alike e o h =
    one_more k m m' e o same (rest alike.0 m' q alike.1 e o h)
after_both k j rest m (codes.ends e1 o1) (plans.ends e2 o2) same alike e o h = (
  1,
  inl (ap (runs.then_step (runs.steps 0 k.w.answers k.code)) same
      ∙ ap₂ codes.ends (sym alike.0 ∙ ap (ending_of e2) h) (sym alike.1 ∙ ap (output_of o2) h)),
)
after_both k j rest m codes.stuck next' same alike e o h =
    (1, inr (ap (runs.then_step (runs.steps 0 k.w.answers k.code)) same))
after_both k j rest m (codes.goes m') plans.stuck same alike e o h = unended plans.stuck e o h tt
after_both k j rest m (codes.ends e1 o1) plans.stuck same alike e o h = unended plans.stuck e o h tt
after_both k j rest m (codes.goes m') (plans.ends e2 o2) same alike e o h = absurd alike
after_both k j rest m (codes.ends e1 o1) (plans.goes q) same alike e o h = absurd alike

soon_ends : (k : Known) (j : ℕ) → HasEnd k j → (m : codes.Machine) (q : plans.Machine) → Soon k m q → (e : Ending)
    (o : List ℕ) → planned_runs.steps (suc j) k.w q ≡ plans.ends e o → Comes k m e o
soon_ends k j rest m q (now m' q' alike) e o h =
    after_both k j rest m' (steps.step k.w.answers k.code m') (planned.step k.w q') refl alike e o h
soon_ends k j rest m q (later m' next q' same soon) e o h =
    one_more k m' next e o same (soon_ends k j rest next q' soon e o h)

has_end : (k : Known) → IsKnown k → (j : ℕ) → HasEnd k j
unfolding has_gone
has_end k known zero pending m q is e o h = unended (plans.goes q) e o h tt
has_end k known (suc j) pending m q is e o h =
    soon_ends k j (has_end k known j) m q (soon_alike k known pending m q is) e o h

-- ---- the first machines

first_code : (code : Code) (choices : List ℕ) (bound : ℕ) → List Val → codes.Machine
first_code code choices bound cells =
    record {
      goroutines = runs.new_goroutine ∷ [];
      starts = runs.starts_of code;
      store = record { cells = cells; maps = [] };
      sched = started choices false;
      ticks = bound;
      output = [];
    }

others_none : (k : Known) (n : ℕ) → (n ≡ 0 → ⊥)
    → IsOther k (slice_get (runs.new_goroutine ∷ []) n) (slice_get (planned_calls.new_goroutine None ∷ []) n)
others_none k zero other = absurd (other refl)
others_none k (suc n) other = tt

first_alike : (code : Code) (w : plans.World) → (is : IsWorldOf code w) → (choices : List ℕ) (bound : ℕ)
    → IsMachine (known_of code w is.plan) [] (first_code code choices bound (map value_of w.plan.variables.items))
    (planned_runs.first_machine w choices bound)
unfolding known_of first_code planned_runs.first_machine
first_alike code w is choices bound =
    record {
      around = record {
        others = others_none (known_of code w is.plan);
        holder = refl;
        count = refl;
        starts = sym is.plan.starts;
        store = refl;
        sched = refl;
        ticks = refl;
        output = refl;
      };
      g = runs.new_goroutine;
      there = refl;
      is = record { frames = tt; begin = tt; fault = refl; sources = refl };
      held = tt;
    }

first_is : (code : Code) (choices : List ℕ) (bound : ℕ) (cells : List Val)
    → runs.first_cells code code.variables ≡ Some cells
    → runs.first_machine code choices bound ≡ Some (first_code code choices bound cells)
unfolding first_code runs.first_machine
first_is code choices bound cells found = ap (option_map (first_code code choices bound)) found

pub one_run_lem : OneRun
unfolding known_of
one_run_lem code w choices bound output ending is planned_run =
    by_end (has_end (known_of code w is.plan) (is_known code w is) planned_run.count []
    (first_code code choices bound cells) (planned_runs.first_machine w choices bound)
    (first_alike code w is choices bound) ending output planned_run.leads)
  where
    cells : List Val
    cells = map value_of w.plan.variables.items

    by_end : Comes (known_of code w is.plan) (first_code code choices bound cells) ending output
        → IsRunOf code choices bound output ending ⊎ IsStuck code choices bound w.answers
    by_end (n, inl led) =
        inl (record {
          answers = w.answers;
          told = is.answers;
          first = first_code code choices bound cells;
          begins = first_is code choices bound cells is.plan.variables;
          count = n;
          leads = led;
        })
    by_end (n, inr led) =
        inr (record {
          first = first_code code choices bound cells;
          begins = first_is code choices bound cells is.plan.variables;
          count = n;
          leads = led;
        })
