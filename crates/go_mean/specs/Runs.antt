-- Runs of programs. Go specification, "Program initialization", "Program execution" and "Package initialization".
use Rattle.std.specs.Prelude.{◌≡◌, ℕ, zero, suc, Bool, true, false, List, [], ◌∷◌, ◌++◌, Option, Some, None}
use Rattle.std.specs.Prelude.{if◌then◌else◌, option_map}
use Rattle.std.specs.List.{filter}
use Rattle.go_base.specs.declared.ending.Ending.{Ending}
use Rattle.go_base.specs.declared.ids.FuncId.{FuncId}
use Rattle.go_sched.specs.Goroutines.{started}
use Rattle.go_tree.specs.declared.functions.FunctionDecl.{FunctionDecl}
use Rattle.go_tree.specs.declared.functions.FunctionForm.{FunctionForm}
use Rattle.go_tree.specs.declared.functions.FunctionForm.TheVariants as form
use Rattle.go_tree.specs.declared.program.Program.{Program}
use Rattle.go_tree.specs.declared.variables.Variable.{Variable}
use Rattle.go_value.specs.Values.{Val}
use Rattle.ssa_mean.specs.Answers.{Answers, AreAnswers}
use Rattle.ssa_mean.specs.Operands.{with_value}
use Rattle.go_mean.specs.Places.{is_of_package, zero_of}
use Rattle.go_mean.specs.State.{Setting, CallOf, Goroutine, Machine, Next, goes, ends, stuck}
use Rattle.go_mean.specs.Step.{step}

-- ---- the first state

-- a cell with the zero value for each variable of a package
abbrev pub first_cells : Program → List Variable → Option (List Val)
first_cells p [] = Some []
first_cells p (variable ∷ variables) = with_value (zero_of p variable.of) (first_cells p variables)

abbrev pub is_package_init : FunctionForm → Bool
is_package_init form.PackageInit = true
is_package_init _ = false

-- what initialises the packages, one after another, in their order
abbrev pub inits_from : ℕ → List FunctionDecl → List FuncId
inits_from n [] = []
inits_from n (declared ∷ others) =
    if is_package_init declared.form then record { number = n } ∷ inits_from (suc n) others
    else inits_from (suc n) others

abbrev pub main_of : Option FuncId → List FuncId
main_of None = []
main_of (Some id) = id ∷ []

-- packages are initialised; then `main.main` is called, where there is one
abbrev pub starts_of : Program → List FuncId
starts_of p = inits_from 0 p.functions ++ main_of p.main

abbrev pub new_goroutine : Goroutine
new_goroutine = record { frames = []; begin = None; fault = None }

unfoldable pub first_machine : Program → List ℕ → ℕ → Option Machine
first_machine p choices bound =
    option_map (λ cells. record {
      goroutines = new_goroutine ∷ [];
      starts = starts_of p;
      store = record { cells = cells; maps = [] };
      sched = started choices true;
      ticks = bound;
      output = [];
      calls = [];
    }) (first_cells p (filter is_of_package p.variables))

-- ---- runs

-- a further step, where the run goes on
abbrev pub then_step : (Machine → Next) → Next → Next
then_step onward (goes m) = onward m
then_step onward (ends ending m) = ends ending m
then_step onward stuck = stuck

-- what at most n steps lead to
abbrev pub steps : ℕ → Setting → Machine → Next
steps zero s m = goes m
steps (suc n) s m = then_step (steps n s) (step s m)

abbrev pub setting_of : Program → Answers → Setting
setting_of p answers = record { program = p; answers = answers }

-- a run with a list of choices and a bound, from the first state
pub record Run (p : Program) (choices : List ℕ) (bound : ℕ) : Type 0 where
  pub answers : Answers
  pub told : AreAnswers p.types answers
  pub first : Machine
  pub begins : first_machine p choices bound ≡ Some first
  pub count : ℕ

abbrev pub led_to : {p : Program} {choices : List ℕ} {bound : ℕ} → Run p choices bound → Next
led_to {p} run = steps run.count (setting_of p run.answers) run.first

-- the meaning of a program with a list of choices and a bound: its run writes this output and ends so
pub record IsMeaning (p : Program) (choices : List ℕ) (bound : ℕ) (output : List ℕ) (ending : Ending) : Type 0 where
  pub run : Run p choices bound
  pub last : Machine
  pub leads : led_to run ≡ ends ending last
  pub written : last.output ≡ output

-- the numbers that the choices among more than one candidate took
pub record HasTaken (p : Program) (choices : List ℕ) (bound : ℕ) (taken : List ℕ) : Type 0 where
  pub run : Run p choices bound
  pub ending : Ending
  pub last : Machine
  pub leads : led_to run ≡ ends ending last
  pub took : last.sched.taken ≡ taken

-- the calls of a meaning, in order
pub record HasCalled (p : Program) (choices : List ℕ) (bound : ℕ) (calls : List CallOf) : Type 0 where
  pub run : Run p choices bound
  pub ending : Ending
  pub last : Machine
  pub leads : led_to run ≡ ends ending last
  pub called : last.calls ≡ calls

-- what a run has written when it stands somewhere on its way
pub record HasWritten (p : Program) (choices : List ℕ) (bound : ℕ) (output : List ℕ) : Type 0 where
  pub run : Run p choices bound
  pub machine : Machine
  pub leads : led_to run ≡ goes machine
  pub written : machine.output ≡ output

-- a program has one meaning with a list of choices and a bound
abbrev pub OneMeaning : Type 0
OneMeaning =
    (p : Program) (choices : List ℕ) (bound : ℕ) (output output' : List ℕ) (ending ending' : Ending) →
    IsMeaning p choices bound output ending → IsMeaning p choices bound output' ending' →
    (output ≡ output') × (ending ≡ ending')

-- its choices take the same numbers, and its calls are the same
abbrev pub OneRecord : Type 0
OneRecord =
    (p : Program) (choices : List ℕ) (bound : ℕ) →
    ((taken taken' : List ℕ) → HasTaken p choices bound taken → HasTaken p choices bound taken' → taken ≡ taken')
    × ((calls calls' : List CallOf) →
    HasCalled p choices bound calls → HasCalled p choices bound calls' → calls ≡ calls')

-- what a run has written on its way stands first in what it writes in all
abbrev pub FrontsStand : Type 0
FrontsStand =
    (p : Program) (choices : List ℕ) (bound : ℕ) (front output : List ℕ) (ending : Ending) →
    HasWritten p choices bound front → IsMeaning p choices bound output ending →
    (tail : List ℕ) × (output ≡ front ++ tail)
