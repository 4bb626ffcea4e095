-- Runs of code. Go specification, "Program initialization", "Program execution" and "Package initialization".
use Rattle.std.specs.Prelude.{◌≡◌, ℕ, zero, suc, ◌&&◌, Bool, true, false, List, [], ◌∷◌, ◌++◌, Option, Some, None}
use Rattle.std.specs.Prelude.{if◌then◌else◌, option_map, codes}
use Rattle.std.specs.Str.{bytes_eq}
use Rattle.go_base.specs.declared.ending.Ending.{Ending}
use Rattle.go_base.specs.declared.ids.FuncId.{FuncId}
use Rattle.go_sched.specs.Goroutines.{started}
use Rattle.go_value.specs.Values.{Val}
use Rattle.ssa_ir.specs.declared.code.Code.{Code}
use Rattle.ssa_ir.specs.declared.code.CodeVariable.{CodeVariable}
use Rattle.ssa_ir.specs.declared.code.Function.{Function}
use Rattle.ssa_ir.specs.declared.code.FunctionKind.{FunctionKind}
use Rattle.ssa_ir.specs.declared.code.FunctionKind.TheVariants as kind
use Rattle.ssa_mean.specs.Answers.{Answers, AreAnswers}
use Rattle.ssa_mean.specs.Operands.{with_value}
use Rattle.ssa_mean.specs.State.{Goroutine, Machine, Next, goes, ends, stuck}
use Rattle.ssa_mean.specs.Step.{step}
use Rattle.ssa_mean.specs.Unwinding.{is_source_kind}
use Rattle.ssa_mean.specs.Zeros.{zero_of}

-- ---- the first state

-- a cell with the zero value for each package variable
abbrev pub first_cells : Code → List CodeVariable → Option (List Val)
first_cells code [] = Some []
first_cells code (variable ∷ variables) = with_value (zero_of code variable.of) (first_cells code variables)

abbrev pub is_init_kind : FunctionKind → Bool
is_init_kind kind.Init = true
is_init_kind _ = false

abbrev pub is_none_left : {A : Type 0} → List A → Bool
is_none_left [] = true
is_none_left (x ∷ xs) = false

-- `main.main` takes no arguments and returns no value
abbrev pub is_main : Function → Bool
is_main function =
    is_source_kind function.kind
    && (bytes_eq function.name (codes "main.main")
    && (is_none_left function.params && (is_none_left function.free && is_none_left function.results)))

-- the numbers of the functions that pass a test, the first having a number
abbrev pub those_from : ℕ → (Function → Bool) → List Function → List FuncId
those_from n test [] = []
those_from n test (function ∷ functions) =
    if test function then record { number = n } ∷ those_from (suc n) test functions
    else those_from (suc n) test functions

-- packages are initialised one after another, in their order; then `main.main` is called, where there is one
abbrev pub starts_of : Code → List FuncId
starts_of code = those_from 0 (λ f. is_init_kind f.kind) code.functions ++ those_from 0 is_main code.functions

abbrev pub new_goroutine : Goroutine
new_goroutine = record { frames = []; begin = None; fault = None }

unfoldable pub first_machine : Code → List ℕ → ℕ → Option Machine
first_machine code choices bound =
    option_map (λ cells. record {
      goroutines = new_goroutine ∷ [];
      starts = starts_of code;
      store = record { cells = cells; maps = [] };
      sched = started choices false;
      ticks = bound;
      output = [];
    }) (first_cells code code.variables)

-- ---- runs

-- a further step, where the run goes on
abbrev pub then_step : (Machine → Next) → Next → Next
then_step next (goes m) = next m
then_step next (ends ending output) = ends ending output
then_step next stuck = stuck

-- what at most n steps lead to
abbrev pub steps : ℕ → Answers → Code → Machine → Next
steps zero answers code m = goes m
steps (suc n) answers code m = then_step (steps n answers code) (step answers code m)

-- with a list of choices and a bound a run of the code writes this output, and ends so
pub record IsRunOf (code : Code) (choices : List ℕ) (bound : ℕ) (output : List ℕ) (ending : Ending) : Type 0 where
  pub answers : Answers
  pub told : AreAnswers code.types answers
  pub first : Machine
  pub begins : first_machine code choices bound ≡ Some first
  pub count : ℕ
  pub leads : steps count answers code first ≡ ends ending output

-- a code that comes, on its way, to an instruction at which the definition of runs gives nothing
pub record IsStuck (code : Code) (choices : List ℕ) (bound : ℕ) (answers : Answers) : Type 0 where
  pub first : Machine
  pub begins : first_machine code choices bound ≡ Some first
  pub count : ℕ
  pub leads : steps count answers code first ≡ stuck

-- what a run has written when it stands somewhere on its way
pub record HasWritten (code : Code) (choices : List ℕ) (bound : ℕ) (output : List ℕ) : Type 0 where
  pub answers : Answers
  pub told : AreAnswers code.types answers
  pub first : Machine
  pub begins : first_machine code choices bound ≡ Some first
  pub count : ℕ
  pub machine : Machine
  pub leads : steps count answers code first ≡ goes machine
  pub written : machine.output ≡ output

-- the definition allows one outcome
abbrev pub OneOutcome : Type 0
OneOutcome =
    (code : Code) (choices : List ℕ) (bound : ℕ) (output output' : List ℕ) (ending ending' : Ending) →
    IsRunOf code choices bound output ending → IsRunOf code choices bound output' ending' →
    (output ≡ output') × (ending ≡ ending')

-- what a run has written on its way stands first in what it writes in all
abbrev pub FrontsStand : Type 0
FrontsStand =
    (code : Code) (choices : List ℕ) (bound : ℕ) (front output : List ℕ) (ending : Ending) →
    HasWritten code choices bound front → IsRunOf code choices bound output ending →
    (rest : List ℕ) × (output ≡ front ++ rest)
