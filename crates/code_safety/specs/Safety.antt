-- Code that is sane, typed and runnable is never stuck.
use Rattle.std.specs.Prelude.{ℕ, List, All}
use Rattle.ssa_runnable.specs.Runnable.{IsRunnable}
use Rattle.go_type.specs.Held.{IsHeld}
use Rattle.ssa_mean.specs.Runs.{IsStuck}
use Rattle.ssa_ir.specs.declared.code.Code.{Code}
use Rattle.ssa_mean.specs.Answers.{Answers, AreAnswers}
use Rattle.ssa_sane.specs.Sane.{IsSane}
use Rattle.ssa_typed.specs.Typed.{IsTyped}

-- a code whose types are held, whose functions are sane, and that is typed and runnable
pub record IsSafe (code : Code) : Type 0 where
  pub held : IsHeld code.types
  pub sane : All IsSane code.functions
  pub typed : IsTyped code
  pub runnable : IsRunnable code

-- whatever is chosen, and however many ticks there are, it never comes to an instruction at which nothing is defined
abbrev pub NeverStuck : Type 0
NeverStuck =
    (code : Code) (choices : List ℕ) (bound : ℕ) (answers : Answers) → IsSafe code → AreAnswers code.types answers
    → IsStuck code choices bound answers → ⊥
