-- Phis: their values are read, and then written.
use Rattle.std.specs.Prelude.{◌≡◌, ℕ, List, [], ◌∷◌, ◌++◌, Option, Some}
use Rattle.code_plan.specs.declared.steps.PlannedPhi.{PlannedPhi}
use Rattle.go_value.specs.Values.{Val, value_of}
use Rattle.go_value.specs.declared.values.Value.{Value}
use Rattle.plan_mean.specs.State.{Machine, with_value}
use Rattle.plan_mean.specs.Step.{edge_value}
use Rattle.ssa_mean.specs.Operands as operands

-- the values of phis
abbrev pub phi_values : Machine → ℕ → List PlannedPhi → Option (List Val)
phi_values before from [] = Some []
phi_values before from (phi ∷ phis) = operands.with_value (edge_value before from phi) (phi_values before from phis)

-- phis get values, the last one first
abbrev pub with_written : List PlannedPhi → List Val → Machine → Machine
with_written (phi ∷ phis) (it ∷ its) m = with_value phi.to it (with_written phis its m)
with_written _ _ m = m

-- the value of a phi was put behind others
pub record PushesPhi (m : Machine) (from : ℕ) (phi : PlannedPhi) (before after : List Value) : Type 0 where
  pub value : Value
  pub read : edge_value m from phi ≡ Some (value_of value)
  pub pushed : after ≡ before ++ value ∷ []
