use Rattle.std.proofs.Common.{◌≡◌, ℕ, min, subst, ap, ◌∙◌}
use Rattle.std.specs.Prelude.{IfOk, Result}
use Rattle.code_plan.specs.Calls.{counted_leaves}
use Rattle.go_base.specs.declared.ids.TypeId.{TypeId}
use Rattle.go_base.specs.declared.memory.NoMemory.{NoMemory}
use Rattle.go_type.specs.Sizes.{leaves_to}
use Rattle.go_type.specs.Table.{Table}
use Rattle.ssa_mean.specs.Making.{leaves_of}
use Rattle.code_plan.proofs.planner.Planner.leaves.Goals as goal

counted : (types types' : Table) (of : TypeId) (n : ℕ) (it : Result ℕ NoMemory) → types ≡ types'
    → n ≡ min 16777217 (leaves_to 1000 types of) → IfOk it (λ leaves. leaves ≡ n)
    → IfOk it (λ leaves. leaves ≡ counted_leaves (leaves_of types' of))
counted types types' of n it e k h =
    subst (λ (m : ℕ). IfOk it (λ leaves. leaves ≡ m)) (k ∙ ap (λ (t : Table). min 16777217 (leaves_to 1000 t of)) e) h

pub returns : goal.returns
returns c =
    counted _ _ c.args.of c.leaves_up_to.result c.small.result c.types.ensures c.leaves_up_to.ensures c.small.ensures
