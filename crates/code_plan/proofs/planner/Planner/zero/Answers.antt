use Rattle.std.proofs.Common.{◌≡◌, Option, Some, subst}
use Rattle.go_base.specs.declared.ids.NameId.{NameId}
use Rattle.go_base.specs.declared.ids.TypeId.{TypeId}
use Rattle.go_base.specs.declared.memory.NoMemory.{NoMemory}
use Rattle.go_type.specs.Table.{Table}
use Rattle.go_value.specs.Values.{value_of}
use Rattle.go_value.specs.Zeros.{zero_to}
use Rattle.go_value.specs.declared.values.Value.{Value}
use Rattle.ssa_ir.specs.declared.code.Code.{Code}
use Rattle.ssa_mean.specs.Zeros.{blank_from, zero_of}
use Rattle.std.specs.Prelude.{IfOk, Result}
use Rattle.code_plan.proofs.planner.Planner.zero.Goals as goal

zero_by : (code : Code) (types : Table) (blank : Option NameId) (of : TypeId) (it : Result Value NoMemory)
    → types ≡ code.types → blank ≡ blank_from 0 code.names
    → IfOk it (λ zero. zero_to 1000 types blank of ≡ Some (value_of zero))
    → IfOk it (λ zero. zero_of code of ≡ Some (value_of zero))
unfolding zero_of
zero_by code types blank of it e k h =
    subst (λ (x : Option NameId). IfOk it (λ zero. zero_to 1000 code.types x of ≡ Some (value_of zero))) k
    (subst (λ (x : Table). IfOk it (λ zero. zero_to 1000 x blank of ≡ Some (value_of zero))) e h)

pub returns : goal.returns
returns c =
    zero_by c.args.self.now.code.now _ _ c.args.of c.zero_value.result c.types.ensures c.args.self.now.blank_is
    c.zero_value.ensures
