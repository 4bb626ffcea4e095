-- What lies in a value counts less than it.
use Rattle.std.specs.Prelude.{◌+◌, ◌*◌, ◌≤◌, max, List, [], ◌∷◌}
use Rattle.std.proofs.Common.{arith}
use Rattle.go_value.specs.Counts.{count, counts}
use Rattle.go_value.specs.Plain.{Field, parts_of}
use Rattle.go_value.specs.Values.{value_of, function_of}
use Rattle.go_value.specs.declared.values.Dynamic.TheDeep.{deep-Value, deep-FuncValue, size-Part}
use Rattle.go_value.specs.declared.values.FuncValue.{FuncValue}
use Rattle.go_value.specs.declared.values.FuncValue.TheVariants as functions
use Rattle.go_value.specs.declared.values.Value.{Value}
use Rattle.go_value.specs.declared.values.Value.TheVariants as values
use denote.Param.Weighed.{most}

parts_fall : (fields : List Field) → most (λ f. count f.value + 1) fields ≤ counts (parts_of fields) + 1
parts_fall [] = omega arith
parts_fall (f ∷ fs) = omega (arith, parts_fall fs)

functions_fall : (it : FuncValue) → max (deep-FuncValue it) 0 ≤ count (function_of it)
functions_fall functions.Nil = omega arith
functions_fall (functions.Closure function captured) = omega arith
functions_fall (functions.Bound target receiver) = omega arith
functions_fall (functions.Expression receiver name package_number) = omega arith

pub values_fall : (it : Value) → max (deep-Value it) 0 ≤ count (value_of it)
values_fall (values.Truth it) = omega arith
values_fall (values.Int it) = omega arith
values_fall (values.Text it) = omega arith
values_fall (values.Pointer it) = omega arith
values_fall (values.Slice it) = omega arith
values_fall (values.Map it) = omega arith
values_fall (values.Chan it) = omega arith
values_fall (values.Func it) = omega (arith, functions_fall it.value)
values_fall values.NilInterface = omega arith
values_fall (values.Interface it) = omega arith
values_fall (values.Parts it) = omega (arith, parts_fall it.value.items)
values_fall (values.Iter it) = omega arith

pub heaviest : (fields : List Field) → most size-Part fields ≤ 3 * most (λ f. count f.value + 1) fields
heaviest [] = omega arith
heaviest (f ∷ fs) = omega (arith, heaviest fs)
