-- Values in interfaces. Go specification, "Interface types", "Conversions", "Method values" and "Type assertions".
use Rattle.std.specs.Prelude.{Bool, Option, Some, None, Result, Ok, Err, nat_le, if◌then◌else◌}
use Rattle.go_base.specs.declared.ids.TypeId.{TypeId}
use Rattle.go_type.specs.Assignable.{underlying_term_of}
use Rattle.go_type.specs.Selector.{is_interface}
use Rattle.go_type.specs.Table.{Table}
use Rattle.go_value.specs.Depths.{depth}
use Rattle.go_value.specs.Values.{Val, dynamic, bound}
use Rattle.go_value.specs.declared.faults.Fault.{Fault}
use Rattle.go_value.specs.declared.faults.Fault.TheVariants as fault
use Rattle.go_value.specs.declared.values.BoundTarget.{BoundTarget}

abbrev pub is_interface_type : Table → TypeId → Bool
is_interface_type types of = is_interface (underlying_term_of types of)

-- a value of the depth that a value in an interface and a bound receiver may have
abbrev pub not_too_deep : Val → Val → Result Val Fault
not_too_deep inner whole = if nat_le 10000 (depth inner) then Err fault.TooDeep else Ok whole

-- a value of a type, converted to an interface type
abbrev pub converted : Table → TypeId → Val → Result Val Fault
converted types of it = if is_interface_type types of then Ok it else not_too_deep it (dynamic of it)

-- the value of a method with its receiver
abbrev pub bound_to : BoundTarget → Val → Result Val Fault
bound_to target receiver = not_too_deep receiver (bound target receiver)

-- what x.(T) is, where it holds
abbrev pub asserted : Table → Val → TypeId → Val
asserted types (dynamic of it) to = if is_interface_type types to then dynamic of it else it
asserted types it to = it

abbrev pub dynamic_type : Val → Option TypeId
dynamic_type (dynamic of it) = Some of
dynamic_type _ = None
