-- What the values of a run are.
use Rattle.go_value.specs.declared.values.FuncValue.{FuncValue}
use Rattle.go_value.specs.declared.values.FuncValue.TheVariants as functions
use Rattle.go_value.specs.declared.values.RangeState.{RangeState}
use Rattle.go_value.specs.declared.values.RangeState.TheVariants as states
use Rattle.go_value.specs.declared.values.Value.{Value}
use Rattle.go_value.specs.declared.values.Value.TheVariants as values
pub use Rattle.go_value.specs.Plain.{Val, Parts, Field, Typed, parts_of}
pub use Rattle.go_value.specs.Plain.{truth, number, text, pointer, slice, map_number, chan_number, nil_function, closure}
pub use Rattle.go_value.specs.Plain.{bound, expression, nil_interface, dynamic, parts, text_range, map_range, none, part}

abbrev pub range_of : RangeState → Val
range_of (states.Text bytes next) = text_range bytes.value next
range_of (states.Map map left) = map_range map left.items

abbrev pub function_of : FuncValue → Val
function_of functions.Nil = nil_function
function_of (functions.Closure function captured) = closure function captured.items
function_of (functions.Bound target receiver) = bound target receiver.value
function_of (functions.Expression receiver name package_number) = expression receiver name package_number

abbrev pub value_of : Value → Val
value_of (values.Truth it) = truth it
value_of (values.Int it) = number it
value_of (values.Text it) = text it.value
value_of (values.Pointer it) = pointer it
value_of (values.Slice it) = slice it.value
value_of (values.Map it) = map_number it
value_of (values.Chan it) = chan_number it
value_of (values.Func it) = function_of it.value
value_of values.NilInterface = nil_interface
value_of (values.Interface it) = dynamic it.value.of it.value.value
value_of (values.Parts it) = parts (parts_of it.value.items)
value_of (values.Iter it) = range_of it.value
