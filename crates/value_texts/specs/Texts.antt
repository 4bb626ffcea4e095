-- What `print` writes, and the texts of faults and of panics. Go specification, "Bootstrapping", "Run-time panics" and
-- "Handling panics".
use Rattle.std.specs.Prelude.{ℕ, Bool, true, false, List, [], ◌∷◌, ◌++◌, Option, Some, None, codes, decimal}
use Rattle.std.specs.Prelude.{if◌then◌else◌}
use Rattle.std.specs.Fmt.{signed_decimal}
use Rattle.go_base.specs.declared.ids.TypeId.{TypeId}
use Rattle.go_text.specs.Naming.{Naming}
use Rattle.go_text.specs.Quoted.{quoted_text}
use Rattle.go_text.specs.TypeText.{type_text_of}
use Rattle.go_type.specs.Same.{same_id}
use Rattle.go_type.specs.Table.{term_at}
use Rattle.go_type.specs.declared.term.TypeTerm.{TypeTerm}
use Rattle.go_type.specs.declared.term.TypeTerm.TheVariants.{Basic}
use Rattle.go_value.specs.declared.faults.Fault.{Fault}
use Rattle.go_value.specs.declared.faults.Fault.TheVariants as faults
use Rattle.go_value.specs.Values.{Val, Typed, truth, number, text}

-- what `print` writes of a boolean, an integer or a string; it takes no other values
abbrev pub printed : Val → List ℕ
printed (truth true) = codes "true"
printed (truth false) = codes "false"
printed (number it) = signed_decimal it
printed (text it) = it
printed _ = []

-- the dynamic type of an interface value
abbrev pub dynamic_text : Naming → Option TypeId → List ℕ
dynamic_text naming None = codes "nil"
dynamic_text naming (Some of) = type_text_of naming of

-- the string of a fault
abbrev pub fault_string : Naming → Fault → List ℕ
fault_string naming (faults.Index index len) =
    codes "index out of range [" ++ (signed_decimal index ++ (codes "] with length " ++ decimal len))
fault_string naming faults.SliceBounds = codes "slice bounds out of range"
fault_string naming faults.ZeroDivisor = codes "integer divide by zero"
fault_string naming faults.NilPointer = codes "invalid memory address or nil pointer dereference"
fault_string naming faults.NilMap = codes "assignment to entry in nil map"
fault_string naming faults.NegativeShift = codes "negative shift amount"
fault_string naming faults.MakeSliceLen = codes "makeslice: len out of range"
fault_string naming faults.MakeSliceCap = codes "makeslice: cap out of range"
fault_string naming faults.GrowSlice = codes "growslice: len out of range"
fault_string naming faults.MakeChan = codes "makechan: size out of range"
fault_string naming faults.TextTooLong = codes "string too long"
fault_string naming faults.SendOnClosed = codes "send on closed channel"
fault_string naming faults.CloseOfClosed = codes "close of closed channel"
fault_string naming faults.CloseOfNil = codes "close of nil channel"
fault_string naming (faults.Unhashable of) = codes "hash of unhashable type " ++ type_text_of naming of
fault_string naming (faults.Uncomparable of) = codes "comparing uncomparable type " ++ type_text_of naming of
fault_string naming (faults.Assertion dynamic wanted) =
    codes "interface conversion: " ++ (dynamic_text naming dynamic ++ (codes " is not " ++ type_text_of naming wanted))
fault_string naming faults.PanicNil = codes "panic called with nil argument"
fault_string naming faults.TooDeep = codes "value nested too deeply"

abbrev pub in_parentheses : List ℕ → List ℕ
in_parentheses words = 40 ∷ (words ++ 41 ∷ [])

-- a value of a type that is not predeclared: a boolean, an integer or a string behind its type, else the type alone
abbrev pub shown : List ℕ → Val → List ℕ
shown of (truth it) = of ++ in_parentheses (printed (truth it))
shown of (number it) = of ++ in_parentheses (printed (number it))
shown of (text it) = of ++ in_parentheses (quoted_text it)
shown of _ = in_parentheses of

abbrev pub shown_by : Naming → TypeId → Option TypeTerm → Val → List ℕ
shown_by naming of (Some (Basic kind)) it = printed it
shown_by naming of _ it = shown (type_text_of naming of) it

abbrev pub is_that : Option TypeId → TypeId → Bool
is_that None of = false
is_that (Some wanted) of = same_id wanted of

-- the text of a panic with a value, where `errorString` of `runtime` is known
abbrev pub panic_string : Naming → Option TypeId → Typed → List ℕ
panic_string naming error_string value =
    if is_that error_string value.of then codes "runtime error: " ++ printed value.value
    else shown_by naming value.of (term_at naming.types value.of) value.value
