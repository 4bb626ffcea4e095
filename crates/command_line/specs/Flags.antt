-- The words of flags, as Go's package `flag` reads them: one or two dashes and a name, then optionally `=` and a value.
use Rattle.std.specs.Prelude.{ℕ, List, Bool, ◌&&◌, not, ◌==◌, drop, Option, Some, None, if◌then◌else◌, codes, bytes_eq}
use Rattle.std.specs.Prelude.{nat_eq}
use Rattle.std.specs.List.{starts_with, before_first, after_first, list_any}
use Rattle.command_line.specs.declared.flags.Flag.{Flag}
use Rattle.command_line.specs.declared.flags.Flag.TheVariants as flags
use Rattle.command_line.specs.declared.flags.Shape as code
use Rattle.command_line.specs.declared.flags.Shape.TheVariants as shapes

-- a word with a dash before it; `-` alone is none
abbrev pub is_flag_word : List ℕ → Bool
is_flag_word word = starts_with nat_eq word (codes "-") && not (bytes_eq word (codes "-"))

-- what follows one dash
abbrev pub without_dash : List ℕ → List ℕ
without_dash word = if starts_with nat_eq word (codes "-") then drop 1 word else word

-- what follows one or two dashes
abbrev pub body_of : List ℕ → List ℕ
body_of word = if starts_with nat_eq word (codes "--") then drop 2 word else without_dash word

-- `=`
abbrev pub is_equals : ℕ → Bool
is_equals byte = byte == 61

-- The name, up to the first `=`. It is no flag's where it is empty, and where a third dash or `=` begins it.
abbrev pub name_of : List ℕ → List ℕ
name_of word = before_first is_equals (body_of word)

-- the value behind the first `=`, where there is one
abbrev pub value_of : List ℕ → Option (List ℕ)
value_of word = if list_any is_equals (body_of word) then Some (after_first is_equals (body_of word)) else None

-- the flag of a name
abbrev pub flag_of : List ℕ → Option Flag
flag_of name =
    if bytes_eq name (codes "build") then Some flags.Build
    else if bytes_eq name (codes "callgraph") then Some flags.Callgraph
    else if bytes_eq name (codes "run") then Some flags.Run
    else if bytes_eq name (codes "bound") then Some flags.Bound
    else if bytes_eq name (codes "choices") then Some flags.Choices
    else if bytes_eq name (codes "gen") then Some flags.Generate
    else None

-- what a word is where flags are read
pub data Shape : Type 0 where
  -- no flag; the flags end before it
  Operand : Shape
  -- `--`, which is dropped; the flags end behind it
  Terminator : Shape
  -- a flag word whose name is that of no flag
  Unknown : Shape
  -- a flag with its value
  Whole : (flag : Flag) (value : List ℕ) → Shape
  -- a flag whose value is the next word
  Needs : (flag : Flag) → Shape

-- `-run` is boolean: without a value it is true, and it takes no next word
abbrev pub without_value : Flag → Shape
without_value flags.Run = Whole flags.Run (codes "true")
without_value flag = Needs flag

-- a flag with its value, where it has one in its word
abbrev pub with_value : Flag → Option (List ℕ) → Shape
with_value flag None = without_value flag
with_value flag (Some value) = Whole flag value

-- the same of a name that may be no flag's
abbrev pub named : Option Flag → Option (List ℕ) → Shape
named None value = Unknown
named (Some flag) value = with_value flag value

-- what a word is
abbrev pub shape_of : List ℕ → Shape
shape_of word =
    if not (is_flag_word word) then Operand
    else if bytes_eq word (codes "--") then Terminator
    else named (flag_of (name_of word)) (value_of word)

-- a shape of the code
abbrev pub view_shape : code.Shape → Shape
view_shape shapes.Operand = Operand
view_shape shapes.Terminator = Terminator
view_shape shapes.Unknown = Unknown
view_shape (shapes.Whole flag value) = Whole flag value.now
view_shape (shapes.Needs flag) = Needs flag
