-- The texts of the parts of a code beside its functions, and the text of a whole code.
use Rattle.std.specs.Prelude.{◌≡◌, ℕ, zero, suc, ◌+◌, ◌==◌, Bool, true, false, ◌||◌, List, [], ◌∷◌, ◌++◌, codes}
use Rattle.std.specs.Prelude.{length, drop, take_while, sum_by, decimal, if◌then◌else◌, Option, Some, None}
use Rattle.std.specs.Io.KnownBytes.{Appends}
use Rattle.std.specs.List.{flat_map, AllZip}
use Rattle.go_base.specs.Devices.{AppendsFront}
use Rattle.go_base.specs.declared.ids.TypeId.{TypeId}
use Rattle.go_text.specs.Naming.{label_text, method_name_text}
use Rattle.go_text.specs.TypeText.{type_text_of}
use Rattle.go_type.specs.Same.{same_id}
use Rattle.go_type.specs.Table.{Table, term_at, underlying_of}
use Rattle.go_type.specs.declared.term.TypeTerm.{TypeTerm}
use Rattle.go_type.specs.declared.term.TypeTerm.TheVariants.{Declared, Pointer}
use Rattle.ssa_ir.specs.declared.code.Code.{Code}
use Rattle.ssa_ir.specs.declared.code.Function.{Function}
use Rattle.ssa_ir.specs.declared.code.FunctionKind.{FunctionKind}
use Rattle.ssa_ir.specs.declared.code.FunctionKind.TheVariants as kind
use Rattle.ssa_ir.specs.declared.code.MethodLine.{MethodLine}
use Rattle.ssa_sane.specs.Sane.{ListsAvailable}
use Rattle.ssa_print.specs.Functions.{function_lines}
use Rattle.ssa_print.specs.Operands.{Setting, setting_of, named_text, function_text}
use Rattle.ssa_print.specs.declared.variables.NamedVariable.{NamedVariable}

abbrev pub package_line : Setting → ℕ → List ℕ
package_line s number = codes "package " ++ (label_text s.naming.labels number ++ codes "\n")

-- a declared type and its underlying type
abbrev pub type_line : Setting → TypeId → List ℕ
type_line s id =
    codes "type "
    ++ (type_text_of s.naming id
    ++ (codes " " ++ (type_text_of s.naming (underlying_of s.naming.types id) ++ codes "\n")))

abbrev pub method_line : Setting → MethodLine → List ℕ
method_line s line =
    codes "method "
    ++ (type_text_of s.naming line.receiver
    ++ (codes "." ++ (method_name_text s.naming.names s.naming.labels line.name line.«package»
    ++ (codes " " ++ (function_text s line.function ++ codes "\n")))))

abbrev pub variable_line : Setting → NamedVariable → List ℕ
variable_line s v =
    codes "var " ++ (named_text s v ++ (codes " " ++ (type_text_of s.naming v.variable.of ++ codes "\n")))

-- ---- packages: each takes the types and variables that stand next, and each type the methods

abbrev pub is_declared_in : ℕ → Option TypeTerm → Bool
is_declared_in number (Some (Declared name)) = name.«package» == number
is_declared_in number _ = false

abbrev pub is_variable_in : ℕ → NamedVariable → Bool
is_variable_in number v = v.variable.«package» == number

abbrev pub is_pointer_to : Option TypeTerm → TypeId → Bool
is_pointer_to (Some (Pointer to)) base = same_id to base
is_pointer_to _ base = false

-- a method of a type or of its pointer
abbrev pub is_method_of : Table → TypeId → MethodLine → Bool
is_method_of types id line = same_id line.receiver id || is_pointer_to (term_at types line.receiver) id

-- what stands behind the items from the front on that pass a test
abbrev pub past : {A : Type 0} → (A → Bool) → List A → List A
past test items = drop (length (take_while test items)) items

abbrev pub types_text : Setting → List TypeId → List MethodLine → List ℕ
types_text s [] methods = []
types_text s (id ∷ ids) methods =
    type_line s id
    ++ (flat_map (method_line s) (take_while (is_method_of s.naming.types id) methods)
    ++ types_text s ids (past (is_method_of s.naming.types id) methods))

abbrev pub methods_past : Setting → List TypeId → List MethodLine → List MethodLine
methods_past s [] methods = methods
methods_past s (id ∷ ids) methods = methods_past s ids (past (is_method_of s.naming.types id) methods)

abbrev pub next_types : Setting → ℕ → List TypeId → List TypeId
next_types s number types = take_while (λ id. is_declared_in number (term_at s.naming.types id)) types

abbrev pub types_past : Setting → ℕ → List TypeId → List TypeId
types_past s number types = past (λ id. is_declared_in number (term_at s.naming.types id)) types

-- so many packages from a number on
abbrev pub packages_text : Setting → ℕ → ℕ → List TypeId → List MethodLine → List NamedVariable → List ℕ
packages_text s zero number types methods variables = []
packages_text s (suc count) number types methods variables =
    package_line s number
    ++ (types_text s (next_types s number types) methods
    ++ (flat_map (variable_line s) (take_while (is_variable_in number) variables)
    ++ packages_text s count (number + 1) (types_past s number types)
    (methods_past s (next_types s number types) methods) (past (is_variable_in number) variables)))

-- the methods that no type takes
abbrev pub methods_left : Setting → ℕ → ℕ → List TypeId → List MethodLine → List MethodLine
methods_left s zero number types methods = methods
methods_left s (suc count) number types methods =
    methods_left s count (number + 1) (types_past s number types) (methods_past s (next_types s number types) methods)

-- ---- functions

abbrev pub counts_text : ℕ → ℕ → List ℕ
counts_text blocks available =
    codes ": blocks " ++ (decimal blocks ++ (codes ", available " ++ (decimal available ++ codes "\n")))

-- how many registers are available at the entries of a function's blocks, taken together
abbrev pub count_line : Function → ℕ → List ℕ
count_line f available = codes "# " ++ (f.name ++ counts_text (length f.blocks) available)

-- what is written of a function: its lines, and the line of its counts, with a number of available registers
abbrev pub shown_text : Setting → Bool → Bool → Function → ℕ → List ℕ
shown_text s functions available f count =
    (if functions then function_lines s f else []) ++ (if available then count_line f count else [])

-- ---- a whole code

-- a function is no wrapper
abbrev pub is_own : FunctionKind → Bool
is_own kind.Wrapper = false
is_own _ = true

-- the functions before the first wrapper
abbrev pub own_functions : Setting → List Function
own_functions s = take_while (λ f. is_own f.kind) s.functions

abbrev pub other_functions : Setting → List Function
other_functions s = past (λ f. is_own f.kind) s.functions

abbrev pub lists_text : Setting → Bool → List ℕ
lists_text s true = packages_text s (length s.naming.labels) 0 s.declared s.methods s.variables
lists_text s false = []

abbrev pub left_methods : Setting → Bool → List MethodLine
left_methods s true = methods_left s (length s.naming.labels) 0 s.declared s.methods
left_methods s false = []

-- so many registers are available at the entries of a function's blocks, taken together
pub record CountsAvailable (f : Function) (number : ℕ) : Type 0 where
  pub lists : List (List ℕ)
  pub are : ListsAvailable f lists
  pub sum : number ≡ sum_by length lists

-- a text is what is written of a function: where it is shown, with the number of available registers
pub record IsShown (s : Setting) (functions available : Bool) (f : Function) (text : List ℕ) : Type 0 where
  pub number : ℕ
  pub counts : available ≡ true → CountsAvailable f number
  pub is : text ≡ shown_text s functions available f number

-- a function was written behind a text
pub record ShowsFunction (s : Setting) (functions available : Bool) (f : Function) (old new : List ℕ) : Type 0 where
  pub piece : List ℕ
  pub shown : IsShown s functions available f piece
  pub added : new ≡ old ++ piece

abbrev pub length_in : Option (List ℕ) → ℕ
length_in (Some list) = length list
length_in None = 0

-- functions were written behind a text
pub record Shows (s : Setting) (functions available : Bool) (list : List Function) (old new : List ℕ) : Type 0 where
  pub pieces : List (List ℕ)
  pub each : AllZip (IsShown s functions available) list pieces
  pub added : new ≡ old ++ flat_map (λ piece. piece) pieces

-- the packages, their functions, the methods that no declared type takes, and the wrappers
pub record IsCodeText (s : Setting) (functions available : Bool) (text : List ℕ) : Type 0 where
  pub own : List ℕ
  pub left : List ℕ
  pub shows_own : Shows s functions available (own_functions s) (lists_text s functions) own
  pub lines : left ≡ own ++ flat_map (method_line s) (left_methods s functions)
  pub shows_others : Shows s functions available (other_functions s) left text

-- the text of a code was written, or a front of it
pub record Writes (code : Code) (functions available : Bool) (old new : Option (List ℕ)) : Type 0 where
  pub text : List ℕ
  pub is : IsCodeText (setting_of code) functions available text
  pub appends : Appends old new text

pub record WritesFront (code : Code) (functions available : Bool) (old new : Option (List ℕ)) : Type 0 where
  pub text : List ℕ
  pub is : IsCodeText (setting_of code) functions available text
  pub appends : AppendsFront old new text
