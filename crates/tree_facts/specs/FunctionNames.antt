-- What functions are called, and which are part of the program.
use Rattle.std.specs.Prelude.{ℕ, zero, suc, ◌+◌, nat_lt, ◌==◌, Bool, true, false, ◌&&◌, ◌||◌, not, List, [], ◌++◌}
use Rattle.std.specs.Prelude.{codes, slice_get, take, count_by, decimal, Option, Some, None, length}
use Rattle.std.specs.Str.{bytes_eq}
use Rattle.go_base.specs.declared.place.Pos.{Pos}
use Rattle.go_tree.specs.declared.functions.FunctionDecl.{FunctionDecl}
use Rattle.go_tree.specs.declared.functions.FunctionForm.{FunctionForm}
use Rattle.go_tree.specs.declared.functions.FunctionForm.TheVariants as form
use Rattle.go_text.specs.Naming.{Naming, name_text, label_text}
use Rattle.go_text.specs.TypeText.{type_text_of}

-- the number of the function in which a literal stands
abbrev pub within_of : FunctionForm → Option ℕ
within_of form.Function = None
within_of form.Method = None
within_of form.Init = None
within_of form.PackageInit = None
within_of (form.Literal within) = Some within.number

abbrev pub is_init : FunctionForm → Bool
is_init form.Function = false
is_init form.Method = false
is_init form.Init = true
is_init form.PackageInit = false
is_init (form.Literal within) = false

-- whether a place comes before another
abbrev pub is_before : Pos → Pos → Bool
is_before a b = nat_lt a.file b.file || ((a.file == b.file) && nat_lt a.offset b.offset)

abbrev pub is_number : ℕ → Option ℕ → Bool
is_number n None = false
is_number n (Some m) = n == m

-- whether a function is a literal in that of a number, and stands before a place
abbrev pub is_literal_before : ℕ → Pos → FunctionDecl → Bool
is_literal_before within at other = is_number within (within_of other.form) && is_before other.at at

-- whether a function is one named `init` of a package
abbrev pub is_init_of : ℕ → FunctionDecl → Bool
is_init_of package_number other = is_init other.form && (other.«package» == package_number)

-- which of the literals in that of a number a literal at a place is, from 1
abbrev pub literal_number : List FunctionDecl → ℕ → Pos → ℕ
literal_number functions within at = count_by (is_literal_before within at) functions + 1

-- which of the functions named `init` of its package a function is, from 1
abbrev pub init_number : List FunctionDecl → ℕ → ℕ → ℕ
init_number functions function package_number = count_by (is_init_of package_number) (take function functions) + 1

-- the name of a function or of what initialises a package, without its label
abbrev pub plain_name : Naming → List FunctionDecl → ℕ → FunctionDecl → FunctionForm → List ℕ
plain_name n functions function declared form.Function = name_text n.names declared.name
plain_name n functions function declared form.Method = name_text n.names declared.name
plain_name n functions function declared form.Init =
    codes "init#" ++ decimal (init_number functions function declared.«package»)
plain_name n functions function declared form.PackageInit = codes "init"
plain_name n functions function declared (form.Literal within) = name_text n.names declared.name

-- before the name: the label and a dot, or the receiver's type in parentheses and a dot
abbrev pub front_of : Naming → FunctionDecl → List ℕ
front_of n declared = elim declared.receiver [
  | None ↦ label_text n.labels declared.«package» ++ codes "."
  | Some receiver ↦ codes "(" ++ (type_text_of n receiver ++ codes ").")
]

-- a function that is no literal
abbrev pub outer_text : Naming → List FunctionDecl → ℕ → FunctionDecl → List ℕ
outer_text n functions function declared = front_of n declared ++ plain_name n functions function declared declared.form

-- a function that stands in the one of a number if it is a literal, where `around` tells what that is called
abbrev pub text_within : Naming → List FunctionDecl → (ℕ → List ℕ) → ℕ → FunctionDecl → Option ℕ → List ℕ
text_within n functions around function declared None = outer_text n functions function declared
text_within n functions around function declared (Some within) =
    around within ++ (codes "$" ++ decimal (literal_number functions within declared.at))

abbrev pub text_of_function : Naming → List FunctionDecl → (ℕ → List ℕ) → ℕ → Option FunctionDecl → List ℕ
text_of_function n functions around function None = []
text_of_function n functions around function (Some declared) =
    text_within n functions around function declared (within_of declared.form)

-- what a function is called, down to a depth of literals in literals
unfoldable pub name_to : ℕ → Naming → List FunctionDecl → ℕ → List ℕ
name_to zero n functions function = []
name_to (suc depth) n functions function =
    text_of_function n functions (name_to depth n functions) function (slice_get functions function)

-- what a function is called: literals are nested less deep than there are functions
abbrev pub function_text : Naming → List FunctionDecl → ℕ → List ℕ
function_text n functions function = name_to (length functions) n functions function

-- whether a function is none named `_` and no literal in such, down to a depth of literals in literals
abbrev pub is_named_part : List (List ℕ) → (ℕ → Bool) → FunctionDecl → FunctionForm → Bool
is_named_part names around declared form.Function = not (bytes_eq (name_text names declared.name) (codes "_"))
is_named_part names around declared form.Method = not (bytes_eq (name_text names declared.name) (codes "_"))
is_named_part names around declared form.Init = not (bytes_eq (name_text names declared.name) (codes "_"))
is_named_part names around declared form.PackageInit = true
is_named_part names around declared (form.Literal within) = around within.number

abbrev pub is_part_or_none : List (List ℕ) → (ℕ → Bool) → Option FunctionDecl → Bool
is_part_or_none names around None = false
is_part_or_none names around (Some declared) = is_named_part names around declared declared.form

unfoldable pub is_part_to : ℕ → List (List ℕ) → List FunctionDecl → ℕ → Bool
is_part_to zero names functions function = false
is_part_to (suc depth) names functions function =
    is_part_or_none names (is_part_to depth names functions) (slice_get functions function)
