-- What the names in types and codes are written as.
use Rattle.std.specs.Prelude.{ℕ, ◌==◌, Bool, not, ◌&&◌, List, [], ◌∷◌, ◌++◌, if◌then◌else◌, codes, slice_get}
use Rattle.std.specs.Prelude.{unwrap_or, decimal}
use Rattle.std.specs.Str.{bytes_eq}
use Rattle.go_base.specs.declared.ids.NameId.{NameId}
use Rattle.go_type.specs.declared.term.TypeName.{TypeName}
use Rattle.go_type.specs.Table.{Table, exported}

-- what types and their names are read from
pub record Naming : Type 0 where
  pub names : List (List ℕ)
  pub labels : List (List ℕ)
  pub types : Table

abbrev pub name_text : List (List ℕ) → NameId → List ℕ
name_text names name = unwrap_or (slice_get names name.number) []

abbrev pub label_text : List (List ℕ) → ℕ → List ℕ
label_text labels package_number = unwrap_or (slice_get labels package_number) []

-- whether a name of the package is written with its label
abbrev pub is_labelled : List (List ℕ) → ℕ → Bool
is_labelled labels package_number =
    not (package_number == exported) && not (bytes_eq (label_text labels package_number) (codes "main"))

abbrev pub label_prefix : List (List ℕ) → ℕ → List ℕ
label_prefix labels package_number =
    if is_labelled labels package_number then label_text labels package_number ++ codes "." else []

-- a field or method in the text of a type
abbrev pub member_text : List (List ℕ) → List (List ℕ) → NameId → ℕ → List ℕ
member_text names labels name package_number = label_prefix labels package_number ++ name_text names name

-- a method outside types
abbrev pub method_name_text : List (List ℕ) → List (List ℕ) → NameId → ℕ → List ℕ
method_name_text names labels name package_number =
    name_text names name ++ (if is_labelled labels package_number then 61 ∷ label_text labels package_number else [])

-- which of the types it is that are declared in functions
abbrev pub number_text : ℕ → List ℕ
number_text number = if number == 0 then [] else 35 ∷ decimal number

-- a declared type; `error` has no label
abbrev pub declared_text : List (List ℕ) → List (List ℕ) → TypeName → List ℕ
declared_text names labels of =
    (if of.«package» == exported then [] else label_text labels of.«package» ++ codes ".")
    ++ (name_text names of.name ++ number_text of.number)
