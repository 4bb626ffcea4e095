-- What files and sinks hold, and when they have failed.
use Rattle.std.specs.Prelude.{◌≡◌, ℕ, ◌+◌, ◌-◌, ◌^◌, ◌<◌, ◌≤◌, min, List, [], ◌∷◌, ◌++◌, length, drop, map, Option}
use Rattle.std.specs.Prelude.{Some, None, is_some, Bool, true, false, ◌==◌, if◌then◌else◌, Result, Ok, Err, Vec}
use Rattle.std.specs.Prelude.{String, string_bytes, codes, bytes_eq, nat_eq, IsPermutation}
use Rattle.std.specs.Io.KnownBytes.{Appends}
use Rattle.std.specs.List.{starts_with, list_any}
use Rattle.std.specs.Option.{option_and_then}
use Rattle.std.specs.declared.alloc.Global.{Global}
use Rattle.go_base.specs.declared.devices.FileError.{FileError}
use Rattle.go_base.specs.declared.devices.FileError.TheVariants.{Absent, TooLarge, Failed, OutOfMemory}

-- the last value of a count of faults
abbrev pub last_count : ℕ
last_count = 2 ^ 64 - 1

-- the count of faults rose, or stands at its last value
abbrev pub HasFaulted : ℕ → ℕ → Type 0
HasFaulted before now = min (before + 1) last_count ≤ now

-- a front of the text was appended
pub record AppendsFront (old new : Option (List ℕ)) (text : List ℕ) : Type 0 where
  pub front : List ℕ
  pub rest : List ℕ
  pub parts : text ≡ front ++ rest
  pub appends : Appends old new front

-- files, each with its path and its bytes; where two have one path, the last counts
abbrev pub Tree : Type 0
Tree = List (List ℕ × List ℕ)

-- whether a file stands at the path
abbrev pub is_file : Tree → List ℕ → Bool
is_file files path = list_any (λ file. bytes_eq file.0 path) files

-- the bytes of the file at a path
abbrev pub file_at : Tree → List ℕ → Option (List ℕ)
file_at [] path = None
file_at (file ∷ files) path =
    if is_file files path then file_at files path
    else if bytes_eq file.0 path then Some file.1 else None

-- what follows the directory in a path below it
abbrev pub rest_below : List ℕ → List ℕ → Option (List ℕ)
rest_below dir path =
    if bytes_eq dir (codes ".") then Some path
    else if starts_with nat_eq path (dir ++ codes "/") then Some (drop (length dir + 1) path) else None

-- a path of one component
abbrev pub one_component : List ℕ → Option (List ℕ)
one_component rest = if list_any (λ byte. byte == 47) rest then None else Some rest

-- the name of a file that lies in the directory itself
abbrev pub name_in : List ℕ → List ℕ → Option (List ℕ)
name_in dir path = option_and_then one_component (rest_below dir path)

abbrev pub with_name : Option (List ℕ) → List (List ℕ) → List (List ℕ)
with_name None names = names
with_name (Some name) names = name ∷ names

-- the names of the files in a directory
abbrev pub names_in : List ℕ → Tree → List (List ℕ)
names_in dir [] = []
names_in dir (file ∷ files) =
    if is_file files file.0 then names_in dir files else with_name (name_in dir file.0) (names_in dir files)

-- whether a file lies below a directory, at any depth
abbrev pub is_directory : Tree → List ℕ → Bool
is_directory files dir = list_any (λ file. is_some (rest_below dir file.0)) files

-- the answer of `list` over these files
abbrev pub ListsTree : Tree → List ℕ → Result (Vec (String Global) Global) FileError → Type 0
ListsTree files dir (Ok names) =
    (is_directory files dir ≡ true) × IsPermutation (names_in dir files) (map string_bytes names.items)
ListsTree files dir (Err Absent) = is_directory files dir ≡ false
ListsTree files dir (Err TooLarge) = ⊥
ListsTree files dir (Err Failed) = Unit {0}
ListsTree files dir (Err OutOfMemory) = Unit {0}

-- the answer of `read` over these files
abbrev pub ReadsTree : Tree → List ℕ → ℕ → Result (Vec ℕ Global) FileError → Type 0
ReadsTree files path limit (Ok bytes) = (file_at files path ≡ Some bytes.items) × (length bytes.items ≤ limit)
ReadsTree files path limit (Err Absent) = file_at files path ≡ None
ReadsTree files path limit (Err TooLarge) =
    (bytes : List ℕ) × (file_at files path ≡ Some bytes) × (limit < length bytes)
ReadsTree files path limit (Err Failed) = Unit {0}
ReadsTree files path limit (Err OutOfMemory) = Unit {0}
