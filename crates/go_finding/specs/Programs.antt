-- Programs: packages in the order in which they are found, or the first rule that they break.
use Rattle.std.specs.Prelude.{◌≡◌, ℕ, zero, suc, ◌+◌, ◌-◌, ◌<◌, ◌≤◌, min, Bool, true, false, if◌then◌else◌, List, []}
use Rattle.std.specs.Prelude.{◌∷◌, ◌++◌, length, map, Option, Some, None, Result, Ok, Err, slice_get, codes, bytes_eq}
use Rattle.std.specs.List.{flat_map, find, fold, list_any, sum_by}
use Rattle.go_ast.specs.declared.token.Token.{Token}
use Rattle.go_base.specs.NameTable.{place_of, with_text}
use Rattle.go_base.specs.declared.place.Place.{Place}
use Rattle.go_base.specs.declared.rule.Rule.{Rule}
use Rattle.go_base.specs.declared.rule.Rule.TheVariants as rules
use Rattle.go_base.specs.declared.target.Target.{Target}
use Rattle.go_base.specs.declared.target.Target.TheVariants as targets
use Rattle.go_syntax.specs.declared.decls.FileTree.{FileTree}
use Rattle.import_graph.specs.Cycles.{IsFirstOnCycle}
use Rattle.import_graph.specs.declared.edges.Edge.{Edge}
use Rattle.go_sources.specs.Packages.{text_in}
use Rattle.go_sources.specs.Places.{place_in}
use Rattle.go_sources.specs.Reading.{HasTree}
use Rattle.go_finding.specs.Imports.{Import, imports_of, import_path}
use Rattle.go_finding.specs.Modules.{Broken}
use Rattle.go_finding.specs.Places.{first_place}
use Rattle.go_finding.specs.Projects.{FileText, Project, Origin, texts_of, is_built_in, IsOriginAt, target_path}
use Rattle.go_finding.specs.Projects.{is_import_found}
use Rattle.go_finding.specs.Reading.{max_file_bytes, BreaksText}

-- a file of a program, with its tree
pub record File : Type 0 where
  pub path : List ℕ
  pub bytes : List ℕ
  pub tree : FileTree

pub record Package : Type 0 where
  pub path : List ℕ
  pub built_in : Bool
  pub files : List File

-- that a file breaks a rule at a token
abbrev pub broken_at : File → Token → Rule → Broken
broken_at file token rule =
    record { place = place_in file.path file.bytes (min token.start (length file.bytes)); rule = rule }

-- ---- the reading of files

-- Of a text and so many bytes that files may still have: the file, or the rule that it breaks first.
pub data Reads (room : ℕ) (text : FileText) : Result File Broken → Type 0 where
  TooLarge : max_file_bytes < length text.bytes
      → Reads room text (Err (record { place = first_place text.path; rule = rules.FileTooLarge }))
  TooMuch : length text.bytes ≤ max_file_bytes → room < length text.bytes
      → Reads room text (Err (record { place = first_place text.path; rule = rules.ProgramTooLarge }))
  Bad : length text.bytes ≤ max_file_bytes → length text.bytes ≤ room → (place : Place) (rule : Rule)
      → BreaksText text.path text.bytes place rule → Reads room text (Err (record { place = place; rule = rule }))
  Good : length text.bytes ≤ max_file_bytes → length text.bytes ≤ room → (tree : FileTree) → HasTree text.bytes tree
      → Reads room text (Ok (record { path = text.path; bytes = text.bytes; tree = tree }))

abbrev pub with_file : File → Result (List File) Broken → Result (List File) Broken
with_file file (Ok files) = Ok (file ∷ files)
with_file file (Err broken) = Err broken

-- texts one after another, up to the first that breaks a rule
pub data ReadsAll : ℕ → List FileText → Result (List File) Broken → Type 0 where
  Ends : (room : ℕ) → ReadsAll room [] (Ok [])
  Stops : (room : ℕ) (text : FileText) (texts : List FileText) (broken : Broken) → Reads room text (Err broken)
      → ReadsAll room (text ∷ texts) (Err broken)
  Continues : (room : ℕ) (text : FileText) (texts : List FileText) (file : File) (rest : Result (List File) Broken)
      → Reads room text (Ok file) → ReadsAll (room - length text.bytes) texts rest
      → ReadsAll room (text ∷ texts) (with_file file rest)

-- ---- what is asked of the files of a package together

abbrev pub or_else : Option Broken → Option Broken → Option Broken
or_else None other = other
or_else (Some broken) other = Some broken

-- the name in a file's package clause
abbrev pub name_of : File → List ℕ
name_of file = text_in file.bytes file.tree.name

-- the first file that has another package name
abbrev pub other_name : List ℕ → List File → Option Broken
other_name name [] = None
other_name name (file ∷ files) =
    if bytes_eq (name_of file) name then other_name name files
    else Some (broken_at file file.tree.name rules.SecondPackageName)

abbrev pub unfound_of : Project → File → List Import → Option Broken
unfound_of project file [] = None
unfound_of project file (import ∷ imports) =
    if is_import_found project import.path then unfound_of project file imports
    else Some (broken_at file import.literal rules.NoSuchPackage)

abbrev pub imports_in : File → List Import
imports_in file = imports_of file.bytes file.tree

-- the first import that names no package
abbrev pub unfound : Project → List File → Option Broken
unfound project [] = None
unfound project (file ∷ files) = or_else (unfound_of project file (imports_in file)) (unfound project files)

abbrev pub path_asked : Target → List ℕ
path_asked (targets.File path) = path
path_asked (targets.Dir path) = path

-- a package has files, all of one package name
abbrev pub name_fault : Target → List File → Option Broken
name_fault target [] = Some (record { place = first_place (path_asked target); rule = rules.NoGoFiles })
name_fault target (file ∷ files) = other_name (name_of file) files

-- the imports of a package's files; a built-in package has none
abbrev pub import_files : Bool → List File → List File
import_files built_in files = if built_in then [] else files

-- the first rule that files break as a package: they have one package name, then each import names a package
abbrev pub package_fault : Project → Bool → List File → Option Broken
package_fault project built_in files =
    or_else (name_fault project.target files) (unfound project (import_files built_in files))

-- Of the texts of a package, and the bytes that they may have: its files, or the rule that it breaks first.
pub data Loads (project : Project) (room : ℕ) (built_in : Bool) (texts : List FileText) : Result (List File) Broken
    → Type 0 where
  Unread : (broken : Broken) → ReadsAll room texts (Err broken) → Loads project room built_in texts (Err broken)
  Faulty : (files : List File) (broken : Broken) → ReadsAll room texts (Ok files)
      → package_fault project built_in files ≡ Some broken → Loads project room built_in texts (Err broken)
  Sound : (files : List File) → ReadsAll room texts (Ok files) → package_fault project built_in files ≡ None
      → Loads project room built_in texts (Ok files)

-- ---- the order of packages

abbrev pub imports_of_files : List File → List Import
imports_of_files files = flat_map imports_in files

abbrev pub imports_of_package : Package → List Import
imports_of_package one = imports_of_files (import_files one.built_in one.files)

abbrev pub with_import : List (List ℕ) → Import → List (List ℕ)
with_import paths import = with_text (import_path import) paths

-- The paths that are known once these packages are loaded: that of the target, and those of all imports, each where it
-- is met first.
abbrev pub known : Project → List Package → List (List ℕ)
known project packages = fold with_import (target_path project ∷ []) (flat_map imports_of_package packages)

-- how many bytes of a package count
abbrev pub size : Package → ℕ
size one = if one.built_in then 0 else sum_by (λ file. length file.bytes) one.files

-- how many bytes the files of the next package may have; those of a built-in one are not counted
abbrev pub room_for : Project → List Package → Bool → ℕ
room_for project packages built_in = if built_in then max_file_bytes else project.limit - sum_by size packages

-- what the package at this path is, behind others
pub record LoadsNext (project : Project) (packages : List Package) (path : List ℕ) (built_in : Bool)
    (result : Result (List File) Broken) : Type 0 where
  pub origin : Origin
  pub origin_is : IsOriginAt project (length packages) path origin
  pub built_in_is : built_in ≡ is_built_in origin
  pub loads : Loads project (room_for project packages built_in) built_in (texts_of project.files origin) result

-- the package is sound
abbrev pub IsPackage : Project → List Package → Package → Type 0
IsPackage project packages one = LoadsNext project packages one.path one.built_in (Ok one.files)

-- the package at this path breaks a rule
abbrev pub BreaksPackage : Project → List Package → List ℕ → Broken → Type 0
BreaksPackage project packages path broken = (built_in : Bool) × LoadsNext project packages path built_in (Err broken)

-- the path of the package that is loaded next
abbrev pub IsNext : Project → List Package → List ℕ → Type 0
IsNext project packages path = slice_get (known project packages) (length packages) ≡ Some path

-- Packages that are loaded first, in the order in which their paths are met.
pub data IsFront (project : Project) : List Package → Type 0 where
  Nothing : IsFront project []
  More : (packages : List Package) (one : Package) → IsFront project packages → IsNext project packages one.path
      → IsPackage project packages one → IsFront project (packages ++ one ∷ [])

-- all that imports name is loaded
abbrev pub IsComplete : Project → List Package → Type 0
IsComplete project packages = length (known project packages) ≤ length packages

-- ---- what is asked of all imports together

-- an import of the package with the number `to` by that with the number `from`, and where it stands
pub record Link : Type 0 where
  pub from : ℕ
  pub to : ℕ
  pub place : Place

abbrev pub link_of : List (List ℕ) → ℕ → File → Import → Link
link_of paths from file import =
    record {
      from = from;
      to = place_of (import_path import) paths;
      place = (broken_at file import.literal rules.ImportCycle).place;
    }

abbrev pub links_of_file : List (List ℕ) → ℕ → File → List Link
links_of_file paths from file = map (link_of paths from file) (imports_in file)

-- the imports of packages, of which the first has this number
abbrev pub links_from : List (List ℕ) → ℕ → List Package → List Link
links_from paths number [] = []
links_from paths number (one ∷ packages) =
    flat_map (links_of_file paths number) (import_files one.built_in one.files)
    ++ links_from paths (number + 1) packages

-- all imports, in order
abbrev pub links : Project → List Package → List Link
links project packages = links_from (known project packages) 0 packages

abbrev pub edge_of : Link → Edge
edge_of link = record { from = link.from; to = link.to }

-- whether files are those of a package named main
abbrev pub are_program : List File → Bool
are_program [] = false
are_program (file ∷ files) = bytes_eq (name_of file) (codes "main")

abbrev pub is_program_at : List Package → ℕ → Bool
is_program_at [] number = false
is_program_at (one ∷ packages) zero = are_program one.files
is_program_at (one ∷ packages) (suc number) = is_program_at packages number

-- the first import of a package named main
abbrev pub first_of_program : Project → List Package → Option Link
first_of_program project packages = find (λ link. is_program_at packages link.to) (links project packages)

-- the first import that is on a cycle of imports, if there is one
abbrev pub IsOnCycleFirst : Project → List Package → Option ℕ → Type 0
IsOnCycleFirst project packages index = IsFirstOnCycle (map edge_of (links project packages)) index

-- no import is of a program, and none is on a cycle
pub record AreImportsSound (project : Project) (packages : List Package) : Type 0 where
  pub no_program : first_of_program project packages ≡ None
  pub no_cycle : IsOnCycleFirst project packages None

-- ---- programs

abbrev pub runtime_path : List ℕ
runtime_path = codes "runtime"

abbrev pub has_runtime : Project → List Package → Bool
has_runtime project packages = list_any (bytes_eq runtime_path) (known project packages)

-- The packages that were found, and with them `runtime`, which is always loaded.
pub data IsWithRuntime (project : Project) (packages : List Package) : List Package → Type 0 where
  Kept : has_runtime project packages ≡ true → IsWithRuntime project packages packages
  Added : (one : Package) → has_runtime project packages ≡ false → one.path ≡ runtime_path
      → IsPackage project packages one → IsWithRuntime project packages (packages ++ one ∷ [])

-- What a project is: its packages, or the first rule that it breaks.
pub data IsResult (project : Project) : Result (List Package) Broken → Type 0 where
  BadPackage : (packages : List Package) (path : List ℕ) (broken : Broken) → IsFront project packages
      → IsNext project packages path → BreaksPackage project packages path broken → IsResult project (Err broken)
  OfProgram : (packages : List Package) (link : Link) → IsFront project packages → IsComplete project packages
      → first_of_program project packages ≡ Some link
      → IsResult project (Err (record { place = link.place; rule = rules.ImportOfAProgram }))
  OnCycle : (packages : List Package) (index : ℕ) (link : Link) → IsFront project packages → IsComplete project packages
      → first_of_program project packages ≡ None → IsOnCycleFirst project packages (Some index)
      → slice_get (links project packages) index ≡ Some link
      → IsResult project (Err (record { place = link.place; rule = rules.ImportCycle }))
  BadRuntime : (packages : List Package) (broken : Broken) → IsFront project packages → IsComplete project packages
      → AreImportsSound project packages → has_runtime project packages ≡ false
      → BreaksPackage project packages runtime_path broken → IsResult project (Err broken)
  Program : (packages all : List Package) → IsFront project packages → IsComplete project packages
      → AreImportsSound project packages → IsWithRuntime project packages all → IsResult project (Ok all)
