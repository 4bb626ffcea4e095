-- What is loaded, and what its packages are read from.
use Rattle.std.specs.Prelude.{◌≡◌, ℕ, zero, suc, Bool, true, false, ◌||◌, List, [], ◌∷◌, map, filter, Option, Some}
use Rattle.std.specs.Prelude.{None, option_map, IsPermutation, codes, bytes_eq}
use Rattle.std.specs.Cmp.Lexicographic.{slice_cmp}
use Rattle.std.specs.List.{list_any, filter_map}
use Rattle.std.specs.List.Sorted.{IsSorted}
use Rattle.std.specs.Option.{option_and_then}
use Rattle.std.specs.Ordering.{nat_cmp}
use Rattle.go_base.specs.Devices.{Tree, file_at, names_in}
use Rattle.go_base.specs.declared.target.Target.{Target}
use Rattle.go_base.specs.declared.target.Target.TheVariants as targets
use Rattle.go_sources.specs.declared.built_in.BuiltIn.{BuiltIn}
use Rattle.go_sources.specs.BuiltIns.{built_in_path, built_in_text, built_in_named}
use Rattle.go_finding.specs.Imports.{dir_path, import_dir}
use Rattle.go_finding.specs.Listing.{is_go_file}
use Rattle.go_finding.specs.Modules.{Module}
use Rattle.go_finding.specs.Paths.{path_in}

-- the text of a file
pub record FileText : Type 0 where
  pub path : List ℕ
  pub bytes : List ℕ

-- what is loaded: the files that are told, the module to which the target belongs, the target, and the most bytes that
-- all Go files together may have
pub record Project : Type 0 where
  pub files : Tree
  pub root : Option Module
  pub target : Target
  pub limit : ℕ

-- ---- texts

abbrev pub text_at : Tree → List ℕ → Option FileText
text_at files path = option_map (λ bytes. record { path = path; bytes = bytes }) (file_at files path)

-- the texts of files; one that is absent is passed over
abbrev pub texts_at : Tree → List (List ℕ) → List FileText
texts_at files paths = filter_map (text_at files) paths

-- the names of the Go files of a directory, in byte order
pub record AreGoFiles (files : Tree) (dir : List ℕ) (names : List (List ℕ)) : Type 0 where
  pub all : IsPermutation (filter is_go_file (names_in dir files)) names
  pub order : IsSorted (slice_cmp nat_cmp) names

-- the paths of the Go files of a directory
pub record AreGoPaths (files : Tree) (dir : List ℕ) (paths : List (List ℕ)) : Type 0 where
  pub names : List (List ℕ)
  pub listed : AreGoFiles files dir names
  pub paths_are : paths ≡ map (path_in dir) names

abbrev pub has_go_files : Tree → List ℕ → Bool
has_go_files files dir = list_any is_go_file (names_in dir files)

-- ---- packages

-- the path of a package that has no import path
abbrev pub no_import_path : List ℕ
no_import_path = codes "command-line-arguments"

abbrev pub dir_path_in : Option Module → List ℕ → List ℕ
dir_path_in None dir = no_import_path
dir_path_in (Some root) dir = dir_path root dir

-- the path of the target's package
abbrev pub path_of_target : Option Module → Target → List ℕ
path_of_target root (targets.File path) = no_import_path
path_of_target root (targets.Dir dir) = dir_path_in root dir

abbrev pub target_path : Project → List ℕ
target_path project = path_of_target project.root project.target

-- the directory that an import path names
abbrev pub dir_named : Project → List ℕ → Option (List ℕ)
dir_named project path = option_and_then (λ root. import_dir root path) project.root

-- Where the files of a package are: it is built in, or they are at these paths.
pub data Origin : Type 0 where
  BuiltInFile : (built_in : BuiltIn) → Origin
  Paths : (paths : List (List ℕ)) → Origin

abbrev pub texts_of : Tree → Origin → List FileText
texts_of files (BuiltInFile built_in) = record { path = built_in_path built_in; bytes = built_in_text built_in } ∷ []
texts_of files (Paths paths) = texts_at files paths

abbrev pub is_built_in : Origin → Bool
is_built_in (BuiltInFile built_in) = true
is_built_in (Paths paths) = false

-- the files of the target
abbrev pub IsOriginOfTarget : Tree → Target → Origin → Type 0
IsOriginOfTarget files target (BuiltInFile built_in) = ⊥
IsOriginOfTarget files (targets.File path) (Paths paths) = paths ≡ path ∷ []
IsOriginOfTarget files (targets.Dir dir) (Paths paths) = AreGoPaths files dir paths

-- the files of a package that has Go files in a directory
pub record IsDirectory (files : Tree) (named : Option (List ℕ)) (paths : List (List ℕ)) : Type 0 where
  pub dir : List ℕ
  pub named_is : named ≡ Some dir
  pub some : has_go_files files dir ≡ true
  pub listed : AreGoPaths files dir paths

-- the files of the package that an import path names
abbrev pub IsOriginOfImport : Project → List ℕ → Origin → Type 0
IsOriginOfImport project path (BuiltInFile built_in) = built_in_named path ≡ Some built_in
IsOriginOfImport project path (Paths paths) =
    (built_in_named path ≡ None) × IsDirectory project.files (dir_named project path) paths

-- the files of the package at an index among those that are loaded, of which the first is the target
abbrev pub IsOriginAt : Project → ℕ → List ℕ → Origin → Type 0
IsOriginAt project zero path origin = IsOriginOfTarget project.files project.target origin
IsOriginAt project (suc index) path origin = IsOriginOfImport project path origin

abbrev pub is_found_in : Project → List ℕ → Option BuiltIn → Option (List ℕ) → Bool
is_found_in project path (Some built_in) dir = true
is_found_in project path None (Some dir) = bytes_eq path (target_path project) || has_go_files project.files dir
is_found_in project path None None = false

-- whether an import path names a package: a built-in one, or a directory that is the target's or has Go files
abbrev pub is_found : Project → List ℕ → Bool
is_found project path = is_found_in project path (built_in_named path) (dir_named project path)

abbrev pub is_import_found : Project → Option (List ℕ) → Bool
is_import_found project None = false
is_import_found project (Some path) = is_found project path
