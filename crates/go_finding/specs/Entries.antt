-- How the packages that were found grow.
use Rattle.std.specs.Prelude.{◌≡◌, ℕ, Bool, not, List, [], ◌∷◌, ◌++◌, Option, Some, None, Result, string_bytes}
use Rattle.std.specs.Prelude.{bytes_eq}
use Rattle.std.specs.List.{list_any}
use Rattle.std.specs.Option.{option_and_then}
use Rattle.go_base.specs.Devices.{Tree}
use Rattle.go_base.specs.NameTable.{place_of, with_text}
use Rattle.go_base.specs.declared.place.Pos.{Pos}
use Rattle.go_sources.specs.declared.built_in.BuiltIn.{BuiltIn}
use Rattle.go_sources.specs.BuiltIns.{built_in_named}
use Rattle.go_finding.specs.declared.error.LoadError.{LoadError}
use Rattle.go_finding.specs.declared.find_module.Module as modules
use Rattle.go_finding.specs.declared.found.Entry.{Entry}
use Rattle.go_finding.specs.declared.found.Found.{Found}
use Rattle.go_finding.specs.declared.found.Origin as origins
use Rattle.go_finding.specs.Finding.{AreRight, Joins, PackageFound}
use Rattle.go_finding.specs.Imports.{import_dir}
use Rattle.go_finding.specs.Modules.{view_module}
use Rattle.go_finding.specs.Programs.{runtime_path}
use Rattle.go_finding.specs.Projects.{Project, dir_named}

-- a path has this number, and is among those that have one
pub record IsNumbered (old new : Found) (path : List ℕ) (number : ℕ) : Type 0 where
  pub number_is : number ≡ place_of path old.paths
  pub grown : new ≡ record old { paths = with_text path old.paths }

-- a package is added behind the others
pub record AddsEntry (old new : Found) (path : List ℕ) (origin : origins.Origin) (asker : Option Pos) : Type 0 where
  pub root : new.root ≡ old.root
  pub paths : new.paths ≡ old.paths
  pub entry : Entry
  pub entries : new.entries.items ≡ old.entries.items ++ entry ∷ []
  pub path_is : string_bytes entry.path ≡ path
  pub origin_is : entry.origin ≡ origin
  pub asker_is : entry.asker ≡ asker

-- a built-in package is among those found
abbrev pub JoinsBuiltIn : BuiltIn → Found → Found → List ℕ → ℕ → Type 0
JoinsBuiltIn built_in old new path number =
    (project : Project) → AreRight project old → built_in_named path ≡ Some built_in → Joins project old new path number

-- the answer for the package that is always loaded
abbrev pub RuntimeFound : Found → Found → Bool → Type 0
RuntimeFound old new added =
    (project : Project) → AreRight project old
    → (added ≡ not (list_any (bytes_eq runtime_path) old.paths)) × (new.paths ≡ with_text runtime_path old.paths)
    × AreRight project new

-- the directory that an import path names, where the target belongs to a module
abbrev pub dir_in : Option modules.Module → List ℕ → Option (List ℕ)
dir_in root path = option_and_then (λ root. import_dir (view_module root) path) root

-- the answer for an import path that names a directory
abbrev pub FindsDirectory : Tree → Found → Found → List ℕ → List ℕ → Result (Option ℕ) LoadError → Type 0
FindsDirectory files old new path dir result =
    (project : Project) → project.files ≡ files → AreRight project old → built_in_named path ≡ None
    → dir_named project path ≡ Some dir
    → PackageFound project old new path result
