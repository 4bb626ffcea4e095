-- Programs that were loaded, and the files that they come from.
use Rattle.std.specs.Prelude.{◌≡◌, ℕ, Bool, false, if◌then◌else◌, List, Option, Some, None, option_map, unwrap_or}
use Rattle.std.specs.Prelude.{slice_get, Vec, IfSome, All, ◌⊎◌}
use Rattle.std.specs.declared.alloc.Global.{Global}
use Rattle.go_base.specs.Devices.{Tree, file_at}
use Rattle.go_sources.specs.declared.program.Sources.{Sources}
use Rattle.go_sources.specs.declared.sources.Import.{Import}
use Rattle.go_sources.specs.declared.sources.SourceFile.{SourceFile}
use Rattle.go_sources.specs.declared.sources.SourcePackage.{SourcePackage}
use Rattle.go_sources.specs.BuiltIns.{IsBuiltIn}
use Rattle.go_sources.specs.Soundness.{imports_in}

abbrev pub files_of : Sources → List SourceFile
files_of sources = sources.files.items

abbrev pub packages_of : Sources → List SourcePackage
packages_of sources = sources.packages.items

-- the imports of the file with a number; none where there is no such file
abbrev pub imports_at : Sources → ℕ → List Import
imports_at sources file = imports_in sources.imports.items file

-- the newest N of Go 1.N
abbrev pub newest_minor : ℕ
newest_minor = 21

-- the N of Go 1.N whose rules a package follows, in a program with that of go.mod: a built-in one follows the newest
abbrev pub version_under : Bool → ℕ → ℕ
version_under built_in minor = if built_in then newest_minor else minor

abbrev pub is_built_in_at : List SourcePackage → ℕ → Bool
is_built_in_at packages number =
    unwrap_or (option_map (λ (one : SourcePackage). one.built_in) (slice_get packages number)) false

-- the same of the package with a number
abbrev pub version_of : Sources → ℕ → ℕ
version_of sources number = version_under (is_built_in_at (packages_of sources) number) sources.minor

-- the file at the path has these bytes, where files are told, or it is that of a built-in package
abbrev pub IsText : Option Tree → List ℕ → List ℕ → Type 0
IsText files path bytes = IfSome files (λ tree. file_at tree path ≡ Some bytes) ⊎ IsBuiltIn path bytes

-- what the file at a path has, if there is one
abbrev pub HasBytes : Option Tree → List ℕ → Option (Vec ℕ Global) → Type 0
HasBytes files path None = Unit {0}
HasBytes files path (Some bytes) = IsText files path bytes.items

abbrev pub AreTold : Option Tree → List SourceFile → Type 0
AreTold files sources = All (λ (file : SourceFile). IsText files file.path file.bytes) sources
