-- What holds of every program that was loaded.
use Rattle.std.specs.Prelude.{◌≡◌, ◌<◌, ◌≤◌, ◌+◌, ℕ, List, [], ◌∷◌, ◌++◌, length, map, All, Vec, Some, option_map}
use Rattle.std.specs.Prelude.{unwrap_or, slice_get, IfSome, IsSomeAnd, codes}
use Rattle.std.specs.declared.alloc.Global.{Global}
use Rattle.import_graph.specs.Cycles.{IsOnCycle}
use Rattle.import_graph.specs.declared.edges.Edge.{Edge}
use Rattle.go_sources.specs.BuiltIns.{built_in_text}
use Rattle.go_sources.specs.declared.built_in.BuiltIn.TheVariants.{Runtime}
use Rattle.go_sources.specs.declared.sources.Import.{Import}
use Rattle.go_sources.specs.declared.sources.SourceFile.{SourceFile}
use Rattle.go_sources.specs.declared.sources.SourcePackage.{SourcePackage}

-- ---- the order of files

-- a file with this number stands among those of the package with that number: not before its first, and before the
-- first of the next package
pub record IsPlaced (packages : List SourcePackage) (file number : ℕ) : Type 0 where
  pub begun : IsSomeAnd (slice_get packages number) (λ one. one.first_file ≤ file)
  pub before : IfSome (slice_get packages (number + 1)) (λ next. file < next.first_file)

-- each file stands among those of its package
abbrev pub ArePlaced : List SourcePackage → List SourceFile → Type 0
ArePlaced packages files =
    (number : ℕ) (file : SourceFile) → slice_get files number ≡ Some file → IsPlaced packages number file.package

-- the first file of each package is one of its files
abbrev pub AreFirst : List SourceFile → List SourcePackage → Type 0
AreFirst files packages =
    (number : ℕ) (one : SourcePackage) → slice_get packages number ≡ Some one
    → IsSomeAnd (slice_get files one.first_file) (λ file. file.package ≡ number)

-- each package has files, which stand together, in the order of packages
pub record AreInOrder (files : List SourceFile) (packages : List SourcePackage) : Type 0 where
  pub placed : ArePlaced packages files
  pub first : AreFirst files packages

-- ---- imports

-- the imports of the file with a number; none where there is no such file
abbrev pub imports_in : List (Vec Import Global) → ℕ → List Import
imports_in all number =
    unwrap_or (option_map (λ (imports : Vec Import Global). imports.items) (slice_get all number)) []

-- the imports of a file of the package with this number, each from package to package
abbrev pub edges_of_file : ℕ → List Import → List Edge
edges_of_file number imports = map (λ (import : Import). record { from = number; to = import.package }) imports

-- the imports of files, of which the first has this number
abbrev pub edges_from : ℕ → List SourceFile → List (Vec Import Global) → List Edge
edges_from number [] all = []
edges_from number (file ∷ files) all =
    edges_of_file file.package (imports_in all number) ++ edges_from (number + 1) files all

-- all imports, each from package to package
abbrev pub import_edges : List SourceFile → List (Vec Import Global) → List Edge
import_edges files all = edges_from 0 files all

-- ---- the package `runtime`

pub record IsRuntime (files : List SourceFile) (one : SourcePackage) : Type 0 where
  pub path : one.path ≡ codes "runtime"
  pub text : IsSomeAnd (slice_get files one.first_file) (λ file. file.bytes ≡ built_in_text Runtime)

-- one of the packages is `runtime`, with its text
pub record HaveRuntime (files : List SourceFile) (packages : List SourcePackage) : Type 0 where
  pub number : ℕ
  pub is : IsSomeAnd (slice_get packages number) (IsRuntime files)

-- ---- programs

pub record AreSources (files : List SourceFile) (packages : List SourcePackage) (imports : List (Vec Import Global)) :
    Type 0 where
  pub order : AreInOrder files packages
  -- each file has imports, if only none
  pub listed : length imports ≡ length files
  -- each import is of a package
  pub numbers : All (λ edge. edge.to < length packages) (import_edges files imports)
  pub no_cycle : All (λ edge. ¬ IsOnCycle (import_edges files imports) edge) (import_edges files imports)
  pub runtime : HaveRuntime files packages
