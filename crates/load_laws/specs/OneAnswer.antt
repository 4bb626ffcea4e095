-- When two answers of loading are one.
use Rattle.std.specs.Prelude.{◌≡◌, ℕ, ◌≤◌, List, ◌++◌, length, Result, Ok, Err}
use Rattle.std.specs.List.{AllZip}
use Rattle.go_base.specs.Devices.{Tree}
use Rattle.go_base.specs.declared.target.Target.{Target}
use Rattle.go_grammar.specs.View.{view_file}
use Rattle.go_sources.specs.declared.program.Sources.{Sources}
use Rattle.go_sources.specs.declared.sources.SourceFile.{SourceFile}
use Rattle.go_sources.specs.Sources.{files_of, packages_of}
use Rattle.go_finding.specs.declared.error.LoadError.{LoadError}
use Rattle.go_finding.specs.declared.error.LoadError.TheVariants.{Refused, ReadFault, OutOfMemory}
use Rattle.go_load.specs.Answers.{IsAnswer, IsAnswerIn}
use Rattle.go_finding.specs.Finding.{listed}
use Rattle.go_finding.specs.Modules.{Broken}
use Rattle.load_laws.specs.OneReading.{AreSameFiles, IsSameResult}
use Rattle.go_finding.specs.Programs.{Package, IsFront, IsResult}
use Rattle.go_finding.specs.Projects.{Project}

-- ---- packages

-- packages are the same, wherever the trees of their files lie in memory
pub record IsSamePackage (a b : Package) : Type 0 where
  pub path : a.path ≡ b.path
  pub built_in : a.built_in ≡ b.built_in
  pub files : AreSameFiles a.files b.files

abbrev pub AreSamePackages : List Package → List Package → Type 0
AreSamePackages a b = AllZip IsSamePackage a b

-- packages are the first of others
pub record AreFirstOf (a b : List Package) : Type 0 where
  pub front : List Package
  pub rest : List Package
  pub whole : b ≡ front ++ rest
  pub same : AreSamePackages a front

-- the packages that are loaded first are determined by their number
abbrev pub OneFront : Type 0
OneFront =
    (project : Project) (a b : List Package) → IsFront project a → IsFront project b → length a ≤ length b
    → AreFirstOf a b

-- two results of a project are the same packages, or the same rule at the same place
abbrev pub OneResult : Type 0
OneResult =
    (project : Project) (a b : Result (List Package) Broken) → IsResult project a → IsResult project b
    → IsSameResult AreSamePackages a b

-- ---- answers

-- files are the same, and belong to the same package
pub record IsSameSource (a b : SourceFile) : Type 0 where
  pub path : a.path ≡ b.path
  pub bytes : a.bytes ≡ b.bytes
  pub tree : view_file a.tree ≡ view_file b.tree
  pub number : a.package ≡ b.package

-- programs are the same, wherever their parts lie in memory
pub record AreSameSources (a b : Sources) : Type 0 where
  pub files : AllZip IsSameSource (files_of a) (files_of b)
  pub packages : packages_of a ≡ packages_of b
  pub imports : listed a.imports.items ≡ listed b.imports.items
  pub minor : a.minor ≡ b.minor

-- Answers are the same: the same program, or the same rule at the same place. A failed device and want of memory may
-- come in place of either.
abbrev pub IsSameAnswer : Result Sources LoadError → Result Sources LoadError → Type 0
IsSameAnswer (Ok a) (Ok b) = AreSameSources a b
IsSameAnswer (Ok a) (Err (Refused place rule)) = ⊥
IsSameAnswer (Err (Refused place rule)) (Ok b) = ⊥
IsSameAnswer (Err (Refused place rule)) (Err (Refused at by)) = (place ≡ at) × (rule ≡ by)
IsSameAnswer (Err ReadFault) _ = Unit {0}
IsSameAnswer (Err OutOfMemory) _ = Unit {0}
IsSameAnswer _ (Err ReadFault) = Unit {0}
IsSameAnswer _ (Err OutOfMemory) = Unit {0}

-- the answers for a target in the same files are the same
abbrev pub OneAnswer : Type 0
OneAnswer =
    (files : Tree) (target : Target) (limit : ℕ) (a b : Result Sources LoadError) → IsAnswer files target limit a
    → IsAnswer files target limit b
    → IsSameAnswer a b

-- the same of the answers for a project, as for that of one file, which lies in no module
abbrev pub OneAnswerIn : Type 0
OneAnswerIn =
    (project : Project) (a b : Result Sources LoadError) → IsAnswerIn project a → IsAnswerIn project b
    → IsSameAnswer a b
