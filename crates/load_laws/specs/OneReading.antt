-- When two readings are one.
use Rattle.std.specs.Prelude.{◌≡◌, List, Result, Ok, Err}
use Rattle.std.specs.List.{AllZip}
use Rattle.go_grammar.specs.View.{view_file}
use Rattle.go_finding.specs.Modules.{Broken}
use Rattle.go_finding.specs.Programs.{File}

-- files are the same, wherever their trees lie in memory
pub record IsSameFile (a b : File) : Type 0 where
  pub path : a.path ≡ b.path
  pub bytes : a.bytes ≡ b.bytes
  pub tree : view_file a.tree ≡ view_file b.tree

abbrev pub IsSameResult : {A : Type 0} → (A → A → Type 0) → Result A Broken → Result A Broken → Type 0
IsSameResult Same (Ok a) (Ok b) = Same a b
IsSameResult Same (Ok a) (Err broken) = ⊥
IsSameResult Same (Err broken) (Ok b) = ⊥
IsSameResult Same (Err broken) (Err other) = broken ≡ other

abbrev pub AreSameFiles : List File → List File → Type 0
AreSameFiles a b = AllZip IsSameFile a b

-- two readings of one text
abbrev pub IsSameRead : Result File Broken → Result File Broken → Type 0
IsSameRead a b = IsSameResult IsSameFile a b

-- two readings of texts one after another
abbrev pub AreSameRead : Result (List File) Broken → Result (List File) Broken → Type 0
AreSameRead a b = IsSameResult AreSameFiles a b
