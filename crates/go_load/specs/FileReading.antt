-- What the reading of a package's files answers.
use Rattle.std.specs.Prelude.{◌≡◌, ℕ, List, [], ◌∷◌, map, Option, Some, None, Result, Ok, Err, Vec, String}
use Rattle.std.specs.Prelude.{string_bytes}
use Rattle.std.specs.List.{All}
use Rattle.std.specs.declared.alloc.Global.{Global}
use Rattle.go_base.specs.Devices.{Tree, file_at}
use Rattle.go_sources.specs.declared.built_in.BuiltIn.{BuiltIn}
use Rattle.go_sources.specs.declared.sources.SourceFile.{SourceFile}
use Rattle.go_sources.specs.BuiltIns.{built_in_path, built_in_text}
use Rattle.go_finding.specs.declared.error.LoadError.{LoadError}
use Rattle.go_finding.specs.declared.error.LoadError.TheVariants.{Refused, ReadFault, OutOfMemory}
use Rattle.go_finding.specs.Finding.{view_file}
use Rattle.go_finding.specs.Modules.{Broken}
use Rattle.go_finding.specs.Programs.{File, Reads, ReadsAll}
use Rattle.go_finding.specs.Projects.{FileText, texts_at}
use Rattle.go_finding.specs.Reading.{max_file_bytes}

abbrev pub text_of : List ℕ → List ℕ → FileText
text_of path bytes = record { path = path; bytes = bytes }

-- an answer of the code, seen by view; a failed device and want of memory are free
abbrev pub AnswersBy : {X Y : Type 0} → (X → Y) → (Result Y Broken → Type 0) → Result X LoadError → Type 0
AnswersBy view Holds (Ok x) = Holds (Ok (view x))
AnswersBy view Holds (Err (Refused place rule)) = Holds (Err (record { place = place; rule = rule }))
AnswersBy view Holds (Err ReadFault) = Unit {0}
AnswersBy view Holds (Err OutOfMemory) = Unit {0}

abbrev pub view_files : Vec SourceFile Global → List File
view_files files = map view_file files.items

-- the answer for a text
abbrev pub ReadsText : List ℕ → List ℕ → ℕ → Result SourceFile LoadError → Type 0
ReadsText path bytes room result = AnswersBy view_file (Reads room (text_of path bytes)) result

-- the answer for the file at a path
abbrev pub ReadsPath : Tree → List ℕ → ℕ → Result (Option SourceFile) LoadError → Type 0
ReadsPath files path room (Ok None) = file_at files path ≡ None
ReadsPath files path room (Ok (Some source)) =
    (file_at files path ≡ Some source.bytes) × (source.path ≡ path)
    × Reads room (text_of path source.bytes) (Ok (view_file source))
ReadsPath files path room (Err (Refused place rule)) =
    (bytes : List ℕ) × (file_at files path ≡ Some bytes)
    × Reads room (text_of path bytes) (Err (record { place = place; rule = rule }))
ReadsPath files path room (Err ReadFault) = Unit {0}
ReadsPath files path room (Err OutOfMemory) = Unit {0}

-- the answer for the files at paths
abbrev pub ReadsPaths : Tree → List (String Global) → ℕ → Result (Vec SourceFile Global) LoadError → Type 0
ReadsPaths files paths room result =
    AnswersBy view_files (ReadsAll room (texts_at files (map string_bytes paths))) result

-- the answer for the file of a built-in package
abbrev pub ReadsBuiltIn : BuiltIn → Result (Vec SourceFile Global) LoadError → Type 0
ReadsBuiltIn built_in result =
    AnswersBy view_files
    (ReadsAll max_file_bytes (text_of (built_in_path built_in) (built_in_text built_in) ∷ [])) result

-- files are those of the package with this number
abbrev pub AreOf : ℕ → List SourceFile → Type 0
AreOf number sources = All (λ (source : SourceFile). source.package ≡ number) sources
