-- The files of the built-in packages.
use Rattle.std.specs.Prelude.{◌≡◌, ℕ, ◌++◌, if◌then◌else◌, List, Option, Some, None, codes, bytes_eq}
use Rattle.go_sources.specs.declared.built_in.BuiltIn.{BuiltIn}
use Rattle.go_sources.specs.declared.built_in.BuiltIn.TheVariants.{Errors, Os, Runtime}

-- the built-in package with an import path
abbrev pub built_in_named : List ℕ → Option BuiltIn
built_in_named path =
    if bytes_eq path (codes "errors") then Some Errors
    else if bytes_eq path (codes "os") then Some Os
    else if bytes_eq path (codes "runtime") then Some Runtime
    else None

abbrev pub built_in_path : BuiltIn → List ℕ
built_in_path Errors = codes "builtin:errors.go"
built_in_path Os = codes "builtin:os.go"
built_in_path Runtime = codes "builtin:runtime.go"

abbrev pub built_in_text : BuiltIn → List ℕ
built_in_text Errors =
    codes "package errors\n\ntype errorString struct{ s string }\n\n"
    ++ codes "func New(text string) error { return &errorString{text} }\n\n"
    ++ codes "func (e *errorString) Error() string { return e.s }\n"
built_in_text Os = codes "package os\n\nfunc Exit(code int)\n"
built_in_text Runtime =
    codes "package runtime\n\ntype Error interface {\n\terror\n\tRuntimeError()\n}\n\n"
    ++ codes "type errorString string\n\n"
    ++ codes "func (e errorString) Error() string { return \"runtime error: \" + string(e) }\n\n"
    ++ codes "func (e errorString) RuntimeError() {}\n\nfunc Gosched()\n"

-- path and bytes are those of a built-in package's file
abbrev pub IsBuiltIn : List ℕ → List ℕ → Type 0
IsBuiltIn path bytes = (built_in : BuiltIn) × (path ≡ built_in_path built_in) × (bytes ≡ built_in_text built_in)
