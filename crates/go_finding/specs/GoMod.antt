-- What a go.mod says.
use Rattle.std.specs.Prelude.{ℕ, ◌+◌, ◌-◌, ◌==◌, ◌||◌, ◌&&◌, nat_le, nat_lt, Bool, true, false, not, if◌then◌else◌}
use Rattle.std.specs.Prelude.{List, [], ◌∷◌, length, slice_range, Option, Some, None, is_some, unwrap_or, Result, Ok}
use Rattle.std.specs.Prelude.{Err, codes, bytes_eq, nat_eq}
use Rattle.std.specs.List.{list_any, prefix_len, starts_with, ends_with, slice_split}
use Rattle.std.specs.Option.{option_and_then}
use Rattle.std.specs.Str.{is_utf8}
use Rattle.go_base.specs.declared.rule.Rule.{Rule}
use Rattle.go_base.specs.declared.rule.Rule.TheVariants as rules
use Rattle.go_sources.specs.Sources.{newest_minor}
use Rattle.go_finding.specs.declared.go_mod.Fault.{Fault}
use Rattle.go_finding.specs.Words.{is_space, is_newline, first_word, after_word, ends_in_opening, without_comment}
use Rattle.go_finding.specs.Versions.{minor_version}

-- what a line says, apart from its comment
pub data Form : Type 0 where
  Blank : Form
  -- `module` with a word
  Module : (word : List ℕ) → Form
  -- `go` with this Go 1.N, which stands at this byte
  Go : (at minor : ℕ) → Form
  -- lines follow that are passed over, up to one of `)`
  Opening : Form
  Malformed : Form

-- the word of a text that has one word
abbrev pub lone_word : List ℕ → Option (List ℕ)
lone_word text =
    if bytes_eq (first_word text) [] || not (bytes_eq (first_word (after_word text)) []) then None
    else Some (first_word text)

abbrev pub module_line : Option (List ℕ) → Form
module_line None = Malformed
module_line (Some word) = Module word

abbrev pub version_line : ℕ → Option ℕ → Form
version_line at None = Malformed
version_line at (Some minor) = Go at minor

-- what stands behind the verb, which ends at `at`
abbrev pub go_line : ℕ → List ℕ → Option (List ℕ) → Form
go_line at rest None = Malformed
go_line at rest (Some word) = version_line (at + prefix_len is_space rest) (minor_version word)

abbrev pub is_passed_over : List ℕ → Bool
is_passed_over verb =
    list_any (bytes_eq verb) (codes "require" ∷ codes "replace" ∷ codes "exclude" ∷ codes "retract" ∷ codes "toolchain"
    ∷ [])

-- a line that begins at `at`
abbrev pub line_of : ℕ → List ℕ → Form
line_of at text =
    let verb = first_word text in
    let rest = after_word text in
    if bytes_eq verb [] then Blank
    else if bytes_eq verb (codes "module") then module_line (lone_word rest)
    else if bytes_eq verb (codes "go") then go_line (at + (length text - length rest)) rest (lone_word rest)
    else if not (is_passed_over verb) then Malformed
    else if ends_in_opening true rest then Opening
    else Blank

abbrev pub quote : List ℕ
quote = 34 ∷ []

-- a word without its double quotes, which it has at both ends or not at its head
abbrev pub unquoted : List ℕ → Option (List ℕ)
unquoted word =
    if not (starts_with nat_eq word quote) then Some word
    else if nat_le 2 (length word) && ends_with nat_eq word quote then Some (slice_range word 1 (length word - 1))
    else None

-- the empty path, and those of other packages
abbrev pub is_reserved : List ℕ → Bool
is_reserved path =
    length path == 0
    || list_any (bytes_eq path) (codes "main" ∷ codes "command-line-arguments" ∷ codes "os" ∷ codes "errors"
    ∷ codes "runtime" ∷ codes "sync" ∷ [])

-- what is no path of a module
abbrev pub is_taken : List ℕ → Bool
is_taken path = is_reserved path || (starts_with nat_eq path (codes "(") || starts_with nat_eq path (codes "*"))

abbrev pub utf8_text : List ℕ → Option (List ℕ)
utf8_text bytes = if is_utf8 bytes then Some bytes else None

abbrev pub free_path : List ℕ → Option (List ℕ)
free_path path = if is_taken path then None else Some path

-- the path of a module, where the word of a module line is one
abbrev pub module_path : List ℕ → Option (List ℕ)
module_path word = option_and_then (λ bytes. option_and_then free_path (utf8_text bytes)) (unquoted word)

-- what the lines so far say
pub record Said : Type 0 where
  -- the path of the module line; empty where that path is malformed
  pub path : Option (List ℕ)
  -- the N of Go 1.N
  pub minor : Option ℕ
  -- the line that begins the block that is open
  pub block : Option ℕ
  -- the first fault
  pub fault : Option Fault

abbrev pub nothing_said : Said
nothing_said = record { path = None; minor = None; block = None; fault = None }

abbrev pub refuse : ℕ → Rule → Said → Said
refuse offset rule said =
    if is_some said.fault then said else record said { fault = Some (record { offset = offset; rule = rule }) }

abbrev pub with_path : ℕ → Option (List ℕ) → Said → Said
with_path at None said = refuse at rules.MalformedGoMod (record said { path = Some [] })
with_path at (Some path) said = record said { path = Some path }

abbrev pub with_minor : ℕ → ℕ → Said → Said
with_minor word minor said =
    let more = record said { minor = Some minor } in
    if nat_lt newest_minor minor then refuse word rules.GoVersionNotSupported more else more

-- a go line that begins at `at`, with its version's place
abbrev pub take_version : ℕ → ℕ → ℕ → Said → Said
take_version at word minor said =
    if is_some said.minor then refuse at rules.MalformedGoMod said else with_minor word minor said

-- a line that begins at `at`, where no block is open
abbrev pub take_line : ℕ → Form → Said → Said
take_line at Blank said = said
take_line at (Module word) said =
    if is_some said.path then refuse at rules.MalformedGoMod said else with_path at (module_path word) said
take_line at (Go word minor) said = take_version at word minor said
take_line at Opening said = record said { block = Some at }
take_line at Malformed said = refuse at rules.MalformedGoMod said

abbrev pub is_closing : Option (List ℕ) → Bool
is_closing None = false
is_closing (Some word) = bytes_eq word (codes ")")

-- a line, without its comment
abbrev pub take_text : ℕ → List ℕ → Said → Said
take_text at text said =
    if is_some said.block then (if is_closing (lone_word text) then record said { block = None } else said)
    else take_line at (line_of at text) said

-- lines, of which the first begins at `at`
abbrev pub take_lines : ℕ → List (List ℕ) → Said → Said
take_lines at [] said = said
take_lines at (line ∷ lines) said = take_lines (at + length line + 1) lines (take_text at (without_comment line) said)

-- what a go.mod says
pub record Contents : Type 0 where
  pub path : List ℕ
  pub minor : ℕ

abbrev pub malformed : ℕ → Result Contents Fault
malformed offset = Err (record { offset = offset; rule = rules.MalformedGoMod })

abbrev pub with_block : List ℕ → ℕ → Option ℕ → Result Contents Fault
with_block path minor None = Ok (record { path = path; minor = minor })
with_block path minor (Some at) = malformed at

abbrev pub with_fault : Option Fault → Result Contents Fault → Result Contents Fault
with_fault None answer = answer
with_fault (Some fault) answer = Err fault

-- where no module line stands, that is what is wrong, at the start
abbrev pub said_in_all : Option (List ℕ) → Said → Result Contents Fault
said_in_all None said = malformed 0
said_in_all (Some path) said = with_fault said.fault (with_block path (unwrap_or said.minor newest_minor) said.block)

-- what a go.mod says, or the first place where it breaks a rule
abbrev pub go_mod : List ℕ → Result Contents Fault
go_mod text = let said = take_lines 0 (slice_split is_newline text) nothing_said in said_in_all said.path said
