-- What makes a text a go.mod, line by line.
use Rattle.std.specs.Prelude.{◌≡◌, ◌⊎◌, ◌<◌, ℕ, ◌+◌, Bool, false, List, [], ◌∷◌, length, slice_get, Some, None}
use Rattle.std.specs.List.{slice_split}
use Rattle.go_base.specs.declared.rule.Rule.TheVariants as rules
use Rattle.go_sources.specs.Sources.{newest_minor}
use Rattle.go_finding.specs.declared.go_mod.Fault.{Fault}
use Rattle.go_finding.specs.GoMod.{Form, Module, Go, Opening, Malformed, Contents, line_of, lone_word, is_closing}
use Rattle.go_finding.specs.GoMod.{module_path}
use Rattle.go_finding.specs.Words.{is_newline, without_comment}

-- a line: the byte at which it begins, and what it has before its comment
pub record Line : Type 0 where
  pub at : ℕ
  pub text : List ℕ

-- lines, of which the first begins at `at`
abbrev pub lines_from : ℕ → List (List ℕ) → List Line
lines_from at [] = []
lines_from at (line ∷ lines) =
    record { at = at; text = without_comment line } ∷ lines_from (at + length line + 1) lines

abbrev pub lines_of : List ℕ → List Line
lines_of text = lines_from 0 (slice_split is_newline text)

-- ---- blocks

-- a line whose one word is `)`
abbrev pub closes : Line → Bool
closes line = is_closing (lone_word line.text)

-- no line behind line i, and before line n, closes a block
abbrev pub StaysOpen : List Line → ℕ → ℕ → Type 0
StaysOpen lines i n = (k : ℕ) (line : Line) → i < k → k < n → slice_get lines k ≡ Some line → closes line ≡ false

-- Line n stands in a block: behind a line that opens one, as `require (`, where none between closes it. The line that
-- closes a block is in it.
pub record IsInBlock (lines : List Line) (n : ℕ) : Type 0 where
  pub i : ℕ
  pub line : Line
  pub stands : slice_get lines i ≡ Some line
  pub before : i < n
  pub opens : line_of line.at line.text ≡ Opening
  pub unclosed : StaysOpen lines i n

-- line i is this one, which stands in no block, and has this form
pub record HasForm (lines : List Line) (i : ℕ) (line : Line) (form : Form) : Type 0 where
  pub stands : slice_get lines i ≡ Some line
  pub outside : IsInBlock lines i → ⊥
  pub says : line_of line.at line.text ≡ form

-- ---- rules

-- a module line stands before line n
abbrev pub HasModule : List Line → ℕ → Type 0
HasModule lines n = (i : ℕ) × (line : Line) × (word : List ℕ) × (i < n) × HasForm lines i line (Module word)

-- a go line stands before line n
abbrev pub HasGo : List Line → ℕ → Type 0
HasGo lines n = (i : ℕ) × (line : Line) × (at : ℕ) × (minor : ℕ) × (i < n) × HasForm lines i line (Go at minor)

abbrev pub malformed_at : ℕ → Fault
malformed_at offset = record { offset = offset; rule = rules.MalformedGoMod }

-- what line i breaks
pub data Violates (lines : List Line) (i : ℕ) (line : Line) : Fault → Type 0 where
  -- it has no form
  NoForm : HasForm lines i line Malformed → Violates lines i line (malformed_at line.at)
  -- the word of a module line is no path of a module
  NoPath : (word : List ℕ) → HasForm lines i line (Module word) → module_path word ≡ None
      → Violates lines i line (malformed_at line.at)
  -- it is a second module line
  SecondModule : (word : List ℕ) → HasForm lines i line (Module word) → HasModule lines i
      → Violates lines i line (malformed_at line.at)
  -- it is a second go line
  SecondGo : (at minor : ℕ) → HasForm lines i line (Go at minor) → HasGo lines i
      → Violates lines i line (malformed_at line.at)
  -- it is the first go line, and wants a newer Go: the place is that of the version
  TooNew : (at minor : ℕ) → HasForm lines i line (Go at minor) → (HasGo lines i → ⊥) → newest_minor < minor
      → Violates lines i line (record { offset = at; rule = rules.GoVersionNotSupported })

-- no line before line n breaks a rule
abbrev pub AreSound : List Line → ℕ → Type 0
AreSound lines n = (i : ℕ) (line : Line) (fault : Fault) → i < n → Violates lines i line fault → ⊥

-- ---- go.mod

-- the path is that of a module line
abbrev pub GivesPath : List Line → List ℕ → Type 0
GivesPath lines path =
    (i : ℕ) × (line : Line) × (word : List ℕ) × HasForm lines i line (Module word) × (module_path word ≡ Some path)

-- the N of Go 1.N is that of a go line, or the newest where there is none
abbrev pub GivesMinor : List Line → ℕ → Type 0
GivesMinor lines minor =
    ((i : ℕ) × (line : Line) × (at : ℕ) × HasForm lines i line (Go at minor))
    ⊎ ((HasGo lines (length lines) → ⊥) × (minor ≡ newest_minor))

-- Lines are a go.mod that says this: none breaks a rule, so that a module line and a go line stand once at most, and
-- the last block is closed.
pub record IsGoMod (lines : List Line) (contents : Contents) : Type 0 where
  pub sound : AreSound lines (length lines)
  pub path : GivesPath lines contents.path
  pub minor : GivesMinor lines contents.minor
  pub closed : IsInBlock lines (length lines) → ⊥

-- lines are no go.mod, for this
pub data IsBadGoMod (lines : List Line) : Fault → Type 0 where
  -- no module line stands anywhere, whatever else is wrong
  NoModule : (HasModule lines (length lines) → ⊥) → IsBadGoMod lines (malformed_at 0)
  -- a line breaks a rule, and none before it
  FirstLine : (i : ℕ) (line : Line) (fault : Fault) → HasModule lines (length lines) → Violates lines i line fault
      → AreSound lines i → IsBadGoMod lines fault
  -- no line breaks a rule, and the block that this one opens is not closed
  Unclosed : (i : ℕ) (line : Line) → HasModule lines (length lines) → AreSound lines (length lines)
      → HasForm lines i line Opening → StaysOpen lines i (length lines) → IsBadGoMod lines (malformed_at line.at)
