-- What is read of one file.
use Rattle.std.specs.Prelude.{◌≡◌, ℕ, List, Result, Ok, Err, slice_get}
use Rattle.go_base.specs.declared.line.TheConstants.{MAX_FILE_BYTES}
use Rattle.go_base.specs.declared.place.Place.{Place}
use Rattle.go_base.specs.declared.rule.Rule.{Rule}
use Rattle.go_base.specs.declared.rule.Rule.TheVariants as rules
use Rattle.go_ast.specs.declared.token.Token.{Token}
use Rattle.go_ast.specs.Lexical.{IsTokenList, IsFault}
use Rattle.go_syntax.specs.declared.decls.FileTree.{FileTree}
use Rattle.go_syntax.specs.Reach.{reach_index}
use Rattle.parse_answer.specs.Refusal.{DecidesReach, IsParsed}
use Rattle.parse_answer.specs.declared.error.ParseError.{ParseError}
use Rattle.parse_answer.specs.declared.error.ParseError.TheVariants as parses
use Rattle.go_sources.specs.Places.{place_in}
use Rattle.go_sources.specs.Reading.{HasTree}
use Rattle.go_finding.specs.declared.error.LoadError.{LoadError}
use Rattle.go_finding.specs.declared.error.LoadError.TheVariants.{Refused, ReadFault, OutOfMemory}
use Rattle.go_finding.specs.Places.{start_in}

-- the most bytes that a file may have
abbrev pub max_file_bytes : ℕ
max_file_bytes = MAX_FILE_BYTES

-- What the syntax of a file's tokens is: the first token that reaches too far, else its one well-formed tree, or the
-- first part that cannot be read.
abbrev pub IsVerdict : List Token → Result FileTree ParseError → Type 0
IsVerdict tokens verdict = DecidesReach verdict (reach_index tokens) × IsParsed tokens verdict

-- a text has no tree, and this is the first rule that it breaks, at this byte: the first lexical fault, else the first
-- token that reaches too far, else the first part that cannot be read
pub data IsBadText (bytes : List ℕ) : ℕ → Rule → Type 0 where
  BadBytes : (offset : ℕ) (rule : Rule) → IsFault bytes offset rule → IsBadText bytes offset rule
  TooDeep : (tokens : List Token) (index : ℕ) → IsTokenList bytes tokens → IsVerdict tokens (Err (parses.TooDeep index))
      → IsBadText bytes (start_in bytes (slice_get tokens index)) rules.NestedTooDeeply
  BadSyntax : (tokens : List Token) (index : ℕ) → IsTokenList bytes tokens
      → IsVerdict tokens (Err (parses.Unexpected index))
      → IsBadText bytes (start_in bytes (slice_get tokens index)) rules.SyntaxError

-- a place in a text, and the rule that is broken there
pub record BreaksText (path bytes : List ℕ) (place : Place) (rule : Rule) : Type 0 where
  pub offset : ℕ
  pub bad : IsBadText bytes offset rule
  pub place_is : place ≡ place_in path bytes offset

-- an answer of the code to a text at a path
abbrev pub ReadsTree : List ℕ → List ℕ → Result FileTree LoadError → Type 0
ReadsTree path bytes (Ok tree) = HasTree bytes tree
ReadsTree path bytes (Err (Refused place rule)) = BreaksText path bytes place rule
ReadsTree path bytes (Err ReadFault) = Unit {0}
ReadsTree path bytes (Err OutOfMemory) = Unit {0}
