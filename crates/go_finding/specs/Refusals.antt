-- Why nothing is loaded.
use Rattle.std.specs.Prelude.{◌≡◌, ℕ, ◌<◌, List, length, slice_get, Option, Some, None, IfSome}
use Rattle.go_base.specs.Devices.{Tree, file_at}
use Rattle.go_base.specs.declared.line.TheConstants.{MAX_FILE_BYTES}
use Rattle.go_base.specs.declared.place.Place.{Place}
use Rattle.go_base.specs.declared.rule.Rule.{Rule}
use Rattle.go_base.specs.declared.rule.Rule.TheVariants as rules
use Rattle.go_ast.specs.declared.token.Token.{Token}
use Rattle.go_ast.specs.Lexical.{IsTokenList, IsFault}
use Rattle.go_grammar.specs.Files.{IsUnexpected}
use Rattle.go_syntax.specs.Reach.{reach_index}
use Rattle.go_sources.specs.Places.{place_in}
use Rattle.go_sources.specs.Sources.{IsText}
use Rattle.go_finding.specs.declared.error.LoadError.{LoadError}
use Rattle.go_finding.specs.declared.error.LoadError.TheVariants.{Refused, ReadFault, OutOfMemory}
use Rattle.go_finding.specs.Places.{start_in}

-- a file cannot be cut into tokens, and this is the place
pub record HasFault (files : Option Tree) (place : Place) (rule : Rule) : Type 0 where
  pub bytes : List ℕ
  pub text : IsText files place.path bytes
  pub fault : IsFault bytes place.offset rule
  pub place_is : place ≡ place_in place.path bytes place.offset

-- the first token of a file that reaches too far begins here
pub record IsTooDeep (files : Option Tree) (place : Place) : Type 0 where
  pub bytes : List ℕ
  pub tokens : List Token
  pub index : ℕ
  pub text : IsText files place.path bytes
  pub list : IsTokenList bytes tokens
  pub reaches : reach_index tokens ≡ Some index
  pub place_is : place ≡ place_in place.path bytes (start_in bytes (slice_get tokens index))

-- a file has tokens, of which none reaches too far, and the first part that cannot be read begins here
pub record IsBadSyntax (files : Option Tree) (place : Place) : Type 0 where
  pub bytes : List ℕ
  pub tokens : List Token
  pub index : ℕ
  pub text : IsText files place.path bytes
  pub list : IsTokenList bytes tokens
  pub none : reach_index tokens ≡ None
  pub unexpected : IsUnexpected tokens index
  pub place_is : place ≡ place_in place.path bytes (start_in bytes (slice_get tokens index))

-- the file at the path has more bytes than a file may have, where files are told
abbrev pub IsTooLarge : Option Tree → List ℕ → Type 0
IsTooLarge files path =
    IfSome files (λ tree. (bytes : List ℕ) × (file_at tree path ≡ Some bytes) × (MAX_FILE_BYTES < length bytes))

-- what a rule asks of
pub data Subject : Type 0 where
  OfBytes : Subject
  OfReach : Subject
  OfSyntax : Subject
  OfLength : Subject
  OfNothing : Subject
  OfProgram : Subject

abbrev pub subject : Rule → Subject
subject rules.InvalidSourceByte = OfBytes
subject rules.UnexpectedCharacter = OfBytes
subject rules.CommentNotClosed = OfBytes
subject rules.NotAnIntegerLiteral = OfBytes
subject rules.BadRuneLiteral = OfBytes
subject rules.StringLiteralNotClosed = OfBytes
subject rules.BadEscape = OfBytes
subject rules.NestedTooDeeply = OfReach
subject rules.SyntaxError = OfSyntax
subject rules.FileTooLarge = OfLength
subject rules.NotBuiltYet = OfNothing
subject _ = OfProgram

abbrev pub JustifiesAs : Subject → Option Tree → Place → Rule → Type 0
JustifiesAs OfBytes files place rule = HasFault files place rule
JustifiesAs OfReach files place rule = IsTooDeep files place
JustifiesAs OfSyntax files place rule = IsBadSyntax files place
JustifiesAs OfLength files place rule = IsTooLarge files place.path
JustifiesAs OfNothing files place rule = ⊥
JustifiesAs OfProgram files place rule = Unit {0}

-- the files give cause to refuse them here, by this rule
abbrev pub Justifies : Option Tree → Place → Rule → Type 0
Justifies files place rule = JustifiesAs (subject rule) files place rule

abbrev pub Stops : Option Tree → LoadError → Type 0
Stops files (Refused place rule) = Justifies files place rule
Stops files ReadFault = Unit {0}
Stops files OutOfMemory = Unit {0}
