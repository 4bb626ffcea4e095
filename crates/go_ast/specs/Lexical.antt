-- How bytes are cut into pieces, which tokens they are, and where they cannot be cut. Go specification, "Lexical
-- elements", "Semicolons".
use Rattle.std.specs.Prelude.{◌≡◌, ℕ, ◌+◌, ◌-◌, ◌≤◌, List, [], ◌∷◌, ◌++◌, length, drop, Bool, true, false, Option}
use Rattle.std.specs.Prelude.{Some, None, ◌==◌, if◌then◌else◌, nat_eq, ◌⊎◌, ◌≢◌, take}
use Rattle.std.specs.List.{list_any, starts_with}
use Rattle.go_ast.specs.declared.token.Kind.{Kind}
use Rattle.go_ast.specs.declared.token.Kind.TheVariants as kinds
use Rattle.go_ast.specs.declared.token.Token.{Token}
use Rattle.go_base.specs.declared.rule.Rule.{Rule}
use Rattle.go_ast.specs.Pieces.{is_piece, kind_of, Fault, fault_of, stray_rule, IsLiteral}

-- ---- cuts

-- a piece begins the bytes, and no longer one does
pub record IsLongest (bytes piece : List ℕ) : Type 0 where
  pub begins : bytes ≡ piece ++ drop (length piece) bytes
  pub one : is_piece piece ≡ true
  pub longest : (other rest : List ℕ) → is_piece other ≡ true → bytes ≡ other ++ rest → length other ≤ length piece

-- bytes are cut into pieces without a fault, each the longest at its place, up to a rest
abbrev pub AreCut : List ℕ → List (List ℕ) → List ℕ → Type 0
AreCut bytes [] rest = bytes ≡ rest
AreCut bytes (piece ∷ pieces) rest =
    IsLongest bytes piece × (fault_of piece ≡ None) × AreCut (drop (length piece) bytes) pieces rest

-- the bytes of a byte order mark at the start of a file, which is left out
abbrev pub mark_width : List ℕ → ℕ
mark_width bytes = if starts_with nat_eq bytes (239 ∷ 187 ∷ 191 ∷ []) then 3 else 0

-- the cut of a file
abbrev pub IsCutInto : List ℕ → List (List ℕ) → Type 0
IsCutInto bytes pieces = AreCut (drop (mark_width bytes) bytes) pieces []

-- ---- tokens

-- whether a semicolon is put in where a line ends behind a token of this kind
abbrev pub ends_line : Kind → Bool
ends_line kinds.Name = true
ends_line kinds.Int = true
ends_line kinds.Rune = true
ends_line kinds.Text = true
ends_line kinds.BreakWord = true
ends_line kinds.ContinueWord = true
ends_line kinds.FallthroughWord = true
ends_line kinds.ReturnWord = true
ends_line kinds.Increment = true
ends_line kinds.Decrement = true
ends_line kinds.CloseParen = true
ends_line kinds.CloseBracket = true
ends_line kinds.CloseBrace = true
ends_line _ = false

-- the semicolon that a line which ends behind byte `last` puts in, where one is wanted
abbrev pub inserted : Bool → ℕ → List Token
inserted wanted last = if wanted then record { kind = kinds.Inserted; start = last; end = last } ∷ [] else []

-- whether white space or a comment ends a line
abbrev pub breaks_line : List ℕ → Bool
breaks_line piece = list_any (λ byte. byte == 10) piece

-- How far tokens have come: the byte behind the last piece and the last token, and whether a semicolon is put in where
-- the line ends
pub record Place : Type 0 where
  pub at : ℕ
  pub last : ℕ
  pub wanted : Bool

-- the tokens that a piece puts behind others, and how far they have come then
abbrev pub tokens_of : Place → List ℕ → Option Kind → List Token
tokens_of place piece (Some kind) = record { kind = kind; start = place.at; end = place.at + length piece } ∷ []
tokens_of place piece None = if breaks_line piece then inserted place.wanted place.last else []

abbrev pub place_after : Place → List ℕ → Option Kind → Place
place_after place piece (Some kind) =
    record { at = place.at + length piece; last = place.at + length piece; wanted = ends_line kind }
place_after place piece None =
    record {
      at = place.at + length piece;
      last = place.last;
      wanted = if breaks_line piece then false
          else place.wanted;
    }

-- the tokens of the pieces from a place on; the end of the file ends a line
abbrev pub tokens_from : Place → List (List ℕ) → List Token
tokens_from place [] = inserted place.wanted place.last
tokens_from place (piece ∷ pieces) =
    tokens_of place piece (kind_of piece) ++ tokens_from (place_after place piece (kind_of piece)) pieces

abbrev pub start_of : List ℕ → Place
start_of bytes = record { at = mark_width bytes; last = mark_width bytes; wanted = false }

-- the tokens of a file are these
pub record IsTokenList (bytes : List ℕ) (tokens : List Token) : Type 0 where
  pub pieces : List (List ℕ)
  pub cut : IsCutInto bytes pieces
  pub tokens_are : tokens ≡ tokens_from (start_of bytes) pieces

-- the bytes of a token
abbrev pub token_text : List ℕ → Token → List ℕ
token_text bytes token = take (token.end - token.start) (drop token.start bytes)

-- a token lies in the bytes, and one that was not put in is spelled there, without a fault
pub record IsTokenIn (bytes : List ℕ) (token : Token) : Type 0 where
  pub ordered : token.start ≤ token.end
  pub within : token.end ≤ length bytes
  pub spelled : token.kind ≢ kinds.Inserted → IsLiteral token.kind (token_text bytes token)

-- ---- faults

-- a rest of the bytes begins with a piece that has a fault, or with none
abbrev pub IsFaultOf : List ℕ → Fault → Type 0
IsFaultOf rest fault =
    ((piece : List ℕ) × IsLongest rest piece × (fault_of piece ≡ Some fault))
    ⊎ (((piece more : List ℕ) → is_piece piece ≡ true → rest ≡ piece ++ more → ⊥)
    × (fault ≡ record { at = 0; rule = stray_rule rest }) × (1 ≤ length rest))

-- the first place where bytes cannot be cut is this offset, and this rule is broken there
pub record IsFault (bytes : List ℕ) (offset : ℕ) (rule : Rule) : Type 0 where
  pub pieces : List (List ℕ)
  pub rest : List ℕ
  pub fault : Fault
  pub cut : AreCut (drop (mark_width bytes) bytes) pieces rest
  pub breaks : IsFaultOf rest fault
  pub offset_is : offset ≡ length bytes - length rest + fault.at
  pub rule_is : rule ≡ fault.rule
