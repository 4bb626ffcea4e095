-- The pieces of source text: white space, comments and tokens. Go specification, "Lexical elements".
use Rattle.std.specs.Prelude.{◌≡◌, ℕ, ◌-◌, List, [], ◌∷◌, length, drop, Bool, true, false, Option, Some, None, is_some}
use Rattle.std.specs.Prelude.{is_none, ◌==◌, ◌&&◌, ◌||◌, not, nat_le, if◌then◌else◌}
use Rattle.std.specs.List.{list_all}
use Rattle.go_ast.specs.declared.token.Kind.{Kind}
use Rattle.go_ast.specs.declared.token.Kind.TheVariants as kinds
use Rattle.go_base.specs.declared.rule.Rule.{Rule}
use Rattle.go_base.specs.declared.rule.Rule.TheVariants as rules
use Rattle.go_ast.specs.Characters.{is_letter, is_name_character, is_numeral_character, passing, are_characters}
use Rattle.go_ast.specs.Literals.{first, second, is_integer, item, character, item_rests, first_bad}
use Rattle.go_ast.specs.Marks.{mark_kind, word_kind}

-- ---- which class of pieces a text may be of, by how it begins

pub data Class : Type 0 where
  Space : Class
  LineComment : Class
  GeneralComment : Class
  Mark : Class
  Word : Class
  Numeral : Class
  RuneLiteral : Class
  StringLiteral : Class
  RawLiteral : Class

-- space, tab, carriage return and newline
abbrev pub is_space : ℕ → Bool
is_space byte = byte == 32 || byte == 9 || byte == 13 || byte == 10

abbrev pub is_decimal : ℕ → Bool
is_decimal byte = nat_le 48 byte && nat_le byte 57

-- a byte that may begin a name: A to Z, a to z, `_`, or one beyond ASCII
abbrev pub begins_word : ℕ → Bool
begins_word byte =
    (nat_le 65 byte && nat_le byte 90) || (nat_le 97 byte && nat_le byte 122) || byte == 95 || nat_le 128 byte

abbrev pub class_of_pair : ℕ → ℕ → Class
class_of_pair a b =
    if is_space a then Space
    else if a == 47 && b == 47 then LineComment
    else if a == 47 && b == 42 then GeneralComment
    else if is_decimal a || (a == 46 && is_decimal b) then Numeral
    else if a == 39 then RuneLiteral
    else if a == 34 then StringLiteral
    else if a == 96 then RawLiteral
    else if begins_word a then Word
    else Mark

abbrev pub class_of : List ℕ → Class
class_of text = class_of_pair (first text) (second text)

-- ---- where comments and literals end

-- Whether a text is no longer than its end allows. It may be open, which is without its end.
pub data Extent : Type 0 where
  Open : Extent
  Closed : Extent
  TooLong : Extent

abbrev pub closed_before : List ℕ → Extent
closed_before [] = Closed
closed_before (byte ∷ bytes) = TooLong

-- a comment behind its `/*` ends with the first `*/`; `star` says whether a `*` stands before
abbrev pub comment_extent : Bool → List ℕ → Extent
comment_extent star [] = Open
comment_extent star (byte ∷ bytes) =
    if star && byte == 47 then closed_before bytes else comment_extent (byte == 42) bytes

-- a rune or string behind its quote ends with the first quote that no backslash escapes, on its line
abbrev pub quoted_extent : ℕ → Bool → List ℕ → Extent
quoted_extent quote escaped [] = Open
quoted_extent quote escaped (byte ∷ bytes) =
    if byte == 10 then TooLong
    else if escaped then quoted_extent quote false bytes
    else if byte == quote then closed_before bytes
    else quoted_extent quote (byte == 92) bytes

-- a raw string behind its quote ends with the next one
abbrev pub raw_extent : List ℕ → Extent
raw_extent [] = Open
raw_extent (byte ∷ bytes) = if byte == 96 then closed_before bytes else raw_extent bytes

abbrev pub extent : Class → List ℕ → Extent
extent GeneralComment text = comment_extent false (drop 2 text)
extent RuneLiteral text = quoted_extent 39 false (drop 1 text)
extent StringLiteral text = quoted_extent 34 false (drop 1 text)
extent RawLiteral text = raw_extent (drop 1 text)
extent _ text = Closed

abbrev pub is_within : Extent → Bool
is_within TooLong = false
is_within _ = true

abbrev pub is_closed : Extent → Bool
is_closed Closed = true
is_closed _ = false

-- ---- pieces

-- whether a text is a piece of this class: a literal or comment may be open or hold faults
abbrev pub is_of : Class → List ℕ → Bool
is_of Space text = length text == 1
is_of LineComment text = list_all (λ byte. not (byte == 10)) text
is_of Mark text = is_some (mark_kind text)
is_of Word text = is_some (passing is_letter text) && are_characters is_name_character text
is_of Numeral text = are_characters is_numeral_character text
is_of class text = is_within (extent class text)

abbrev pub is_piece : List ℕ → Bool
is_piece [] = false
is_piece (byte ∷ bytes) = is_of (class_of (byte ∷ bytes)) (byte ∷ bytes)

-- what token a piece is: white space and comments are none
abbrev pub kind_of_class : Class → List ℕ → Option Kind
kind_of_class Mark text = mark_kind text
kind_of_class Word text = Some (word_kind text)
kind_of_class Numeral text = Some kinds.Int
kind_of_class RuneLiteral text = Some kinds.Rune
kind_of_class StringLiteral text = Some kinds.Text
kind_of_class RawLiteral text = Some kinds.Text
kind_of_class _ text = None

abbrev pub kind_of : List ℕ → Option Kind
kind_of text = kind_of_class (class_of text) text

-- ---- faults of pieces

-- a place in a text, in bytes from its start, and the rule that is broken there
pub record Fault : Type 0 where
  pub at : ℕ
  pub rule : Rule

abbrev pub at_start : Rule → Option Fault
at_start rule = Some (record { at = 0; rule = rule })

-- a backslash that begins no escape, or bytes that are no character of source text
abbrev pub bad_rule : List ℕ → Rule
bad_rule rest = if first rest == 92 then rules.BadEscape else rules.InvalidSourceByte

abbrev pub fault_at : List ℕ → Option (List ℕ) → Option Fault
fault_at text None = None
fault_at text (Some rest) = Some (record { at = length text - length rest; rule = bad_rule rest })

-- the first place where neither a character nor, in quotes, an escape begins
abbrev pub bad_character : List ℕ → Option Fault
bad_character text = fault_at text (first_bad character text)

abbrev pub bad_item : ℕ → List ℕ → Option Fault
bad_item quote text = fault_at text (first_bad (item quote) text)

abbrev pub or_else : Option Fault → Option Fault → Option Fault
or_else None other = other
or_else (Some fault) other = Some fault

-- a rune literal holds one item between its quotes
abbrev pub rune_fault : List ℕ → Option Fault
rune_fault text =
    or_else (bad_item 39 text) (if length (item_rests (item 39) text) == 3 then None else at_start rules.BadRuneLiteral)

-- the fault of a piece of this class, which has its end or not
abbrev pub fault_of_class : Class → Bool → List ℕ → Option Fault
fault_of_class LineComment closed text = bad_character text
fault_of_class GeneralComment closed text = if closed then bad_character text else at_start rules.CommentNotClosed
fault_of_class Numeral closed text = if is_integer text then None else at_start rules.NotAnIntegerLiteral
fault_of_class RuneLiteral closed text = if closed then rune_fault text else at_start rules.BadRuneLiteral
fault_of_class StringLiteral closed text = if closed then bad_item 34 text else at_start rules.StringLiteralNotClosed
fault_of_class RawLiteral closed text = if closed then bad_character text else at_start rules.StringLiteralNotClosed
fault_of_class _ closed text = None

abbrev pub fault_of : List ℕ → Option Fault
fault_of text = fault_of_class (class_of text) (is_closed (extent (class_of text) text)) text

-- the rule that is broken where no piece begins
abbrev pub stray_rule : List ℕ → Rule
stray_rule rest = if is_none (character rest) then rules.InvalidSourceByte else rules.UnexpectedCharacter

-- a literal of this kind, with no fault
pub record IsLiteral (kind : Kind) (text : List ℕ) : Type 0 where
  pub piece : is_piece text ≡ true
  pub kind_is : kind_of text ≡ Some kind
  pub sound : fault_of text ≡ None
