-- Untyped operands. Go specification, "Constants", "Constant expressions" and "Numeric types".
use Rattle.std.specs.Prelude.{Bool, true, false, Option, Some, None, is_some}
use Rattle.go_base.specs.declared.ids.TypeId.{TypeId}
use Rattle.go_type.specs.declared.term.Basic.{Basic}
use Rattle.go_type.specs.declared.term.Basic.TheVariants as basic
use Rattle.go_type.specs.declared.term.TypeTerm.{TypeTerm}
use Rattle.go_type.specs.declared.term.TypeTerm.TheVariants.{Basic as Plain}
use Rattle.go_type.specs.Kinds.{kind_of}
use Rattle.go_type.specs.Table.{Table, term_at, underlying_of}
use Rattle.go_rules.specs.declared.untyped.Untyped.{Untyped}
use Rattle.go_rules.specs.declared.untyped.Untyped.TheVariants as kind
use Rattle.go_rules.specs.Operands.{is_nillable}

abbrev pub kind_of_basic : Basic → Option Untyped
kind_of_basic basic.UntypedNil = Some kind.Nil
kind_of_basic basic.UntypedBool = Some kind.Bool
kind_of_basic basic.UntypedInt = Some kind.Int
kind_of_basic basic.UntypedRune = Some kind.Rune
kind_of_basic basic.UntypedText = Some kind.Text
kind_of_basic _ = None

abbrev pub kind_of_term : Option TypeTerm → Option Untyped
kind_of_term (Some (Plain plain)) = kind_of_basic plain
kind_of_term _ = None

-- the kind of an operand, by its type
abbrev pub kind_at : Table → TypeId → Option Untyped
kind_at types of = kind_of_term (term_at types of)

abbrev pub basic_of : Untyped → Basic
basic_of kind.Nil = basic.UntypedNil
basic_of kind.Bool = basic.UntypedBool
basic_of kind.Int = basic.UntypedInt
basic_of kind.Rune = basic.UntypedRune
basic_of kind.Text = basic.UntypedText

-- "The default type of an untyped constant is bool, rune, int, or string respectively"
abbrev pub default_of : Untyped → Option Basic
default_of kind.Nil = None
default_of kind.Bool = Some basic.Bool
default_of kind.Int = Some basic.Int
default_of kind.Rune = Some basic.Int32
default_of kind.Text = Some basic.Text

-- of an integer and a rune the result is a rune; other kinds join with themselves alone, and nil with nothing
abbrev pub joined : Untyped → Untyped → Option Untyped
joined kind.Bool kind.Bool = Some kind.Bool
joined kind.Int kind.Int = Some kind.Int
joined kind.Int kind.Rune = Some kind.Rune
joined kind.Rune kind.Int = Some kind.Rune
joined kind.Rune kind.Rune = Some kind.Rune
joined kind.Text kind.Text = Some kind.Text
joined _ _ = None

abbrev pub bool_term : Option TypeTerm → Bool
bool_term (Some (Plain basic.Bool)) = true
bool_term _ = false

abbrev pub text_term : Option TypeTerm → Bool
text_term (Some (Plain basic.Text)) = true
text_term _ = false

-- by the underlying type
abbrev pub is_bool_type : Table → TypeId → Bool
is_bool_type types of = bool_term (term_at types (underlying_of types of))

abbrev pub is_text_type : Table → TypeId → Bool
is_text_type types of = text_term (term_at types (underlying_of types of))

-- nil fits the types that have it, and a constant the types of constants like it
abbrev pub fits_type : Table → Untyped → TypeId → Bool
fits_type types kind.Nil to = is_nillable types to
fits_type types kind.Bool to = is_bool_type types to
fits_type types kind.Int to = is_some (kind_of types to)
fits_type types kind.Rune to = is_some (kind_of types to)
fits_type types kind.Text to = is_text_type types to
