-- The path that a literal writes.
use Rattle.std.proofs.Common.{◌≡◌, ℕ, Bool, true, false, ◌&&◌, List, Option, Some, None, is_none, if◌then◌else◌, refl, sym, ap, ◌∙◌}
use Rattle.std.specs.Str.{IsUtf8}
use Rattle.go_ast.specs.declared.token.Kind.{Kind}
use Rattle.go_ast.specs.declared.token.Kind.TheVariants as kinds
use Rattle.go_ast.specs.Literals.{string_value}
use Rattle.go_ast.specs.Pieces.{Fault, is_piece, kind_of, fault_of, IsLiteral}
use Rattle.go_finding.specs.GoMod.{utf8_text}
use Rattle.go_finding.specs.Imports.{is_text_kind, is_string_literal, written_path}
use Rattle.go_finding.proofs.Texts.{text_is, text_is_not}

all_three : (a b c : Bool) → (a && (b && c)) ≡ true → (a ≡ true) × (b ≡ true) × (c ≡ true)
all_three true true true h = (refl, refl, refl)
all_three true true false h = absurd (cc)
all_three true false c h = absurd (cc)
all_three false b c h = absurd (cc)

kind_is : (kind : Option Kind) → is_text_kind kind ≡ true → kind ≡ Some kinds.Text
kind_is (Some kinds.Text) h = refl
kind_is _ h = absurd (cc)

none_is : (fault : Option Fault) → is_none fault ≡ true → fault ≡ None
none_is None h = refl
none_is (Some fault) h = absurd (cc)

literal_from_test : (text : List ℕ) → is_string_literal text ≡ true → IsLiteral kinds.Text text
literal_from_test text h =
    let parts = all_three (is_piece text) (is_text_kind (kind_of text)) (is_none (fault_of text)) h in
    record { piece = parts.0; kind_is = kind_is (kind_of text) parts.1; sound = none_is (fault_of text) parts.2 }

test_from_literal : (text : List ℕ) → IsLiteral kinds.Text text → is_string_literal text ≡ true
test_from_literal text is =
    ap (λ a. a && (is_text_kind (kind_of text) && is_none (fault_of text))) is.piece
    ∙ ap (λ kind. is_text_kind kind && is_none (fault_of text)) is.kind_is ∙ ap is_none is.sound

false_unless : (b : Bool) → (b ≡ true → ⊥) → b ≡ false
false_unless true h = absurd (h refl)
false_unless false h = refl

-- no string literal
pub nothing_written : (text : List ℕ) → (IsLiteral kinds.Text text → ⊥) → written_path text ≡ None
nothing_written text none =
    ap (λ b. if b then utf8_text (string_value text) else None) (false_unless (is_string_literal text) (λ h. none (literal_from_test text h)))

-- the value is no text
pub no_text_written : (text value : List ℕ) → IsLiteral kinds.Text text → value ≡ string_value text → (IsUtf8 value → ⊥) → written_path text ≡ None
no_text_written text value is same none =
    ap (λ b. if b then utf8_text (string_value text) else None) (test_from_literal text is) ∙ ap utf8_text (sym same)
    ∙ ap (λ b. if b then Some value else None) (text_is_not value none)

pub text_written : (text value : List ℕ) → IsLiteral kinds.Text text → value ≡ string_value text → IsUtf8 value → written_path text ≡ Some value
text_written text value is same utf8 =
    ap (λ b. if b then utf8_text (string_value text) else None) (test_from_literal text is) ∙ ap utf8_text (sym same)
    ∙ ap (λ b. if b then Some value else None) (text_is value utf8)
