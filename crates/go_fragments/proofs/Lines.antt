-- Ends of lines, and marks that may be left out, as plans say them.
use Rattle.std.proofs.Common.{◌≡◌, List, Option, Bool, true, false, refl, if◌then◌else◌}
use Rattle.std.specs.Prelude.{not}
use Rattle.go_ast.specs.declared.token.Kind.TheVariants as kinds
use Rattle.go_ast.specs.declared.token.Token.{Token}
use Rattle.go_grammar.specs.Forests.{Forest}
use Rattle.go_grammar.specs.Grammar.{is_semicolon, is_arrow, closes_braces, closes_parens}
use Rattle.go_grammar.specs.Reading.{sign_in, before_in, either_in}
use Rattle.go_grammar.specs.Tests.{begins, begins_semicolon, word_in}
use Rattle.go_fragments.specs.Words.{line_end_in, maybe_in}
use Rattle.go_fragments.proofs.Words.{before_braces, before_parens, no_arrow}

choose : (found : Bool) (read left right : Option (Forest × List Token)) → (found ≡ false → left ≡ right) → (if found then read else left) ≡ (if found then read else right)
choose true read left right h = refl
choose false read left right h = h refl

pub braces_end : (tokens : List Token) → line_end_in kinds.CloseBrace tokens ≡ either_in begins_semicolon (sign_in is_semicolon) (before_in closes_braces) tokens
braces_end tokens = choose (begins_semicolon tokens) (sign_in is_semicolon tokens) _ _ (λ h. before_braces tokens)

pub parens_end : (tokens : List Token) → line_end_in kinds.CloseParen tokens ≡ either_in begins_semicolon (sign_in is_semicolon) (before_in closes_parens) tokens
parens_end tokens = choose (begins_semicolon tokens) (sign_in is_semicolon tokens) _ _ (λ h. before_parens tokens)

pub maybe_arrow : (tokens : List Token) → either_in (begins kinds.Arrow) (word_in kinds.Arrow) (before_in (λ kind. not (is_arrow kind))) tokens ≡ maybe_in kinds.Arrow tokens
maybe_arrow tokens = choose (begins kinds.Arrow tokens) (word_in kinds.Arrow tokens) _ _ (no_arrow tokens)

pub ruleset marks = (braces_end, parens_end, maybe_arrow)
