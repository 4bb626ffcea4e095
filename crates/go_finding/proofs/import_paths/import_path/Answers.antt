use Rattle.std.proofs.Common.{◌≡◌, ◌∙◌, true≢false, Some, ap, sym}
use Rattle.go_ast.specs.declared.token.Kind.TheVariants as kinds
use Rattle.go_ast.specs.Literals.{string_value}
use Rattle.go_ast.specs.Pieces.{IsLiteral}
use Rattle.go_finding.specs.Imports.{written_path}
use Rattle.go_finding.proofs.Written.{nothing_written, no_text_written, text_written}
use Rattle.go_finding.proofs.import_paths.import_path.Goals as goal

pub returns-then-not-is_literal : goal.returns-then-not-is_literal
returns-then-not-is_literal c =
    sym (ap written_path (sym c.text-text.ensures) ∙ nothing_written c.text-text.result.now (λ is. true≢false (sym (c.is_literal.ensures.complete is) ∙ c.if-not-is_literal.true)))

pub returns-in-Ok : goal.returns-in-Ok
returns-in-Ok c =
    let is : IsLiteral kinds.Text c.text-text.result.now = c.is_literal.ensures.sound c.if-not-is_literal.false in
    let value : c.as_slice.result.now ≡ string_value c.text-text.result.now = cc (c.in_ok-value.ensures, c.as_slice.ensures) in
    sym (ap written_path (sym c.text-text.ensures) ∙ text_written c.text-text.result.now c.as_slice.result.now is value c.in-Ok.ensures.cases.1
    ∙ ap Some (sym (c.in_ok-from_str-in-Ok.ensures.ok ∙ c.in-Ok.ensures.cases.0)))

pub returns : goal.returns
returns c =
    let is : IsLiteral kinds.Text c.text-text.result.now = c.is_literal.ensures.sound c.if-not-is_literal.false in
    let value : c.as_slice.result.now ≡ string_value c.text-text.result.now = cc (c.in_ok-value.ensures, c.as_slice.ensures) in
    sym (ap written_path (sym c.text-text.ensures) ∙ no_text_written c.text-text.result.now c.as_slice.result.now is value c.in-Err.ensures.cases.0)
