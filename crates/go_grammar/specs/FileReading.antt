-- Reading a file: nested as deep as a number says.
use Rattle.std.specs.Prelude.{ℕ, zero, suc, None}
use Rattle.go_grammar.specs.TypeReading.{Parsers, type_in}
use Rattle.go_grammar.specs.ExprReading.{binary_in, value_in}
use Rattle.go_grammar.specs.StmtReading.{lines_in}

unfoldable pub parsers : ℕ → Parsers
parsers zero =
    record {
      expr = λ place min tokens. None;
      type_expr = λ tokens. None;
      value = λ tokens. None;
      statements = λ tokens. None;
    }
parsers (suc depth) = record {
  expr = binary_in (parsers depth);
  type_expr = type_in (parsers depth);
  value = value_in (parsers depth);
  statements = lines_in (parsers depth);
}
