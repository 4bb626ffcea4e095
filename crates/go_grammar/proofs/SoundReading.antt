-- What is read of a file is its tree.
use Rattle.std.proofs.Common.{◌≡◌, ℕ, zero, suc, List, [], Some, ◌∙◌}
use Rattle.std.proofs.lemmas.List.{append-nil}
use Rattle.go_ast.specs.declared.token.Token.{Token}
use Rattle.go_grammar.specs.Forests.{Forest, yield}
use Rattle.go_grammar.specs.Files.{IsTreeOf}
use Rattle.go_grammar.specs.StmtReading.{file_in}
use Rattle.go_grammar.specs.FileReading.{parsers}
use Rattle.go_grammar.proofs.Outcome.{yields_none}
use Rattle.go_grammar.proofs.TypeTakes.{Sound, type_takes}
use Rattle.go_grammar.proofs.OperatorTakes.{binary_takes, value_takes}
use Rattle.go_grammar.proofs.FileTakes.{lines_takes, file_takes}
use Rattle.go_grammar.proofs.ParamTakes.{params_takes, results_takes}

-- at each depth
pub all_sound : (depth : ℕ) → Sound (parsers depth)
unfolding parsers
all_sound zero = record { expr = λ place min tokens h k. yields_none; type_expr = λ tokens. yields_none; value = λ tokens. yields_none; statements = λ tokens. yields_none }
all_sound (suc depth) =
    let p = parsers depth in
    let s = all_sound depth in
    record {
      expr = λ place min tokens h k. binary_takes p s (params_takes p s) (results_takes p s) place min tokens h k;
      type_expr = λ tokens. type_takes p s (params_takes p s) (results_takes p s) tokens;
      value = λ tokens. value_takes p s (params_takes p s) (results_takes p s) tokens;
      statements = λ tokens. lines_takes p s (params_takes p s) (results_takes p s) tokens;
    }

pub file_sound : (depth : ℕ) (tokens : List Token) (tree : Forest) → file_in (parsers depth) tokens ≡ Some (tree, []) → IsTreeOf tokens tree
file_sound depth tokens tree e =
    let g = (file_takes (parsers depth) (all_sound depth) (params_takes (parsers depth) (all_sound depth)) (results_takes (parsers depth) (all_sound depth)) tokens).given (tree, []) e in
    record { well_formed = g.fine; written = g.text ∙ append-nil (yield tree) }
