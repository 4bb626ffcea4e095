-- Reading part after part, at each depth.
use Rattle.std.proofs.Common.{◌≡◌, ℕ, ◌≤◌, ◌-◌, List, length, Ok, Err}
use Rattle.go_ast.specs.declared.token.Token.{Token}
use Rattle.go_grammar.specs.Forests.{Forest}
use Rattle.go_grammar.specs.Grammar as sorts
use Rattle.go_grammar.specs.Grammar.{Sort}
use Rattle.go_grammar.specs.Files.{IsTreeOf, IsUnexpected}
use Rattle.go_grammar.specs.StmtReading.{at_file}
use Rattle.go_grammar.specs.FileReading.{parsers}
use Rattle.go_grammar.specs.PartReading.{file_by_parts}
use Rattle.go_grammar.proofs.Outcome.{Yields}
use Rattle.go_grammar.proofs.TypeTakes.{Got}
use Rattle.go_grammar.proofs.ParamTakes.{params_takes, results_takes}
use Rattle.go_grammar.proofs.FileTakes.{at_file_takes}
use Rattle.go_grammar.proofs.SoundReading.{all_sound}
use Rattle.go_grammar.proofs.FirstBad.{ReadAgain, by_parts_sound, by_parts_unexpected}

at_takes : (depth : ℕ) (sort : Sort) (tokens : List Token) → Yields (at_file (parsers depth) sort tokens) (Got sort tokens)
at_takes depth = at_file_takes (parsers depth) (all_sound depth) (params_takes (parsers depth) (all_sound depth)) (results_takes (parsers depth) (all_sound depth))

pub parts_sound : (depth : ℕ) (tokens : List Token) (tree : Forest) → file_by_parts (parsers depth) tokens ≡ Ok tree → IsTreeOf tokens tree
parts_sound depth tokens tree e = by_parts_sound (parsers depth) (at_takes depth) tokens tree e

-- where imports and declarations are read again, it stops at the first bad part
pub parts_unexpected : (depth : ℕ) → ReadAgain (parsers depth) depth sorts.Import → ReadAgain (parsers depth) depth sorts.PackageDecl
    → (tokens : List Token) (left : ℕ) → length tokens ≤ depth → file_by_parts (parsers depth) tokens ≡ Err left → IsUnexpected tokens (length tokens - left)
parts_unexpected depth import_again decl_again tokens left le e = by_parts_unexpected (parsers depth) (at_takes depth) depth import_again decl_again tokens left le e
