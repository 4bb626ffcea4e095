-- Each well-formed tree is read again, at each depth that it needs no more than.
use Rattle.std.proofs.Common.{◌≡◌, ℕ, zero, suc, ◌≤◌, List, [], length, ◌-◌, Some, Err, sym, ap, ◌∙◌, arith}
use Rattle.go_ast.specs.declared.token.Token.{Token}
use Rattle.go_grammar.specs.Forests.{Forest}
use Rattle.go_grammar.specs.Grammar as sorts
use Rattle.go_grammar.specs.Grammar.{grammar}
use Rattle.go_grammar.specs.Files.{IsTreeOf, IsUnexpected}
use Rattle.go_grammar.specs.StmtReading.{file_in}
use Rattle.go_grammar.specs.FileReading.{parsers}
use Rattle.go_grammar.specs.PartReading.{file_by_parts}
use Rattle.go_grammar.proofs.FirstBad.{ReadAgain}
use Rattle.go_grammar.proofs.PartLaws.{parts_unexpected}
use Rattle.go_grammar.proofs.Rereads.{Rereads}
use Rattle.go_grammar.proofs.TypeAgain.{type_again}
use Rattle.go_grammar.proofs.OperatorAgain.{binary_again, value_again}
use Rattle.go_grammar.proofs.StmtAgain.{lines_again}
use Rattle.go_grammar.proofs.DeclAgain.{import_again}
use Rattle.go_grammar.proofs.FileAgain.{package_again, file_again}

some_is : (x y : Forest × List Token) → Some x ≡ Some y → x ≡ y
some_is x y e = cc

pub all_again : (depth : ℕ) → Rereads (parsers depth) depth
unfolding parsers
all_again zero = record {
  expr = λ place min tree rest one six x e loose lt. absurd (omega arith);
  type_expr = λ tree rest x f lt. absurd (omega arith);
  value = λ tree rest x e loose lt. absurd (omega arith);
  statements = λ tree rest x e lt. absurd (omega arith);
}
all_again (suc depth) =
    let p = parsers depth in
    let r = all_again depth in
    record {
      expr = λ place min tree rest one six x e loose lt. binary_again p depth r place min tree rest one six x e loose (omega (arith, lt));
      type_expr = λ tree rest x f lt. type_again p depth r tree rest x f (omega (arith, lt));
      value = λ tree rest x e loose lt. value_again p depth r tree rest x e loose (omega (arith, lt));
      statements = λ tree rest x e lt. lines_again p depth r tree rest x e (omega (arith, lt));
    }

package_read : (depth : ℕ) → ReadAgain (parsers depth) depth sorts.PackageDecl
package_read depth = package_again (parsers depth) depth (all_again depth)

-- a file is read again
pub tree_again : (depth : ℕ) (tokens : List Token) (tree : Forest) → IsTreeOf tokens tree → length tokens ≤ depth → file_in (parsers depth) tokens ≡ Some (tree, [])
tree_again depth tokens tree h le = file_again (parsers depth) depth (import_again (parsers depth) depth) (package_read depth) tokens tree h le

-- tokens are those of one tree alone
pub same_tree : (tokens : List Token) (tree other : Forest) → IsTreeOf tokens tree → IsTreeOf tokens other → tree ≡ other
same_tree tokens tree other h k =
    ap (λ (x : Forest × List Token). x.0) (some_is (tree, []) (other, []) (sym (tree_again (length tokens) tokens tree h (omega arith)) ∙ tree_again (length tokens) tokens other k (omega arith)))

-- where reading part after part stops, the part there is the first bad one
pub stops_unexpected : (depth : ℕ) (tokens : List Token) (left : ℕ) → length tokens ≤ depth → file_by_parts (parsers depth) tokens ≡ Err left → IsUnexpected tokens (length tokens - left)
stops_unexpected depth tokens left le e = parts_unexpected depth (import_again (parsers depth) depth) (package_read depth) tokens left le e
