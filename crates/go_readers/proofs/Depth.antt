-- The readers that lie within, by how deep they may nest.
use Rattle.std.proofs.Common.{◌≡◌, ℕ, zero, suc, List, None, ◌-◌, ◌<◌, refl, arith}
use Rattle.go_ast.specs.declared.token.Token.{Token}
use Rattle.go_grammar.specs.TypeReading.{Place, type_in}
use Rattle.go_grammar.specs.ExprReading.{binary_in, value_in}
use Rattle.go_grammar.specs.StmtReading.{lines_in}
use Rattle.go_grammar.specs.FileReading.{parsers}

one_more : (depth : ℕ) → suc depth - 1 ≡ depth
one_more depth = omega arith

pub expr_at : (depth : ℕ) (place : Place) (min : ℕ) (tokens : List Token) → 0 < depth → (parsers depth).expr place min tokens ≡ binary_in (parsers (depth - 1)) place min tokens
unfolding parsers
expr_at zero place min tokens lt = absurd (omega arith)
expr_at (suc depth) place min tokens lt = rw (one_more depth) refl

pub expr_at_none : (depth : ℕ) (place : Place) (min : ℕ) (tokens : List Token) → depth ≡ 0 → (parsers depth).expr place min tokens ≡ None
unfolding parsers
expr_at_none depth place min tokens e = rw e refl

pub type_at : (depth : ℕ) (tokens : List Token) → 0 < depth → (parsers depth).type_expr tokens ≡ type_in (parsers (depth - 1)) tokens
unfolding parsers
type_at zero tokens lt = absurd (omega arith)
type_at (suc depth) tokens lt = rw (one_more depth) refl

pub type_at_none : (depth : ℕ) (tokens : List Token) → depth ≡ 0 → (parsers depth).type_expr tokens ≡ None
unfolding parsers
type_at_none depth tokens e = rw e refl

pub value_at : (depth : ℕ) (tokens : List Token) → 0 < depth → (parsers depth).value tokens ≡ value_in (parsers (depth - 1)) tokens
unfolding parsers
value_at zero tokens lt = absurd (omega arith)
value_at (suc depth) tokens lt = rw (one_more depth) refl

pub value_at_none : (depth : ℕ) (tokens : List Token) → depth ≡ 0 → (parsers depth).value tokens ≡ None
unfolding parsers
value_at_none depth tokens e = rw e refl

pub statements_at : (depth : ℕ) (tokens : List Token) → 0 < depth → (parsers depth).statements tokens ≡ lines_in (parsers (depth - 1)) tokens
unfolding parsers
statements_at zero tokens lt = absurd (omega arith)
statements_at (suc depth) tokens lt = rw (one_more depth) refl

pub statements_at_none : (depth : ℕ) (tokens : List Token) → depth ≡ 0 → (parsers depth).statements tokens ≡ None
unfolding parsers
statements_at_none depth tokens e = rw e refl

pub ruleset by_depth = (expr_at, expr_at_none, type_at, type_at_none, value_at, value_at_none, statements_at, statements_at_none)
