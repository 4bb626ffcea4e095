-- Expressions with operators are read again, and so are values of literals.
use Rattle.std.proofs.Common.{◌≡◌, ℕ, zero, suc, ◌≤◌, ◌<◌, ◌+◌, ltb, leb, true, false, List, ◌∷◌, ◌++◌, length, Option, Some, None, refl, sym, ap, ◌∙◌, subst, arith}
use Rattle.std.proofs.lemmas.Bool.{lt-ltb, le-leb, eqb-true}
use Rattle.std.proofs.lemmas.List.{append-nil, length-append}
use Rattle.go_ast.specs.declared.token.Kind.{Kind}
use Rattle.go_ast.specs.declared.token.Kind.TheVariants as kinds
use Rattle.go_ast.specs.declared.token.Token.{Token}
use Rattle.go_grammar.specs.Forests.{Form, Forest, empty, leaf, node, append, yield}
use Rattle.go_grammar.specs.Forests as forms
use Rattle.go_grammar.specs.Shapes as shapes
use Rattle.go_grammar.specs.Shapes.{Shape, Fits, part, below, first, second, both, sign}
use Rattle.go_grammar.specs.Grammar as sorts
use Rattle.go_grammar.specs.Grammar.{Sort, Context, Level, grammar, precedence, number, tighter}
use Rattle.go_grammar.specs.Tests.{begins}
use Rattle.go_grammar.specs.TypeReading.{Place, Plain, Header, Item, Parsers}
use Rattle.go_grammar.specs.ExprReading.{Left, On, Done, context_of, of_operand, is_type_only, unary_in, operator_at, binary_by, binary_turn, binary_in, value_in}
use Rattle.go_grammar.proofs.TypeTakes.{level_sort, tight, type_operand}
use Rattle.go_grammar.proofs.OperatorTakes.{above_level, OperatorSays, operator_says}
use Rattle.go_grammar.proofs.Rereads.{Rereads, expr_shape, ends_by, ends_operand}
use Rattle.go_grammar.proofs.Reaching.{starts, part_not, node_spelled, node_long, Reaches, one_more, reaches_end}
use Rattle.go_grammar.proofs.ExprAgain.{braces_again}
use Rattle.go_grammar.proofs.UnaryAgain.{unary_only, type_operand_only, right_again, unary_again, type_only_again}

-- ---- operators

operator_reads : (min : ℕ) (operator : Token) (rest : List Token) → 1 ≤ precedence operator.kind → min ≤ precedence operator.kind → operator_at min (operator ∷ rest) ≡ Some (operator, rest)
operator_reads min operator rest one le =
    let b : ltb 0 (precedence operator.kind) ≡ true = lt-ltb 0 (precedence operator.kind) (omega arith) in
    let c : leb min (precedence operator.kind) ≡ true = le-leb min (precedence operator.kind) le in
    rw (b, c) refl

operator_ends : (min : ℕ) (tokens : List Token) → 1 ≤ min → tight tokens < min → operator_at min tokens ≡ None
operator_ends min tokens one lt = go (operator_at min tokens) (operator_says min tokens one)
  where
    go : (o : Option (Token × List Token)) → OperatorSays min tokens o → o ≡ None
    go None h = refl
    go (Some operator) h = absurd (omega (arith, ap tight h.0, h.2))

-- no operand goes on at an operator
operator_operand : (place : Place) (operator : Token) (rest : List Token) → 1 ≤ precedence operator.kind → ends_operand place (operator ∷ rest) ≡ true
operator_operand place operator rest one = go operator.kind one
  where
    go : (kind : Kind) → 1 ≤ precedence kind → ends_by place kind rest ≡ true
    go kinds.Dot one = absurd (omega arith)
    go kinds.OpenBracket one = absurd (omega arith)
    go kinds.OpenParen one = absurd (omega arith)
    go kinds.OpenBrace one = absurd (omega arith)
    go _ one = refl

-- ---- levels

-- how tightly the operators of an expression bind
abbrev pub rank : Sort → ℕ
rank (sorts.Binary level context) = number level
rank (sorts.Unary context) = 6
rank _ = 0

abbrev pub IsLevel : Context → Sort → Type 0
IsLevel here (sorts.Binary level context) = context ≡ here
IsLevel here (sorts.Unary context) = context ≡ here
IsLevel here _ = ⊥

number_bounds : (level : Level) → (1 ≤ number level) × (number level ≤ 5)
number_bounds sorts.Disjunction = (omega arith, omega arith)
number_bounds sorts.Conjunction = (omega arith, omega arith)
number_bounds sorts.Comparison = (omega arith, omega arith)
number_bounds sorts.Addition = (omega arith, omega arith)
number_bounds sorts.Multiplication = (omega arith, omega arith)

tighter_level : (here context : Context) (level : Level) → context ≡ here → IsLevel here (tighter level context) × (number level ≤ rank (tighter level context))
tighter_level here context sorts.Disjunction e = (e, omega arith)
tighter_level here context sorts.Conjunction e = (e, omega arith)
tighter_level here context sorts.Comparison e = (e, omega arith)
tighter_level here context sorts.Addition e = (e, omega arith)
tighter_level here context sorts.Multiplication e = (e, omega arith)

sort_level : (context : Context) (min : ℕ) → 1 ≤ min → min ≤ 6 → IsLevel context (level_sort context min) × (min ≤ rank (level_sort context min))
sort_level context zero one six = absurd (omega arith)
sort_level context (suc zero) one six = (refl, omega arith)
sort_level context (suc (suc zero)) one six = (refl, omega arith)
sort_level context (suc (suc (suc zero))) one six = (refl, omega arith)
sort_level context (suc (suc (suc (suc zero)))) one six = (refl, omega arith)
sort_level context (suc (suc (suc (suc (suc zero))))) one six = (refl, omega arith)
sort_level context (suc (suc (suc (suc (suc (suc n)))))) one six = (refl, omega arith)

module _ (p : Parsers) (depth : ℕ) (r : Rereads p depth) where
  binary_at : (place : Place) (min : ℕ) (tokens : List Token) (x : Left) → unary_in p place tokens ≡ Some x → is_type_only x.0 ≡ false → Reaches (binary_turn p place min) (binary_in p place min tokens) x
  binary_at place min tokens x e o = record { turns = length x.1; room = omega arith; comes = rw (e, o) refl }

  at_tokens : (place : Place) (min : ℕ) (tokens others : List Token) (x : Left) → tokens ≡ others → Reaches (binary_turn p place min) (binary_in p place min others) x → Reaches (binary_turn p place min) (binary_in p place min tokens) x
  at_tokens place min tokens others x e h = subst (λ (ws : List Token). Reaches (binary_turn p place min) (binary_in p place min ws) x) (sym e) h

  operator_turn : (place : Place) (min : ℕ) (left : Forest) (operator : Token) (right : Forest) (rest : List Token) → 1 ≤ precedence operator.kind → min ≤ precedence operator.kind
      → p.expr (of_operand place) (precedence operator.kind + 1) (yield right ++ rest) ≡ Some (right, rest) → binary_turn p place min (left, operator ∷ (yield right ++ rest)) ≡ Some (On (node forms.BinaryForm (append left (leaf operator right)) empty, rest))
  operator_turn place min left operator right rest one le read =
      ap (binary_by p place (left, operator ∷ (yield right ++ rest))) (operator_reads min operator (yield right ++ rest) one le) ∙ (rw read refl)

  binary_reaches : (place : Place) (min : ℕ) → 1 ≤ min → (sort : Sort) → IsLevel (context_of place) sort → min ≤ rank sort → (tree : Forest) (rest : List Token) → Fits grammar (shapes.Part sort) tree rest → tight rest ≤ rank sort → ends_operand place rest ≡ true
      → length (yield tree) ≤ depth → Reaches (binary_turn p place min) (binary_in p place min (yield tree ++ rest)) (tree, rest)
  binary_reaches place min one (sorts.Binary level context) c high tree rest (part (first (below (both {left = left} x (both {right = right} (sign {token = operator} s) y))))) loose e le =
      let len = node_long forms.BinaryForm left (leaf operator right) in
      let len' = length-append (yield left) (yield (leaf operator right)) in
      let tail = operator ∷ (yield right ++ rest) in
      let same : precedence operator.kind ≡ number level = eqb-true (precedence operator.kind) (number level) s in
      let bounds = number_bounds level in
      let over : tighter level context ≡ level_sort (context_of place) (precedence operator.kind + 1) =
      ap (tighter level) c ∙ sym (above_level level (context_of place)) ∙ ap (λ (n : ℕ). level_sort (context_of place) (n + 1)) (sym same) in
      let fine = subst (λ (sort : Sort). Fits grammar (shapes.Part sort) right rest) over y in
      let read = right_again p depth r place (precedence operator.kind + 1) right rest (omega arith) (omega (arith, bounds.1)) fine e (omega arith) (omega (arith, le, len, len')) in
      let at_left = binary_reaches place min one (sorts.Binary level context) c high left tail x (omega arith) (operator_operand place operator (yield right ++ rest) (omega (arith, bounds.0))) (omega (arith, le, len, len')) in
      let turn = operator_turn place min left operator right rest (omega (arith, bounds.0)) (omega arith) read in
      at_tokens place min _ (yield left ++ tail) _ (node_spelled forms.BinaryForm left (leaf operator right) rest)
      (one_more (binary_turn p place min) (binary_in p place min (yield left ++ tail)) (left, tail) (node forms.BinaryForm (append left (leaf operator right)) empty, rest) turn (omega (arith, length-append (yield right) rest)) at_left)
  binary_reaches place min one (sorts.Binary level context) c high tree rest (part (second x)) loose e le =
      let k = tighter_level (context_of place) context level c in
      binary_reaches place min one (tighter level context) k.0 (omega (arith, k.1)) tree rest x (omega (arith, k.1)) e le
  binary_reaches place min one (sorts.Unary context) c high tree rest x loose e le =
      let y = subst (λ (context : Context). Fits grammar (shapes.Part (sorts.Unary context)) tree rest) c x in
      binary_at place min (yield tree ++ rest) (tree, rest) (unary_again p depth r place tree rest y e le) (unary_only (context_of place) y)
  binary_reaches place min one _ c high tree rest x loose e le = absurd c

  level_again : (place : Place) (min : ℕ) → 1 ≤ min → min ≤ 6 → (tree : Forest) (rest : List Token) → Fits grammar (shapes.Part (level_sort (context_of place) min)) tree rest → ends_operand place rest ≡ true → tight rest < min → length (yield tree) ≤ depth
      → binary_in p place min (yield tree ++ rest) ≡ Some (tree, rest)
  level_again place min one six tree rest x e lt le =
      let k = sort_level (context_of place) min one six in
      let stop : binary_turn p place min (tree, rest) ≡ Some (Done (tree, rest)) = ap (binary_by p place (tree, rest)) (operator_ends min rest one lt) in
      reaches_end (binary_turn p place min) (binary_in p place min (yield tree ++ rest)) (tree, rest) stop (binary_reaches place min one (level_sort (context_of place) min) k.0 k.1 tree rest x (omega (arith, k.1)) e le)

  -- An expression is read again where neither an operand nor an operator of its level goes on.
  pub binary_again : (place : Place) (min : ℕ) (tree : Forest) (rest : List Token) → 1 ≤ min → min ≤ 6 → Fits grammar (expr_shape place min) tree rest → ends_operand place rest ≡ true → tight rest < min → length (yield tree) ≤ depth
      → binary_in p place min (yield tree ++ rest) ≡ Some (tree, rest)
  binary_again Plain min tree rest one six x e lt le = level_again Plain min one six tree rest x e lt le
  binary_again Header min tree rest one six x e lt le = level_again Header min one six tree rest x e lt le
  binary_again Item min tree rest one six (first x) e lt le = level_again Item min one six tree rest x e lt le
  binary_again Item min tree rest one six (second x) e lt le = only tree x (type_only_again p depth r tree rest x e le)
    where
      only : (tree : Forest) → Fits grammar type_operand tree rest → unary_in p Item (yield tree ++ rest) ≡ Some (tree, rest) → binary_in p Item min (yield tree ++ rest) ≡ Some (tree, rest)
      only tree x read = let o : is_type_only tree ≡ true = type_operand_only x in rw (read, o) refl

  pub value_again : (tree : Forest) (rest : List Token) → Fits grammar (shapes.Part sorts.Value) tree rest → ends_operand Plain rest ≡ true → tight rest < 1 → length (yield tree) ≤ depth → value_in p (yield tree ++ rest) ≡ Some (tree, rest)
  value_again tree rest (part (first x)) e lt le =
      let other : begins kinds.OpenBrace (yield tree ++ rest) ≡ false = part_not (sorts.Binary sorts.Disjunction sorts.Plain) kinds.OpenBrace tree rest refl refl x in
      rw other (binary_again Plain 1 tree rest (omega arith) (omega arith) x e lt le)
  value_again tree rest (part (second (below (part {tree = braces} x)))) e lt le =
      let f = starts sorts.Braces braces rest refl (part x) in
      let opened : begins kinds.OpenBrace (yield braces ++ rest) ≡ true = ap (begins kinds.OpenBrace) f.all ∙ f.kind in
      let read = braces_again p depth r braces rest (part x) (omega (arith, ap length (append-nil (yield braces)))) in
      let all : value_in p (yield braces ++ rest) ≡ Some (node forms.CompositeForm braces empty, rest) = rw (opened, read) refl in
      ap (λ (ws : List Token). value_in p (ws ++ rest)) (append-nil (yield braces)) ∙ all
