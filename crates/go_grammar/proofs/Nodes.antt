-- An expression is one node.
use Rattle.std.proofs.Common.{◌≡◌, true, false, List, refl, sym, ap, ◌∙◌, subst}
use Rattle.go_ast.specs.declared.token.Kind.TheVariants as kinds
use Rattle.go_ast.specs.declared.token.Token.{Token}
use Rattle.go_grammar.specs.Forests.{Form, Forest, empty, leaf, node, append, yield}
use Rattle.go_grammar.specs.Forests as forms
use Rattle.go_grammar.specs.Shapes as shapes
use Rattle.go_grammar.specs.Shapes.{Shape, Fits, part, below, first, second, both, sign, done, more, nothing, is}
use Rattle.go_grammar.specs.Grammar as sorts
use Rattle.go_grammar.specs.Grammar.{Sort, Context, grammar}
use Rattle.go_grammar.specs.StmtReading.{is_single, is_primary, behind_list}
use Rattle.go_grammar.proofs.Forests.{append-empty}
use Rattle.go_grammar.proofs.SameKinds.{true_not_false}

pub record IsNode (tree : Forest) : Type 0 where
  pub form : Form
  pub inner : Forest
  pub all : tree ≡ node form inner empty

node_is : {form : Form} {shape : Shape Sort} {tree : Forest} {rest : List Token} → Fits grammar (shapes.Node form shape) tree rest → IsNode tree
node_is (below {form = form} {trees = trees} x) = record { form = form; inner = trees; all = refl }

operand_node : {tree : Forest} {rest : List Token} → Fits grammar sorts.operand tree rest → IsNode tree
operand_node (first x) = node_is x
operand_node (second (first x)) = node_is x
operand_node (second (second (first x))) = node_is x
operand_node (second (second (second (first x)))) = node_is x
operand_node (second (second (second (second (first x))))) = node_is x
operand_node (second (second (second (second (second (first x)))))) = node_is x
operand_node (second (second (second (second (second (second (first x))))))) = node_is x
operand_node (second (second (second (second (second (second (second x))))))) = node_is x

any_operand_node : (context : Context) {tree : Forest} {rest : List Token} → Fits grammar (shapes.Part (sorts.Operand context)) tree rest → IsNode tree
any_operand_node sorts.Plain (part (first x)) = operand_node x
any_operand_node sorts.Plain (part (second x)) = node_is x
any_operand_node sorts.Header (part x) = operand_node x

primary_node : (context : Context) {tree : Forest} {rest : List Token} → Fits grammar (shapes.Part (sorts.Primary context)) tree rest → IsNode tree
primary_node context (part (first x)) = any_operand_node context x
primary_node context (part (second (first x))) = node_is x
primary_node context (part (second (second (first x)))) = node_is x
primary_node context (part (second (second (second (first x))))) = node_is x
primary_node context (part (second (second (second (second (first x)))))) = node_is x
primary_node context (part (second (second (second (second (second (first x))))))) = node_is x
primary_node context (part (second (second (second (second (second (second x))))))) = node_is x

unary_node : (context : Context) {tree : Forest} {rest : List Token} → Fits grammar (shapes.Part (sorts.Unary context)) tree rest → IsNode tree
unary_node context (part (first x)) = node_is x
unary_node context (part (second x)) = primary_node context x

pub expr_node : (context : Context) {tree : Forest} {rest : List Token} → Fits grammar (sorts.Expr context) tree rest → IsNode tree
expr_node context (part (first x)) = node_is x
expr_node context (part (second (part (first x)))) = node_is x
expr_node context (part (second (part (second (part (first x)))))) = node_is x
expr_node context (part (second (part (second (part (second (part (first x)))))))) = node_is x
expr_node context (part (second (part (second (part (second (part (second (part (first x)))))))))) = node_is x
expr_node context (part (second (part (second (part (second (part (second (part (second x)))))))))) = unary_node context x

-- ---- lists of expressions

not_single : (tree : Forest) (token : Token) (behind : Forest) → is_single (append tree (leaf token behind)) ≡ false
not_single empty token behind = refl
not_single (leaf t b) token behind = refl
not_single (node form inner empty) token behind = refl
not_single (node form inner (leaf t b)) token behind = refl
not_single (node form inner (node f i b)) token behind = refl

-- one expression, with no comma behind it
pub single_fits : (context : Context) {tree : Forest} {rest : List Token} → Fits grammar (sorts.exprs context) tree rest → is_single tree ≡ true → Fits grammar (sorts.Expr context) tree rest
single_fits context (both {left = left} {rest = rest} x done) h = subst (λ (t : Forest). Fits grammar (sorts.Expr context) t rest) (sym (append-empty left)) x
single_fits context (both {left = left} x (more (both {right = other} (sign {token = token} e) y) z)) h = true_not_false h (not_single left token (append other _))

pub primary_single : (tree : Forest) → is_primary tree ≡ true → is_single tree ≡ true
primary_single empty h = absurd cc
primary_single (leaf token behind) h = absurd cc
primary_single (node form inner empty) h = refl
primary_single (node form inner (leaf token behind)) h = absurd cc
primary_single (node form inner (node f i b)) h = absurd cc

pub not_primary : (tree : Forest) (token : Token) (behind : Forest) → is_primary (append tree (leaf token behind)) ≡ true → ⊥
not_primary tree token behind h = true_not_false (primary_single _ h) (not_single tree token behind)

-- an expression without operators is a primary one
pub primary_fits : (context : Context) {tree : Forest} {rest : List Token} → Fits grammar (sorts.Expr context) tree rest → is_primary tree ≡ true → Fits grammar (shapes.Part (sorts.Primary context)) tree rest
primary_fits context (part (first (below x))) h = absurd cc
primary_fits context (part (second (part (first (below x))))) h = absurd cc
primary_fits context (part (second (part (second (part (first (below x))))))) h = absurd cc
primary_fits context (part (second (part (second (part (second (part (first (below x))))))))) h = absurd cc
primary_fits context (part (second (part (second (part (second (part (second (part (first (below x))))))))))) h = absurd cc
primary_fits context (part (second (part (second (part (second (part (second (part (second (part (first (below x))))))))))))) h = absurd cc
primary_fits context (part (second (part (second (part (second (part (second (part (second (part (second x)))))))))))) h = x

pub listed_primary : (context : Context) {tree : Forest} {rest : List Token} → Fits grammar (sorts.exprs context) tree rest → is_primary tree ≡ true → Fits grammar (shapes.Part (sorts.Primary context)) tree rest
listed_primary context {tree} x h = primary_fits context (single_fits context x (primary_single tree h)) h

-- a name as an expression
name_operand : {inner : Forest} {rest : List Token} → Fits grammar sorts.operand (node forms.NameForm inner empty) rest → Fits grammar (shapes.word kinds.Name) inner rest
name_operand (first x) = elim x [ ]
name_operand (second (first x)) = elim x [ ]
name_operand (second (second (first x))) = elim x [ ]
name_operand (second (second (second (first (below x))))) = x
name_operand (second (second (second (second (first x))))) = elim x [ ]
name_operand (second (second (second (second (second (first x)))))) = elim x [ ]
name_operand (second (second (second (second (second (second (first x))))))) = elim x [ ]
name_operand (second (second (second (second (second (second (second x))))))) = elim x [ ]

name_suffix : {sort : Sort} {inner : Forest} {rest : List Token} → Fits grammar (sorts.suffixed sort) (node forms.NameForm inner empty) rest → ⊥
name_suffix (first x) = elim x [ ]
name_suffix (second (first x)) = elim x [ ]
name_suffix (second (second (first x))) = elim x [ ]
name_suffix (second (second (second (first x)))) = elim x [ ]
name_suffix (second (second (second (second (first x))))) = elim x [ ]
name_suffix (second (second (second (second (second x))))) = elim x [ ]

name_kind : {inner : Forest} {rest : List Token} → Fits grammar (sorts.Expr sorts.Header) (node forms.NameForm inner empty) rest → Fits grammar (shapes.word kinds.Name) inner rest
name_kind (part (first x)) = elim x [ ]
name_kind (part (second (part (first x)))) = elim x [ ]
name_kind (part (second (part (second (part (first x)))))) = elim x [ ]
name_kind (part (second (part (second (part (second (part (first x)))))))) = elim x [ ]
name_kind (part (second (part (second (part (second (part (second (part (first x)))))))))) = elim x [ ]
name_kind (part (second (part (second (part (second (part (second (part (second (part (first x)))))))))))) = elim x [ ]
name_kind (part (second (part (second (part (second (part (second (part (second (part (second (part (first (part x))))))))))))))) = name_operand x
name_kind (part (second (part (second (part (second (part (second (part (second (part (second (part (second x)))))))))))))) = absurd (name_suffix x)

pub name_token : (token : Token) {rest : List Token} → Fits grammar (sorts.Expr sorts.Header) (node forms.NameForm (leaf token empty) empty) rest → is token.kind kinds.Name ≡ true
name_token token x = go (name_kind x)
  where
    go : {rest : List Token} → Fits grammar (shapes.word kinds.Name) (leaf token empty) rest → is token.kind kinds.Name ≡ true
    go (sign e) = e

-- the operator behind a list, and what follows it
behind_many : (context : Context) {tree : Forest} {rest : List Token} → Fits grammar (shapes.Many (shapes.Then (shapes.word kinds.Comma) (sorts.Expr context))) tree rest → (behind : Forest) → behind_list (append tree behind) ≡ behind_list behind
behind_many context done behind = refl
behind_many context (more {right = right} (both {right = other} (sign {token = token} e) y) z) behind =
    let n = expr_node context y in
    let one : behind_list (append (append (leaf token other) right) behind) ≡ behind_list (append (append (leaf token (node n.form n.inner empty)) right) behind) = ap (λ (t : Forest). behind_list (append (append (leaf token t) right) behind)) n.all in
    one ∙ rw e (behind_many context z behind)

pub behind_exprs : (context : Context) {tree : Forest} {rest : List Token} → Fits grammar (sorts.exprs context) tree rest → (behind : Forest) → behind_list (append tree behind) ≡ behind_list behind
behind_exprs context (both {left = left} {right = right} x y) behind =
    let n = expr_node context x in
    ap (λ (t : Forest). behind_list (append (append t right) behind)) n.all ∙ behind_many context y behind
